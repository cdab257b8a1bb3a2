use Rattle.std.proofs.Common.{arith}
use Rattle.tw_types.specs.Printed.{update_printed}
use Rattle.tw_machine.specs.RowLimits.{UpdateFits}
use Rattle.schedule_text.proofs.Fitting.{all_more}
use Rattle.schedule_text.proofs.limits.earlies_fit.Goals as goal

pub loop-kept-preserved : goal.loop-kept-preserved
loop-kept-preserved c = all_more UpdateFits update_printed c.args.earlies.now c.loop-kept.kept-index c.kept-item.result (omega arith) c.kept-item.is c.loop-kept.invariant c.update_fits.ensures
