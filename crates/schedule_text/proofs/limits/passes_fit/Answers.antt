use Rattle.std.proofs.Common.{arith}
use Rattle.tw_types.specs.Printed.{pass_printed}
use Rattle.tw_machine.specs.RowLimits.{PassFits}
use Rattle.schedule_text.proofs.Fitting.{all_more}
use Rattle.schedule_text.proofs.limits.passes_fit.Goals as goal

pub loop-pass-preserved : goal.loop-pass-preserved
loop-pass-preserved c = all_more PassFits pass_printed c.args.passes.now c.loop-pass.pass-index c.pass-item.result (omega arith) c.pass-item.is c.loop-pass.invariant c.pass_fits.ensures
