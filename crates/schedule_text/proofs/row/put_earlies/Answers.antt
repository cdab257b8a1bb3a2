use Rattle.std.proofs.Common.{arith}
use Rattle.schedule_text.specs.RowLines.{early_text}
use Rattle.schedule_text.proofs.Chains.{written_lent, puts_lent}
use Rattle.schedule_text.proofs.row.put_earlies.Goals as goal

pub returns-in_err-put_early : goal.returns-in_err-put_early
returns-in_err-put_early g c = puts_lent _ early_text c.args.earlies.now c.loop-kept.kept-index c.kept-item.result (omega arith) c.kept-item.is c.loop-kept.invariant c.from_residual.ensures.0 c.in_err-put_early.ensures.cut

pub loop-kept-preserved : goal.loop-kept-preserved
loop-kept-preserved g c = written_lent early_text c.args.earlies.now c.loop-kept.kept-index c.kept-item.result (omega arith) c.kept-item.is c.loop-kept.invariant c.in_ok-put_early.ensures.written
