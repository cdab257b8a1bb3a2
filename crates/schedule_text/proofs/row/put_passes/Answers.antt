use Rattle.std.proofs.Common.{arith}
use Rattle.schedule_text.specs.RowLines.{pass_text}
use Rattle.schedule_text.proofs.Chains.{written_lent, puts_lent}
use Rattle.schedule_text.proofs.row.put_passes.Goals as goal

pub returns-in_err-put_pass : goal.returns-in_err-put_pass
returns-in_err-put_pass g c = puts_lent _ pass_text c.args.passes.now c.loop-pass.pass-index c.pass-item.result (omega arith) c.pass-item.is c.loop-pass.invariant c.from_residual.ensures.0 c.in_err-put_pass.ensures.cut

pub loop-pass-preserved : goal.loop-pass-preserved
loop-pass-preserved g c = written_lent pass_text c.args.passes.now c.loop-pass.pass-index c.pass-item.result (omega arith) c.pass-item.is c.loop-pass.invariant c.in_ok-put_pass.ensures.written
