use Rattle.std.proofs.Common.{arith}
use Rattle.schedule_text.specs.LineFields.{spaced}
use Rattle.schedule_text.proofs.Chains.{written_item, puts_item}
use Rattle.schedule_text.proofs.line.put_fields.Goals as goal

pub returns-in_err-put_spaced : goal.returns-in_err-put_spaced
returns-in_err-put_spaced g c = puts_item _ spaced c.args.fields.now c.loop-field.field-index _ (omega arith) c.loop-field.invariant c.from_residual.ensures.0 c.in_err-put_spaced.ensures.cut

pub loop-field-preserved : goal.loop-field-preserved
loop-field-preserved g c = written_item spaced c.args.fields.now c.loop-field.field-index _ (omega arith) c.loop-field.invariant c.in_ok-put_spaced.ensures.written
