use Rattle.schedule_text.proofs.Chains.{puts_more, puts_stop}
use Rattle.schedule_text.proofs.line.put_spaced.Goals as goal

pub returns-in_err-put_bytes : goal.returns-in_err-put_bytes
returns-in_err-put_bytes g c = puts_stop _ _ c.from_residual.ensures.0 c.in_err-put_bytes.ensures.cut

pub returns : goal.returns
returns g c = puts_more c.in_ok-put_bytes.ensures.written c.put_field.ensures
