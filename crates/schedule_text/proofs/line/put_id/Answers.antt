use Rattle.schedule_text.proofs.Chains.{puts_more, puts_stop, puts_next}
use Rattle.schedule_text.proofs.line.put_id.Goals as goal

pub returns-in_err-put_number : goal.returns-in_err-put_number
returns-in_err-put_number g c = puts_stop _ _ c.from_residual.ensures.0 c.in_err-put_number.ensures.cut

pub returns-in_err-put_bytes : goal.returns-in_err-put_bytes
returns-in_err-put_bytes g c = puts_next _ _ c.in_ok-put_number.ensures.written c.from_residual-in_err-put_bytes.ensures.0 c.in_err-put_bytes.ensures.cut

pub returns : goal.returns
returns g c = puts_more c.in_ok-put_number.ensures.written (puts_more c.in_ok-put_bytes.ensures.written c.put_pair.ensures)
