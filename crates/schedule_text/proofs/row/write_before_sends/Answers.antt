use Rattle.schedule_text.proofs.Chains.{puts_more, puts_stop}
use Rattle.schedule_text.proofs.row.write_before_sends.Goals as goal

pub returns-in_err-write_line : goal.returns-in_err-write_line
returns-in_err-write_line g c = puts_stop _ _ c.from_residual.ensures.0 c.in_err-write_line.ensures.cut

pub returns : goal.returns
returns g c = puts_more c.in_ok-write_line.ensures.written c.put_below_line.ensures
