use Rattle.schedule_text.proofs.Chains.{puts_more, puts_stop}
use Rattle.record_text.proofs.record.write_start.Goals as goal

pub returns-in_err-put_team : goal.returns-in_err-put_team
returns-in_err-put_team g c = puts_stop _ _ c.from_residual.ensures.0 c.in_err-put_team.ensures.cut

pub returns : goal.returns
returns g c = puts_more c.in_ok-put_team.ensures.written c.put_core.ensures
