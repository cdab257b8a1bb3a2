use Rattle.safety_laws.proofs.SendLaws.{supported_well}
use Rattle.safety_laws.proofs.sends.senders_are_supported.Goals as goal

pub returns : goal.returns
returns c = λ team past sound ok. (supported_well team past sound ok).history.1.sent
