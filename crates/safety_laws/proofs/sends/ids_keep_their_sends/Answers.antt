use Rattle.tw_machine.specs.World.{world}
use Rattle.safety_laws.proofs.ClockLaw.{each_running}
use Rattle.safety_laws.proofs.SendLaws.{sent_well}
use Rattle.safety_laws.proofs.sends.ids_keep_their_sends.Goals as goal

pub returns-clause-made : goal.returns-clause-made
returns-clause-made c = λ team past sound ok. (sent_well team past sound ok).history.1.makes

pub returns-clause-kept : goal.returns-clause-kept
returns-clause-kept c = λ team past who sound ok. each_running ((world team past).process_of who) (λ p runs. ((sent_well team past sound ok).running who p runs).1)

pub returns-clause-carried : goal.returns-clause-carried
returns-clause-carried c = λ team past sound ok. (sent_well team past sound ok).history.1.told
