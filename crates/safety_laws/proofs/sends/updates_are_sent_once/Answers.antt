use Rattle.tw_machine.specs.World.{world}
use Rattle.safety_laws.proofs.ClockLaw.{each_running}
use Rattle.safety_laws.proofs.SendLaws.{sent_well, fills_no_hole}
use Rattle.safety_laws.proofs.sends.updates_are_sent_once.Goals as goal

pub returns-clause-once : goal.returns-clause-once
returns-clause-once c = λ team past sound ok. (sent_well team past sound ok).history.0.1.0

pub returns-clause-senders : goal.returns-clause-senders
returns-clause-senders c = λ team past sound ok. (sent_well team past sound ok).history.0.1.1

pub returns-clause-numbers : goal.returns-clause-numbers
returns-clause-numbers c = λ team past who sound ok. each_running ((world team past).process_of who) (λ p runs. ((sent_well team past sound ok).running who p runs).0.1)

pub returns-clause-holes : goal.returns-clause-holes
returns-clause-holes c = λ team past who sound ok. each_running ((world team past).process_of who) (λ p runs. fills_no_hole team past who p sound ok runs)
