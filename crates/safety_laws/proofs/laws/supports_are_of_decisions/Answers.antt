use Rattle.tw_machine.specs.World.{world}
use Rattle.safety_laws.proofs.ClockLaw.{each_running}
use Rattle.safety_laws.proofs.GroupLaws.{grouped_well, agreed}
use Rattle.safety_laws.proofs.laws.supports_are_of_decisions.Goals as goal

pub returns-clause-supports : goal.returns-clause-supports
returns-clause-supports c = λ team past sound ok. (agreed team past sound ok).supported

pub returns-clause-remembers : goal.returns-clause-remembers
returns-clause-remembers c = λ team past who sound ok. each_running ((world team past).process_of who) (λ p runs. ((grouped_well team past sound ok).running who p runs).memory)
