use Rattle.tw_machine.specs.World.{world}
use Rattle.safety_laws.proofs.ClockLaw.{each_running}
use Rattle.safety_laws.proofs.ListLaws.{listed_well}
use Rattle.safety_laws.proofs.group_lists.logs_are_the_groups_list.Goals as goal

pub returns : goal.returns
returns c = λ team past who sound ok. each_running ((world team past).process_of who) (λ p runs. ((listed_well team past sound ok).running who p runs).1.1)
