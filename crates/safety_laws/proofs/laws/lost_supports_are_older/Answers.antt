use Rattle.tw_machine.specs.World.{world}
use Rattle.safety_laws.proofs.ClockLaw.{each_running}
use Rattle.safety_laws.proofs.GroupLaws.{grouped_well}
use Rattle.safety_laws.proofs.laws.lost_supports_are_older.Goals as goal

pub returns : goal.returns
returns c = record { above = λ team past who sound ok. each_running ((world team past).process_of who) (λ p runs. ((grouped_well team past sound ok).running who p runs).above) }
