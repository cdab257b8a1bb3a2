use Rattle.tw_machine.specs.World.{world}
use Rattle.safety_laws.proofs.ClockLaw.{each_running}
use Rattle.safety_laws.proofs.GroupLaws.{grouped_well}
use Rattle.safety_laws.proofs.SendLaws.{held_well}
use Rattle.safety_laws.proofs.Under.{under}
use Rattle.safety_laws.proofs.laws.decisions_are_promised.Goals as goal

pub returns-clause-under : goal.returns-clause-under
returns-clause-under c = under

pub returns-clause-held : goal.returns-clause-held
returns-clause-held c = λ team past who sound ok. each_running ((world team past).process_of who) (λ p runs. ((grouped_well team past sound ok).running who p runs).promiser.held)

pub returns-clause-below : goal.returns-clause-below
returns-clause-below c = λ team past who sound ok. each_running ((world team past).process_of who) (λ p runs. ((held_well team past sound ok).running who p runs).1)

pub returns-clause-makes : goal.returns-clause-makes
returns-clause-makes c = λ team past sound ok. (grouped_well team past sound ok).history.makes.under

pub returns-clause-once : goal.returns-clause-once
returns-clause-once c = λ team past sound ok. (grouped_well team past sound ok).history.once
