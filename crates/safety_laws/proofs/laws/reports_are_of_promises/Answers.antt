use Rattle.tw_machine.specs.World.{world}
use Rattle.tw_machine.specs.History.{history}
use Rattle.safety_laws.proofs.ClockLaw.{each_running}
use Rattle.safety_laws.proofs.GroupLaws.{grouped_well}
use Rattle.safety_laws.proofs.Turns.{first_of_made}
use Rattle.safety_laws.proofs.laws.reports_are_of_promises.Goals as goal

pub returns-clause-ballots : goal.returns-clause-ballots
returns-clause-ballots c = λ team past who sound ok. each_running ((world team past).process_of who) (λ p runs. ((grouped_well team past sound ok).running who p runs).maker.ballot)

pub returns-clause-arise : goal.returns-clause-arise
returns-clause-arise c = λ team past sound ok. (grouped_well team past sound ok).history.makes.arise

pub returns-clause-kept : goal.returns-clause-kept
returns-clause-kept c = λ team past who sound ok. each_running ((world team past).process_of who) (λ p runs. ((grouped_well team past sound ok).running who p runs).maker.keeps)

pub returns-clause-carried : goal.returns-clause-carried
returns-clause-carried c = λ team past sound ok. (grouped_well team past sound ok).history.makes.carried_made

pub returns-clause-first : goal.returns-clause-first
returns-clause-first c = λ team past d sound ok made. first_of_made team (history team past).promises (history team past).makes (grouped_well team past sound ok).history.makes.arise d made

pub returns-clause-still : goal.returns-clause-still
returns-clause-still c = λ team past who sound ok. each_running ((world team past).process_of who) (λ p runs. ((grouped_well team past sound ok).running who p runs).still)
