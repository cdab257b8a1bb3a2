use Rattle.tw_machine.specs.History.{history}
use Rattle.safety_laws.specs.Ups.{WasUp}
use Rattle.safety_laws.proofs.GroupLaws.{grouped_well, agreed}
use Rattle.safety_laws.proofs.Leases.{up_outlasts}
use Rattle.safety_laws.proofs.Lists.{of_each}
use Rattle.safety_laws.proofs.laws.leases_outlast_older_groups.Goals as goal

pub returns : goal.returns
returns c = record {
  outlast = λ team past u later sound ok i j begins.
      let up = of_each (WasUp team (history team past).makes) (history team past).ups u (grouped_well team past sound ok).history.ups i in
      up_outlasts team (history team past).promises (history team past).makes (agreed team past sound ok) u up later j begins.turn begins.above;
}
