use Rattle.tw_machine.specs.History.{history}
use Rattle.safety_laws.proofs.GroupLaws.{agreed}
use Rattle.safety_laws.proofs.Quorums.{majority_binds}
use Rattle.safety_laws.proofs.laws.majorities_bind_later_groups.Goals as goal

pub returns : goal.returns
returns c = record {
  binds = λ team past m later sound ok i j many begins.
      let b = majority_binds team (history team past).promises (history team past).makes (agreed team past sound ok) m later i j many begins.turn begins.above in
      (b.best, b.before, b.group);
}
