use Rattle.std.proofs.Common.{◌≡◌, ◌∙◌, refl, sym, ap, subst, true, List, [], Some}
use Rattle.tw_machine.specs.Types.{Kept, Decision}
use Rattle.tw_types.specs.Beliefs.{last_of}
use Rattle.tw_types.specs.Turns.{next_decision}
use Rattle.tw_types.specs.Process.{Identity}
use Rattle.tw_machine.specs.Standing.{last_decision}
use Rattle.tw_machine.specs.Deciding.{has_turn, entries_to_add, kept_to_add, decision_made}
use Rattle.node_core.specs.StandsFor.{RunStandsFor, belief_seen}
use Rattle.node_core.proofs.Concerns.{turn_is}
use Rattle.node_core.proofs.state.State.take_turn.Goals as goal

pub returns-in-Some-clause-stands : goal.returns-in-Some-clause-stands
returns-in-Some-clause-stands c = λ team r s.
    let is : last_of (belief_seen c.args.self.now.belief) ≡ Some c.in-Some.last.now = sym c.last.ensures ∙ rw c.in-Some.is refl in
    let last : last_decision r.process ≡ Some c.in-Some.last.now = ap last_of s.process.belief ∙ is in
    let has : has_turn team c.args.t r.process ≡ true = rw (← s.same_team, s.process.identity, s.process.vote, s.process.belief) c.requires.due in
    let next : c.next_decision-next.result ≡ next_decision (entries_to_add team c.args.t c.in-Some.last.now r.process) c.in-Some.last.now c.args.t r.process.identity.who = rw (← s.same_team)
    (c.next_decision-next.ensures.exact r.process s.process ∙ ap (λ (i : Identity). next_decision (entries_to_add c.args.self.now.team c.args.t c.in-Some.last.now r.process) c.in-Some.last.now c.args.t i.who) (sym s.process.identity)) in
    let added : List Kept = kept_to_add team c.args.t c.in-Some.last.now r.process in
    rw (turn_is team c.args.now.now c.args.t r c.in-Some.last.now last has)
    (subst (λ (d : Decision). RunStandsFor team c.make_decision.new.self c.make_decision.new.out (decision_made team c.args.now.now (record { decision = d; before = Some c.in-Some.last.now; reports = []; appended = added }) c.args.t r)) next
    (c.make_decision.ensures.stands team (Some c.in-Some.last.now) [] added r s))
