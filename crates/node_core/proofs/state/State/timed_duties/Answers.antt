use Rattle.std.proofs.Common.{◌≡◌, ◌∙◌, sym}
use Rattle.tw_machine.specs.Run.{Run}
use Rattle.tw_machine.specs.Electing.{drop_ballot}
use Rattle.tw_machine.specs.Deciding.{has_turn, take_turn}
use Rattle.tw_machine.specs.Grouping.{make_group}
use Rattle.tw_machine.specs.Duties.{timed_duties}
use Rattle.tw_machine.proofs.Parts.{before_delivery}
use Rattle.tw_machine.proofs.Exclusions.{turn_or_group, no_turn}
use Rattle.node_core.specs.StandsFor.{RunStandsFor}
use Rattle.node_core.proofs.Concerns.{turn_alike}
use Rattle.node_core.proofs.state.State.timed_duties.Goals as goal
use Rattle.node_core.proofs.state.State.timed_duties.Goals.{then-has_turn, else-has_turn}

pub returns-clause-stands : goal.returns-clause-stands
unfolding timed_duties
returns-clause-stands c = λ team r s.
    let a : Run = drop_ballot team c.args.t r in
    let before : Run = before_delivery team c.args.now.now c.args.t r in
    let dropped : RunStandsFor team c.drop_ballot.new.self c.args.out.now a = c.drop_ballot.ensures.stands team c.args.out.now r s in
    let turn : c.has_turn.result ≡ has_turn team c.args.t a.process = c.has_turn.ensures ∙ turn_alike team c.args.t c.drop_ballot.new.self a.process dropped.same_team dropped.process in
    c.deliver.ensures.stands team before (c.begin_election.ensures.stands team (make_group team c.args.now.now c.args.t (take_turn team c.args.now.now c.args.t a)) (elim c.if-has_turn.branch [
      | then-has_turn w ↦ rw (w.self-is, w.out-is, turn_or_group team c.args.now.now c.args.t r (sym turn ∙ w.if-has_turn.true)) (w.take_turn.ensures.stands team a dropped)
      | else-has_turn w ↦ rw (w.self-is, w.out-is, no_turn team c.args.now.now c.args.t a (sym turn ∙ w.if-has_turn.false)) (w.make_group.ensures.stands team a dropped)
    ]))
