use Rattle.std.proofs.Common.{◌≡◌, ◌∙◌, refl, sym, true}
use Rattle.tw_machine.specs.Run.{Run}
use Rattle.tw_machine.specs.Beating.{is_due, beat_marked, ask_again, repeat_decision}
use Rattle.node_core.proofs.state.State.give_beat.Goals as goal

pub returns-then-is_due-clause-stands : goal.returns-then-is_due-clause-stands
returns-then-is_due-clause-stands c = λ team r s.
    let due : is_due team.pace c.args.now.now.h r.process.beat ≡ true = rw (← s.same_team, s.process.beat) (sym c.is_due.ensures ∙ c.if-is_due.true) in
    let marked : Run = beat_marked c.args.now.now.h r in
    rw due (c.give_signs.ensures.stands team (repeat_decision team c.args.now.now (ask_again c.args.now.now marked)) (c.repeat_decision.ensures.stands team (ask_again c.args.now.now marked) (c.ask_again.ensures.stands team marked (record {
      same_team = s.same_team;
      process = record { identity = s.process.identity; timing = s.process.timing; beat = refl; vote = s.process.vote; ballot = s.process.ballot; belief = s.process.belief; log = s.process.log; waiting = s.process.waiting; hold = s.process.hold; next_seq = s.process.next_seq };
      given = s.given;
    }))))
