use Rattle.std.proofs.Common.{refl}
use Rattle.tw_types.specs.Votes.{Promise}
use Rattle.node_core.proofs.Concerns.{rated, decision_rule, election_rule, promise_rule, late_decision, late_election, late_promise, update_rule, ask_rule}
use Rattle.node_core.proofs.state.State.kind_rule.Goals as goal

pub returns-in-Ok-clause-stands : goal.returns-in-Ok-clause-stands
returns-in-Ok-clause-stands c = λ team r s.
    rw (c.in-Decision.is, decision_rule team c.args.now.now c.args.head.now c.in-Decision.decision r c.in-Ok.field-0 (rated c.args.self.now.team team c.args.now.now c.args.head.now c.timely_reading.result _ s.same_team c.timely_reading.ensures.exact c.in-Ok.is)) (c.take_decision.ensures.stands team r s)

pub returns-in-Ok-clause-dropped : goal.returns-in-Ok-clause-dropped
returns-in-Ok-clause-dropped c = λ team r s.
    rw (c.in-Decision.is, decision_rule team c.args.now.now c.args.head.now c.in-Decision.decision r c.in-Ok.field-0 (rated c.args.self.now.team team c.args.now.now c.args.head.now c.timely_reading.result _ s.same_team c.timely_reading.ensures.exact c.in-Ok.is)) (c.take_decision.ensures.dropped team r s)

pub returns-in-Ok-timely_reading-2-clause-stands : goal.returns-in-Ok-timely_reading-2-clause-stands
returns-in-Ok-timely_reading-2-clause-stands c = λ team r s.
    let p : Promise = record { number = c.in-Promise.number; report = c.in-Promise.report; decision = c.in-Promise.decision } in
    rw (c.in-Promise.is, promise_rule team c.args.now.now c.args.head.now p r c.in-Ok-timely_reading-2.field-0 (rated c.args.self.now.team team c.args.now.now c.args.head.now c.timely_reading-in-Promise.result _ s.same_team c.timely_reading-in-Promise.ensures.exact c.in-Ok-timely_reading-2.is), ← c.as_ref.ensures.value) (c.take_promise.ensures.stands team c.args.out.now r s)

pub returns-in-Ok-timely_reading-2-clause-dropped : goal.returns-in-Ok-timely_reading-2-clause-dropped
returns-in-Ok-timely_reading-2-clause-dropped c = λ team r s.
    let p : Promise = record { number = c.in-Promise.number; report = c.in-Promise.report; decision = c.in-Promise.decision } in
    rw (c.in-Promise.is, promise_rule team c.args.now.now c.args.head.now p r c.in-Ok-timely_reading-2.field-0 (rated c.args.self.now.team team c.args.now.now c.args.head.now c.timely_reading-in-Promise.result _ s.same_team c.timely_reading-in-Promise.ensures.exact c.in-Ok-timely_reading-2.is), ← c.as_ref.ensures.value) (c.take_promise.ensures.dropped team c.args.out.now r s)

pub returns-in-Update-clause-stands : goal.returns-in-Update-clause-stands
returns-in-Update-clause-stands c = λ team r s. rw (c.in-Update.is, update_rule team c.args.now.now c.args.head.now _ r) (c.take_update.ensures.stands team r s)

pub returns-in-Update-clause-dropped : goal.returns-in-Update-clause-dropped
returns-in-Update-clause-dropped c = λ team r s. rw (c.in-Update.is, update_rule team c.args.now.now c.args.head.now _ r) (c.take_update.ensures.dropped team r s)

pub returns-in-Ask-clause-stands : goal.returns-in-Ask-clause-stands
returns-in-Ask-clause-stands c = λ team r s. rw (c.in-Ask.is, ask_rule team c.args.now.now c.args.head.now _ r) (c.answer_ask.ensures.stands team r s)

pub returns-in-Ask-clause-dropped : goal.returns-in-Ask-clause-dropped
returns-in-Ask-clause-dropped c = λ team r s. rw (c.in-Ask.is, ask_rule team c.args.now.now c.args.head.now _ r) (c.answer_ask.ensures.dropped team r s)

pub returns-in-Err-clause-stands : goal.returns-in-Err-clause-stands
returns-in-Err-clause-stands c = λ team r s. rw (c.in-Decision.is, late_decision team c.args.now.now c.args.head.now c.in-Decision.decision r c.in-Err.reason (rated c.args.self.now.team team c.args.now.now c.args.head.now c.timely_reading.result _ s.same_team c.timely_reading.ensures.exact c.in-Err.is)) s

pub returns-in-Err-timely_reading-clause-stands : goal.returns-in-Err-timely_reading-clause-stands
returns-in-Err-timely_reading-clause-stands c = λ team r s. rw (c.in-Election.is, late_election team c.args.now.now c.args.head.now c.in-Election.number c.in-Election.why r c.in-Err-timely_reading.reason (rated c.args.self.now.team team c.args.now.now c.args.head.now c.timely_reading-in-Election.result _ s.same_team c.timely_reading-in-Election.ensures.exact c.in-Err-timely_reading.is)) s

pub returns-in-Ok-timely_reading-clause-stands : goal.returns-in-Ok-timely_reading-clause-stands
returns-in-Ok-timely_reading-clause-stands c = λ team r s. rw (c.in-Election.is, election_rule team c.args.now.now c.args.head.now c.in-Election.number c.in-Election.why r c.in-Ok-timely_reading.t (rated c.args.self.now.team team c.args.now.now c.args.head.now c.timely_reading-in-Election.result _ s.same_team c.timely_reading-in-Election.ensures.exact c.in-Ok-timely_reading.is)) (c.answer_election.ensures.stands team r s)

pub returns-in-Err-timely_reading-2-clause-stands : goal.returns-in-Err-timely_reading-2-clause-stands
returns-in-Err-timely_reading-2-clause-stands c = λ team r s. rw (c.in-Promise.is, late_promise team c.args.now.now c.args.head.now (record { number = c.in-Promise.number; report = c.in-Promise.report; decision = c.in-Promise.decision }) r c.in-Err-timely_reading-2.reason (rated c.args.self.now.team team c.args.now.now c.args.head.now c.timely_reading-in-Promise.result _ s.same_team c.timely_reading-in-Promise.ensures.exact c.in-Err-timely_reading-2.is)) s

pub returns-in-Err-clause-dropped : goal.returns-in-Err-clause-dropped
returns-in-Err-clause-dropped c = λ team r s. rw (c.in-Decision.is, late_decision team c.args.now.now c.args.head.now c.in-Decision.decision r c.in-Err.reason (rated c.args.self.now.team team c.args.now.now c.args.head.now c.timely_reading.result _ s.same_team c.timely_reading.ensures.exact c.in-Err.is)) refl

pub returns-in-Err-timely_reading-clause-dropped : goal.returns-in-Err-timely_reading-clause-dropped
returns-in-Err-timely_reading-clause-dropped c = λ team r s. rw (c.in-Election.is, late_election team c.args.now.now c.args.head.now c.in-Election.number c.in-Election.why r c.in-Err-timely_reading.reason (rated c.args.self.now.team team c.args.now.now c.args.head.now c.timely_reading-in-Election.result _ s.same_team c.timely_reading-in-Election.ensures.exact c.in-Err-timely_reading.is)) refl

pub returns-in-Ok-timely_reading-clause-dropped : goal.returns-in-Ok-timely_reading-clause-dropped
returns-in-Ok-timely_reading-clause-dropped c = λ team r s. rw (c.in-Election.is, election_rule team c.args.now.now c.args.head.now c.in-Election.number c.in-Election.why r c.in-Ok-timely_reading.t (rated c.args.self.now.team team c.args.now.now c.args.head.now c.timely_reading-in-Election.result _ s.same_team c.timely_reading-in-Election.ensures.exact c.in-Ok-timely_reading.is)) (c.answer_election.ensures.dropped team r s)

pub returns-in-Err-timely_reading-2-clause-dropped : goal.returns-in-Err-timely_reading-2-clause-dropped
returns-in-Err-timely_reading-2-clause-dropped c = λ team r s. rw (c.in-Promise.is, late_promise team c.args.now.now c.args.head.now (record { number = c.in-Promise.number; report = c.in-Promise.report; decision = c.in-Promise.decision }) r c.in-Err-timely_reading-2.reason (rated c.args.self.now.team team c.args.now.now c.args.head.now c.timely_reading-in-Promise.result _ s.same_team c.timely_reading-in-Promise.ensures.exact c.in-Err-timely_reading-2.is)) refl
