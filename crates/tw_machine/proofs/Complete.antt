-- What is answered to a datagram that comes in time and that nothing is against.
use Rattle.std.proofs.Common.{◌≡◌, refl, ap, ◌∙◌, ℕ, Bool, true, cond, Option, Some, None, Result, Ok, Err}
use Rattle.tw_num.specs.declared.moment.Moment.{Moment}
use Rattle.tw_machine.specs.Types.{Team, UpdateId, Decision, Head, Why, Reason}
use Rattle.tw_types.specs.declared.datagram.Body.TheVariants as bodies
use Rattle.tw_types.specs.declared.answer.Reason.TheVariants.{Old}
use Rattle.tw_types.specs.Refusals.{first_refusal}
use Rattle.tw_types.specs.Votes.{Promise}
use Rattle.tw_types.specs.Waiting.{payloads_of}
use Rattle.tw_types.specs.Logs.{list_tests, first_missing}
use Rattle.tw_types.specs.Process.{ToTake}
use Rattle.tw_types.specs.Ballots.{wants}
use Rattle.tw_machine.specs.Run.{Run, Ruled, done, dropped}
use Rattle.tw_machine.specs.Standing.{promise_by}
use Rattle.tw_machine.specs.Control.{rate_of, timely_reading, if_timely}
use Rattle.tw_machine.specs.Entering.{decision_entered, decision_held, dropped_missing, enter_decision}
use Rattle.tw_machine.specs.Taking.{decision_tests, take_decision}
use Rattle.tw_machine.specs.Electing.{answer_tests, election_answered, answer_election}
use Rattle.tw_machine.specs.Grouping.{promise_added, take_promise}
use Rattle.tw_machine.specs.Rules.{kind_rule}

timely_rule : (team : Team) (now : Moment) (head : Head) (rule : ℕ → Run → Ruled) (r : Run) (t : ℕ) → timely_reading (rate_of team now head) now.reading ≡ Ok t → if_timely team now head rule r ≡ rule t r
timely_rule team now head rule r t e = ap (λ (o : Result ℕ Reason). elim o as (λ o. Ruled) [ Err reason ↦ dropped reason r | Ok t ↦ rule t r ]) e

unopposed : (o : Option Reason) (a b : Run) → o ≡ None → (elim o as (λ o. Ruled) [ None ↦ done a | Some reason ↦ dropped reason b ]).dropped ≡ None
unopposed None a b e = refl
unopposed (Some reason) a b e = absurd (cc)

-- a decision that no test of the list refuses, and that lacks no payload, enters the list
entered_is_done : (now : Moment) (d : Decision) (r : Run) → first_refusal (list_tests r.process.log d) ≡ None → first_missing r.process.log (payloads_of r.process.waiting) d ≡ None → (enter_decision now d r).dropped ≡ None
entered_is_done now d r fits whole =
    ap (λ (o : Option Reason). (elim o as (λ o. Ruled) [ None ↦ by_payload (first_missing r.process.log (payloads_of r.process.waiting) d) | Some reason ↦ dropped reason r ]).dropped) fits
    ∙ ap (λ (o : Option UpdateId). (by_payload o).dropped) whole
  where
    by_payload : Option UpdateId → Ruled
    by_payload o = elim o as (λ o. Ruled) [ None ↦ done (decision_entered d r) | Some id ↦ dropped_missing id (decision_held now ToTake d d.maker id r) ]

pub decision_is_done : (team : Team) (now : Moment) (head : Head) (d : Decision) (r : Run) (t : ℕ) → timely_reading (rate_of team now head) now.reading ≡ Ok t
    → first_refusal (decision_tests r.process d) ≡ None → first_refusal (list_tests r.process.log d) ≡ None → first_missing r.process.log (payloads_of r.process.waiting) d ≡ None
    → (kind_rule team now head (bodies.Decision d) r).dropped ≡ None
unfolding kind_rule
decision_is_done team now head d r t e none fits whole =
    ap (λ (k : Ruled). k.dropped) (timely_rule team now head (λ t. take_decision now d) r t e)
    ∙ ap (λ (o : Option Reason). (elim o as (λ o. Ruled) [ None ↦ enter_decision now d r | Some reason ↦ dropped reason r ]).dropped) none
    ∙ entered_is_done now d r fits whole

pub election_is_done : (team : Team) (now : Moment) (head : Head) (number : ℕ) (why : Why) (r : Run) (t : ℕ) → timely_reading (rate_of team now head) now.reading ≡ Ok t
    → first_refusal (answer_tests team now head.from number why t r.process) ≡ None → (kind_rule team now head (bodies.Election number why) r).dropped ≡ None
unfolding kind_rule
election_is_done team now head number why r t e none =
    ap (λ (k : Ruled). k.dropped) (timely_rule team now head (answer_election team now head.from number why) r t e)
    ∙ unopposed (first_refusal (answer_tests team now head.from number why t r.process)) (election_answered now head.from (promise_by r.process number t) r) r none

pub promise_is_done : (team : Team) (now : Moment) (head : Head) (p : Promise) (r : Run) (t : ℕ) → timely_reading (rate_of team now head) now.reading ≡ Ok t
    → wants p r.process.ballot ≡ true → (kind_rule team now head (bodies.Promise p.number p.report p.decision) r).dropped ≡ None
unfolding kind_rule
promise_is_done team now head p r t e wanted =
    ap (λ (k : Ruled). k.dropped) (timely_rule team now head (λ t. take_promise p) r t e) ∙ ap (λ (b : Bool). (cond b (done (promise_added p r)) (dropped Old r)).dropped) wanted
