-- A decision, an election or a promise that comes late, of unknown age, or to a process without a reading is dropped for that, and each
-- of these words is told for its cause alone.
use Rattle.std.proofs.Common.{◌≡◌, refl, subst, ℕ, Bool, true, false, cond, List, [], ◌∷◌, Option, Some, None, Ok, Err}
use Rattle.std.specs.List.{AllByRecursion}
use Rattle.tw_num.specs.declared.moment.Moment.{Moment}
use Rattle.tw_num.specs.Rate.{Rate, Timely, Late, Unrated}
use Rattle.tw_machine.specs.Types.{Team, Decision, Head, Why, Body, Reason}
use Rattle.tw_types.specs.declared.datagram.Body.TheVariants as bodies
use Rattle.tw_types.specs.declared.answer.Reason.TheVariants as reasons
use Rattle.tw_types.specs.Refusals.{Refusal, first_refusal}
use Rattle.tw_types.specs.Logs.{list_tests}
use Rattle.tw_types.specs.Votes.{Promise}
use Rattle.tw_types.specs.Ballots.{wants}
use Rattle.tw_machine.specs.Run.{Run, Ruled, done, dropped}
use Rattle.tw_machine.specs.Standing.{promise_by}
use Rattle.tw_machine.specs.Control.{rate_of, timely_reading, if_timely}
use Rattle.tw_machine.specs.Taking.{decision_tests, take_decision}
use Rattle.tw_machine.specs.Electing.{answer_tests, election_answered, answer_election}
use Rattle.tw_machine.specs.Grouping.{promise_added, take_promise}
use Rattle.tw_machine.specs.Rules.{kind_rule}
use Rattle.tw_machine.specs.Untimely.{is_used_in_time, DropsUntimely}
use Rattle.tw_machine.proofs.Ends.{by_taking}

-- the words of what comes late or of unknown age, or without a reading
abbrev is_of_time : Reason → Bool
is_of_time reasons.Unrated = true
is_of_time (reasons.Late bound) = true
is_of_time reasons.Unsynced = true
is_of_time other = false

-- no end of this kind has such a word
abbrev IsApart : Option Reason → Type 0
IsApart o = (reason : Reason) → o ≡ Some reason → is_of_time reason ≡ false

none_apart : IsApart None
none_apart reason e = absurd (cc)

some_apart : (said : Reason) → is_of_time said ≡ false → IsApart (Some said)
some_apart said apart reason e = subst (λ (z : Reason). is_of_time z ≡ false) (cc) apart

tests_apart : (rs : List Refusal) → AllByRecursion (λ (r : Refusal). is_of_time r.reason ≡ false) rs → IsApart (first_refusal rs)
tests_apart [] all = none_apart
tests_apart (r ∷ rs) all = go r.present (tests_apart rs all.1)
  where
    go : (b : Bool) → IsApart (first_refusal rs) → IsApart (cond b (Some r.reason) (first_refusal rs))
    go true rest = some_apart r.reason all.0
    go false rest = rest

decision_apart : (now : Moment) (d : Decision) (r : Run) → IsApart (take_decision now d r).dropped
decision_apart now d r = by_taking now d r (λ k. IsApart k.dropped) (λ free fits whole. none_apart) (λ id. some_apart (reasons.Missing id) refl)
    (λ reason is. subst IsApart is (tests_apart (list_tests r.process.log d) (refl, (refl, tt))))
    (λ reason is. subst IsApart is (tests_apart (decision_tests r.process d) (refl, (refl, (refl, (refl, tt))))))

answer_apart : (team : Team) (now : Moment) (from number : ℕ) (why : Why) (t : ℕ) (r : Run) → IsApart (answer_election team now from number why t r).dropped
answer_apart team now from number why t r = go (first_refusal (answer_tests team now from number why t r.process)) (tests_apart (answer_tests team now from number why t r.process) (refl, (refl, (refl, (refl, (refl, tt))))))
  where
    go : (o : Option Reason) → IsApart o → IsApart (elim o as (λ o. Ruled) [ None ↦ done (election_answered now from (promise_by r.process number t) r) | Some reason ↦ dropped reason r ]).dropped
    go None apart = none_apart
    go (Some reason) apart = apart

promise_apart : (given : Promise) (r : Run) → IsApart (take_promise given r).dropped
promise_apart given r = go (wants given r.process.ballot)
  where
    go : (b : Bool) → IsApart (cond b (done (promise_added given r)) (dropped reasons.Old r)).dropped
    go true = none_apart
    go false = some_apart reasons.Old refl

-- what a rule does that wants a timely packet
timely_drops : (team : Team) (now : Moment) (head : Head) (rule : ℕ → Run → Ruled) (r : Run) → ((t : ℕ) → IsApart (rule t r).dropped) → DropsUntimely (rate_of team now head) now.reading r (if_timely team now head rule r)
timely_drops team now head rule r apart = go (rate_of team now head) now.reading
  where
    go : (rate : Rate) (reading : Option ℕ) → DropsUntimely rate reading r (elim (timely_reading rate reading) as (λ o. Ruled) [ Err reason ↦ dropped reason r | Ok t ↦ rule t r ])
    go Unrated None = refl
    go Unrated (Some t) = refl
    go (Late bound) None = refl
    go (Late bound) (Some t) = refl
    go (Timely bound) None = refl
    go (Timely bound) (Some t) = ((λ e. absurd (let no : true ≡ false = apart t reasons.Unrated e in cc)), (λ late e. absurd (let no : true ≡ false = apart t (reasons.Late late) e in cc)), (λ e. absurd (let no : true ≡ false = apart t reasons.Unsynced e in cc)))

pub untimely_is_dropped : (team : Team) (now : Moment) (head : Head) (body : Body) (r : Run) → is_used_in_time body ≡ true → DropsUntimely (rate_of team now head) now.reading r (kind_rule team now head body r)
unfolding kind_rule
untimely_is_dropped team now head (bodies.Update kept) r e = absurd (cc)
untimely_is_dropped team now head (bodies.Decision d) r e = timely_drops team now head (λ t. take_decision now d) r (λ t. decision_apart now d r)
untimely_is_dropped team now head (bodies.NoDecision number group turn skip reports best) r e = absurd (cc)
untimely_is_dropped team now head (bodies.Election number why) r e = timely_drops team now head (answer_election team now head.from number why) r (λ t. answer_apart team now head.from number why t r)
untimely_is_dropped team now head (bodies.Promise number report d) r e = timely_drops team now head (λ t. take_promise (record { number = number; report = report; decision = d })) r (λ t. promise_apart (record { number = number; report = report; decision = d }) r)
untimely_is_dropped team now head (bodies.Ask want) r e = absurd (cc)
untimely_is_dropped team now head (bodies.State group position total offset bytes) r e = absurd (cc)
untimely_is_dropped team now head (bodies.Sync ready) r e = absurd (cc)
