-- In one step, what is printed as made is what is told as made, and that is one decision at most, of the step's reading.
use Rattle.std.proofs.Common.{◌≡◌, refl, sym, ap, ◌∙◌, ℕ, Bool, true, false, cond, List, [], ◌∷◌, ◌++◌, Option, Some, None, Result, Ok, Err}
use Rattle.tw_num.specs.declared.moment.Moment.{Moment}
use Rattle.tw_machine.specs.Types.{Team, Head, Body, Datagram, Why, Kept, Order, Atom, Want, Decision, Reason}
use Rattle.tw_types.specs.declared.datagram.Body.TheVariants as bodies
use Rattle.tw_types.specs.declared.answer.Reason.TheVariants as reasons
use Rattle.tw_types.specs.Decisions.{or_none}
use Rattle.tw_types.specs.Flag.{is_up}
use Rattle.tw_types.specs.Refusals.{first_refusal}
use Rattle.tw_types.specs.Votes.{Promise, Making}
use Rattle.tw_types.specs.Ballots.{wants}
use Rattle.tw_types.specs.Elections.{why_begun, own_promise}
use Rattle.tw_types.specs.Beliefs.{view_decision}
use Rattle.tw_types.specs.Waiting.{payloads_of, Putting, Filled, putting}
use Rattle.tw_types.specs.Groups.{group_making}
use Rattle.tw_types.specs.Process.{Process, ToGroup}
use Rattle.tw_machine.specs.Event.{Event}
use Rattle.tw_machine.specs.Run.{Run, Ruled, done, dropped}
use Rattle.tw_machine.specs.Sending.{sent_to_others}
use Rattle.tw_machine.specs.Standing.{member_of, last_decision, report_by, promise_by}
use Rattle.tw_machine.specs.Control.{rate_of, timely_reading, if_timely}
use Rattle.tw_machine.specs.Entering.{decision_held}
use Rattle.tw_machine.specs.Updating.{use_if_whole, update_kept, update_put, received_as, take_update, answer_ask}
use Rattle.tw_machine.specs.Proposing.{own_update, seq_given, update_sent, propose}
use Rattle.tw_machine.specs.Taking.{take_decision}
use Rattle.tw_machine.specs.Electing.{answer_tests, election_answered, answer_election, ballot_dropped, has_spent_ballot, drop_ballot, holds_election, election_begun, begin_election}
use Rattle.tw_machine.specs.Deciding.{decision_made, has_turn, turn_taken, take_turn, next_made}
use Rattle.tw_machine.specs.Grouping.{promise_added, take_promise, make_group}
use Rattle.tw_machine.specs.Delivering.{all_delivered, deliver}
use Rattle.tw_machine.specs.Beating.{is_due, beat_marked, is_repeated, repeat_decision, ask_again, beat_given, give_beat}
use Rattle.tw_machine.specs.Rules.{kind_rule, rule}
use Rattle.tw_machine.specs.Duties.{timed_duties, duties_if_timed, duties}
use Rattle.tw_machine.specs.Step.{learnt_by, moment_of, read_by, event_rule, ruled_by, has_duties, ended_by, step}
use Rattle.tw_machine.proofs.Ends.{by_entering, by_taking, by_group, by_asking, by_using, by_kept, by_putting, by_answering, by_proposing, by_event}
use Rattle.tw_machine.proofs.Exclusions.{turn_or_group, no_turn, group_time}

-- from one run to a later one nothing more is made
pub record MakesNone (a b : Run) : Type 0 where
  pub line : b.out.made ≡ a.out.made
  pub told : b.makings ≡ a.makings

-- What is printed and told as made at a reading: nothing, or one decision of that reading.
pub data AgreesOnMade (reading : Option ℕ) (line : Option Decision) (told : List Making) : Type 0 where
  Nothing : line ≡ None → told ≡ [] → AgreesOnMade reading line told
  One : (making : Making) → line ≡ Some making.decision → told ≡ making ∷ [] → reading ≡ Some making.decision.made → AgreesOnMade reading line told

abbrev Agrees : Moment → Run → Type 0
Agrees now r = AgreesOnMade now.reading r.out.made r.makings

-- a run that made nothing yet
record IsIdle (r : Run) : Type 0 where
  line : r.out.made ≡ None
  told : r.makings ≡ []

same : (r : Run) → MakesNone r r
same r = record { line = refl; told = refl }

then_none : (a b c : Run) → MakesNone a b → MakesNone b c → MakesNone a c
then_none a b c first next = record { line = next.line ∙ first.line; told = next.told ∙ first.told }

still_idle : (a b : Run) → MakesNone a b → IsIdle a → IsIdle b
still_idle a b none idle = record { line = none.line ∙ idle.line; told = none.told ∙ idle.told }

idle_agrees : (now : Moment) (r : Run) → IsIdle r → Agrees now r
idle_agrees now r idle = Nothing idle.line idle.told

still_agrees : (now : Moment) (a b : Run) → MakesNone a b → Agrees now a → Agrees now b
still_agrees now a b none (Nothing line told) = Nothing (none.line ∙ line) (none.told ∙ told)
still_agrees now a b none (One making line told reading) = One making (none.line ∙ line) (none.told ∙ told) reading

-- ---- the duties

drop_none : (team : Team) (t : ℕ) (r : Run) → MakesNone r (drop_ballot team t r)
drop_none team t r = go (has_spent_ballot team t r.process)
  where
    go : (test : Bool) → MakesNone r (cond test (ballot_dropped r) r)
    go true = record { line = refl; told = refl }
    go false = same r

-- one decision is made
made_agrees : (team : Team) (now : Moment) (making : Making) (t : ℕ) (r : Run) → IsIdle r → now.reading ≡ Some t → making.decision.made ≡ t → Agrees now (decision_made team now making t r)
made_agrees team now making t r idle reading made = One making refl (ap (λ ms. ms ++ making ∷ []) idle.told) (reading ∙ ap Some (sym made))

turn_agrees : (team : Team) (now : Moment) (t : ℕ) (r : Run) → IsIdle r → now.reading ≡ Some t → Agrees now (take_turn team now t r)
turn_agrees team now t r idle reading = go (last_decision r.process)
  where
    by_test : (last : Decision) → (test : Bool) → Agrees now (cond test (turn_taken team now last t r) r)
    by_test last true = made_agrees team now (next_made team t last r.process) t r idle reading refl
    by_test last false = idle_agrees now r idle

    go : (o : Option Decision) → Agrees now (elim o as (λ o. Run) [ None ↦ r | Some last ↦ cond (has_turn team t r.process) (turn_taken team now last t r) r ])
    go None = idle_agrees now r idle
    go (Some last) = by_test last (has_turn team t r.process)

group_agrees : (team : Team) (now : Moment) (t : ℕ) (r : Run) → IsIdle r → now.reading ≡ Some t → Agrees now (make_group team now t r)
group_agrees team now t r idle reading = by_group team now t r (Agrees now) (idle_agrees now r idle)
    (λ ballot d is full e. made_agrees team now (group_making ballot d) t (ballot_dropped r) (record { line = idle.line; told = idle.told }) reading
    (group_time team ballot r.process.log (payloads_of r.process.waiting) (member_of r.process.identity) t d e))
    (λ ballot best id is e. still_agrees now r (decision_held now ToGroup best ballot.best_from id r) (record { line = refl; told = refl }) (idle_agrees now r idle))

-- who has its turn makes no group
turn_or_group_agrees : (team : Team) (now : Moment) (t : ℕ) (r : Run) → IsIdle r → now.reading ≡ Some t → Agrees now (make_group team now t (take_turn team now t (drop_ballot team t r)))
turn_or_group_agrees team now t r idle reading = go (has_turn team t (drop_ballot team t r).process) refl
  where
    left : IsIdle (drop_ballot team t r)
    left = still_idle r (drop_ballot team t r) (drop_none team t r) idle

    go : (b : Bool) → has_turn team t (drop_ballot team t r).process ≡ b → Agrees now (make_group team now t (take_turn team now t (drop_ballot team t r)))
    go true e = rw (turn_or_group team now t r e) (turn_agrees team now t (drop_ballot team t r) left reading)
    go false e = rw (no_turn team now t (drop_ballot team t r) e) (group_agrees team now t (drop_ballot team t r) left reading)

election_none : (team : Team) (now : Moment) (t : ℕ) (r : Run) → MakesNone r (begin_election team now t r)
election_none team now t r = go (holds_election team now t r.process)
  where
    go : (test : Bool) → MakesNone r (cond test (election_begun team now (why_begun team (last_decision r.process) t) (own_promise team (report_by r.process t) (last_decision r.process) t) r) r)
    go true = record { line = refl; told = refl }
    go false = same r

deliver_none : (team : Team) (t : ℕ) (r : Run) → MakesNone r (deliver team t r)
deliver_none team t r = go (is_up team r.process.vote r.process.belief (Some t))
  where
    go : (up : Bool) → MakesNone r (cond up (all_delivered team (or_none (last_decision r.process)) r) r)
    go true = record { line = refl; told = refl }
    go false = same r

timed_agrees : (team : Team) (now : Moment) (t : ℕ) (r : Run) → IsIdle r → now.reading ≡ Some t → Agrees now (timed_duties team now t r)
unfolding timed_duties
timed_agrees team now t r idle reading =
    let c : Run = make_group team now t (take_turn team now t (drop_ballot team t r)) in
    let d : Run = begin_election team now t c in
    still_agrees now d (deliver team t d) (deliver_none team t d) (still_agrees now c d (election_none team now t c) (turn_or_group_agrees team now t r idle reading))

if_timed_agrees : (team : Team) (now : Moment) (reading : Option ℕ) (r : Run) → IsIdle r → now.reading ≡ reading → Agrees now (duties_if_timed team now reading r)
if_timed_agrees team now None r idle is = idle_agrees now r idle
if_timed_agrees team now (Some t) r idle is = timed_agrees team now t r idle is

repeat_none : (team : Team) (now : Moment) (r : Run) → MakesNone r (repeat_decision team now r)
repeat_none team now r = go (last_decision r.process)
  where
    by_test : (last : Decision) → (test : Bool) → MakesNone r (cond test (sent_to_others team.n now (bodies.Decision last) r) r)
    by_test last true = record { line = refl; told = refl }
    by_test last false = same r

    go : (o : Option Decision) → MakesNone r (elim o as (λ o. Run) [ None ↦ r | Some last ↦ cond (is_repeated team r.process last now.reading) (sent_to_others team.n now (bodies.Decision last) r) r ])
    go None = same r
    go (Some last) = by_test last (is_repeated team r.process last now.reading)

ask_none : (now : Moment) (r : Run) → MakesNone r (ask_again now r)
ask_none now r = by_asking now r (MakesNone r) (same r) (λ id source. record { line = refl; told = refl })

pub beat_none : (team : Team) (now : Moment) (r : Run) → MakesNone r (give_beat team now r)
beat_none team now r = go (is_due team.pace now.h r.process.beat)
  where
    marked : Run
    marked = beat_marked now.h r

    go : (due : Bool) → MakesNone r (cond due (beat_given team now r) r)
    go true = let said = then_none marked (ask_again now marked) (repeat_decision team now (ask_again now marked)) (ask_none now marked) (repeat_none team now (ask_again now marked)) in record { line = said.line; told = said.told }
    go false = same r

duties_agree : (team : Team) (now : Moment) (r : Run) → IsIdle r → Agrees now (duties team now r)
unfolding duties
duties_agree team now r idle =
    let b : Run = duties_if_timed team now now.reading r in
    still_agrees now b (duties team now r) (beat_none team now b) (if_timed_agrees team now now.reading r idle refl)

-- ---- the rules

decision_none : (now : Moment) (d : Decision) (r : Run) → MakesNone r (take_decision now d r).run
decision_none now d r = by_taking now d r (λ k. MakesNone r k.run) (λ free fits whole. record { line = refl; told = refl }) (λ id. record { line = refl; told = refl }) (λ reason e. same r) (λ reason e. same r)

answer_none : (team : Team) (now : Moment) (from number : ℕ) (why : Why) (t : ℕ) (r : Run) → MakesNone r (answer_election team now from number why t r).run
answer_none team now from number why t r = go (first_refusal (answer_tests team now from number why t r.process))
  where
    go : (o : Option Reason) → MakesNone r (elim o as (λ o. Ruled) [ None ↦ done (election_answered now from (promise_by r.process number t) r) | Some reason ↦ dropped reason r ]).run
    go None = record { line = refl; told = refl }
    go (Some reason) = same r

promise_none : (given : Promise) (r : Run) → MakesNone r (take_promise given r).run
promise_none given r = go (wants given r.process.ballot)
  where
    go : (test : Bool) → MakesNone r (cond test (done (promise_added given r)) (dropped reasons.Old r)).run
    go true = record { line = refl; told = refl }
    go false = same r

timely_none : (team : Team) (now : Moment) (head : Head) (rule : ℕ → Run → Ruled) (r : Run) → ((t : ℕ) → MakesNone r (rule t r).run) → MakesNone r (if_timely team now head rule r).run
timely_none team now head rule r each = go (timely_reading (rate_of team now head) now.reading)
  where
    go : (o : Result ℕ Reason) → MakesNone r (elim o as (λ o. Ruled) [ Err reason ↦ dropped reason r | Ok t ↦ rule t r ]).run
    go (Err reason) = same r
    go (Ok t) = each t

use_none : (now : Moment) (r : Run) → MakesNone r (use_if_whole now r)
use_none now r = by_using now r (MakesNone r) (same r) (record { line = refl; told = refl })
    (λ h hold is held purpose fresh. by_entering now h.decision r (λ k. MakesNone r k.run) (λ fits whole. record { line = refl; told = refl }) (λ id. record { line = refl; told = refl }) (λ reason e. same r))

filled_none : (now : Moment) (k : Kept) (r : Run) → MakesNone r (use_if_whole now (update_kept Filled k r))
filled_none now k r = let used = use_none now (update_kept Filled k r) in record { line = used.line; told = used.told }

update_none : (now : Moment) (k : Kept) (r : Run) → MakesNone r (take_update now k r).run
update_none now k r = by_putting now (received_as r.process k) k r (λ z. MakesNone r z.run) (λ e. filled_none now k r) (λ e. record { line = refl; told = refl }) (λ reason other. same r)

ask_back_none : (now : Moment) (from : ℕ) (want : Want) (r : Run) → MakesNone r (answer_ask now from want r).run
ask_back_none now from want r = by_answering now from want r (λ z. MakesNone r z.run) (λ id k e. record { line = refl; told = refl }) (same r)

put_none : (now : Moment) (p : Putting) (k : Kept) (r : Run) → MakesNone r (update_put now p k r)
put_none now p k r = by_kept now p k r (MakesNone r) (same r) (λ e. record { line = refl; told = refl }) (λ e. filled_none now k r)

sent_none : (team : Team) (now : Moment) (k : Kept) (r : Run) → MakesNone r (update_sent team now k r)
sent_none team now k r = let put = put_none now (putting (view_decision r.process.belief) k r.process.waiting) k (seq_given k r) in record { line = put.line; told = put.told }

propose_none : (team : Team) (now : Moment) (order : Order) (atom : Atom) (payload : List ℕ) (r : Run) → MakesNone r (propose team now order atom payload r).run
propose_none team now order atom payload r = by_proposing team now order atom payload r (λ z. MakesNone r z.run) (λ free. sent_none team now (own_update now order atom payload r.process) r) (λ why e. same r)

kind_none : (team : Team) (now : Moment) (head : Head) (body : Body) (r : Run) → MakesNone r (kind_rule team now head body r).run
unfolding kind_rule
kind_none team now head (bodies.Update kept) r = update_none now kept r
kind_none team now head (bodies.Decision d) r = timely_none team now head (λ t. take_decision now d) r (λ t. decision_none now d r)
kind_none team now head (bodies.NoDecision number group turn skip reports best) r = same r
kind_none team now head (bodies.Election number why) r = timely_none team now head (answer_election team now head.from number why) r (λ t. answer_none team now head.from number why t r)
kind_none team now head (bodies.Promise number report d) r = timely_none team now head (λ t. take_promise (record { number = number; report = report; decision = d })) r (λ t. promise_none (record { number = number; report = report; decision = d }) r)
kind_none team now head (bodies.Ask want) r = ask_back_none now head.from want r
kind_none team now head (bodies.State group position total offset bytes) r = same r
kind_none team now head (bodies.Sync ready) r = same r

rule_none : (team : Team) (now : Moment) (packet : Result (Option Datagram) Reason) (r : Run) → MakesNone r (rule team now packet r).run
rule_none team now (Err reason) r = same r
rule_none team now (Ok None) r = same r
rule_none team now (Ok (Some d)) r = kind_none team now d.head d.body r

own_none : (team : Team) (now : Moment) (e : Event) (packet : Result (Option Datagram) Reason) (r : Run) → MakesNone r (event_rule team now e packet r).run
own_none team now e packet r = by_event team now e packet r (λ z. MakesNone r z.run) (rule_none team now packet r) (λ order atom payload. propose_none team now order atom payload r)

-- ---- the whole

ended_agrees : (team : Team) (h : ℕ) (e : Event) (p : Process) → Agrees (moment_of team h e p) (ended_by team h e p)
ended_agrees team h e p = go (has_duties e)
  where
    now : Moment
    now = moment_of team h e p

    ruled : Run
    ruled = (ruled_by team h e p).run

    idle : IsIdle (ruled_by team h e p).run
    idle = still_idle (read_by team h e p) (ruled_by team h e p).run (own_none team (moment_of team h e p) e (learnt_by team h e p).packet (read_by team h e p)) (record { line = refl; told = refl })

    go : (b : Bool) → Agrees now (cond b (duties team now ruled) ruled)
    go true = duties_agree team now ruled idle
    go false = idle_agrees now ruled idle

-- What a step prints as made is what it tells as made.
pub step_agrees : (team : Team) (h : ℕ) (e : Event) (p : Process) → AgreesOnMade (moment_of team h e p).reading (step team h e p).out.made (step team h e p).makings
unfolding step
step_agrees team h e p = ended_agrees team h e p

-- Before its duties an event makes nothing.
pub ruled_makes_none : (team : Team) (h : ℕ) (e : Event) (p : Process) → (ruled_by team h e p).run.out.made ≡ None
ruled_makes_none team h e p = (own_none team (moment_of team h e p) e (learnt_by team h e p).packet (read_by team h e p)).line
