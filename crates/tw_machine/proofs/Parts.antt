-- What the parts of a step leave as it was, and whose it is what they send.
use Rattle.std.proofs.Common.{◌≡◌, ◌≢◌, refl, ◌∙◌, ℕ, Bool, true, false, cond, List, [], ◌∷◌, Option, Some, None, Result, Ok, Err}
use Rattle.std.specs.List.{AllByRecursion}
use Rattle.tw_num.specs.declared.moment.Moment.{Moment}
use Rattle.tw_num.specs.Rate.{Rate, Timely, Late, Unrated}
use Rattle.tw_machine.specs.Types.{Team, Head, Body, Datagram, UpdateId, Order, Atom, Kept, Want, RowAnswer, Decision, Why, Reason}
use Rattle.tw_types.specs.declared.datagram.Body.TheVariants as bodies
use Rattle.tw_types.specs.declared.answer.Reason.TheVariants as reasons
use Rattle.tw_types.specs.Refusals.{Refusal, first_refusal}
use Rattle.tw_types.specs.Votes.{Promise, Making}
use Rattle.tw_types.specs.Ballots.{wants}
use Rattle.tw_types.specs.Elections.{why_begun, own_promise}
use Rattle.tw_types.specs.Logs.{list_tests}
use Rattle.tw_types.specs.Beliefs.{view_decision}
use Rattle.tw_types.specs.Decisions.{or_none}
use Rattle.tw_types.specs.Flag.{is_up}
use Rattle.tw_types.specs.Waiting.{Putting, Filled, payloads_of, putting}
use Rattle.tw_types.specs.Process.{Process, Purpose, ToTake, ToGroup}
use Rattle.tw_machine.specs.Event.{Event}
use Rattle.tw_machine.specs.Run.{Run, Ruled, done, dropped}
use Rattle.tw_machine.specs.Sending.{datagram_to, others, sent_to, sent_to_others}
use Rattle.tw_machine.specs.Standing.{last_decision, report_by, promise_by}
use Rattle.tw_machine.specs.Control.{rate_of, timely_reading, if_timely}
use Rattle.tw_machine.specs.Entering.{decision_entered, held_for, decision_held, enter_decision}
use Rattle.tw_machine.specs.Updating.{use_if_whole, update_kept, update_put, received_as, take_update, answer_ask}
use Rattle.tw_machine.specs.Proposing.{own_update, seq_given, update_sent, propose}
use Rattle.tw_machine.specs.Taking.{decision_tests, take_decision}
use Rattle.tw_machine.specs.Electing.{promised, answer_tests, election_answered, answer_election, ballot_dropped, has_spent_ballot, drop_ballot, holds_election, election_begun, begin_election}
use Rattle.tw_machine.specs.Deciding.{making_kept, decision_made, has_turn, turn_taken, take_turn}
use Rattle.tw_machine.specs.Grouping.{promise_added, take_promise, group_begun, make_group}
use Rattle.tw_machine.specs.Delivering.{all_delivered, deliver}
use Rattle.tw_machine.specs.Beating.{is_due, beat_marked, is_repeated, repeat_decision, ask_again, beat_given, give_beat}
use Rattle.tw_machine.specs.Rules.{kind_rule, rule}
use Rattle.tw_machine.specs.Duties.{timed_duties, duties_if_timed, duties}
use Rattle.tw_machine.specs.Step.{learnt_by, moment_of, read_by, answer_by, row_answer, event_rule, ruled_by, has_duties, ended_by}
use Rattle.tw_machine.proofs.Applied.{Grows, unchanged, decision_grows, grows_both}
use Rattle.tw_machine.proofs.Tables.{all_mapped, all_of}
use Rattle.tw_types.proofs.Lists.{all_joined}
use Rattle.tw_machine.proofs.Ends.{by_entering, by_taking, by_group, by_asking, by_using, by_kept, by_putting, by_answering, by_proposing, by_event}

-- From one run to a later one of the same event: it is the same process, which knows the same of time; and what is sent besides is
-- told by its own head.
pub record GoesOn (now : Moment) (a b : Run) : Type 1 where
  pub identity : b.process.identity ≡ a.process.identity
  pub timing : b.process.timing ≡ a.process.timing
  pub sends : (P : ℕ × Datagram → Type 0) → ((to : ℕ) (body : Body) → P (datagram_to now a.process.identity a.process.timing body to)) → AllByRecursion P a.out.sends → AllByRecursion P b.out.sends

-- and nothing is delivered, nor told as delivered, nor applied
pub record IsQuiet (now : Moment) (a b : Run) : Type 1 where
  pub goes_on : GoesOn now a b
  pub passes : b.out.passes ≡ a.out.passes
  pub earlies : b.out.earlies ≡ a.out.earlies
  pub delivered : b.delivered ≡ a.delivered
  pub grows : Grows a.process.log b.process.log

pub stays : (now : Moment) (r : Run) → IsQuiet now r r
stays now r = record { goes_on = record { identity = refl; timing = refl; sends = λ P own before. before }; passes = refl; earlies = refl; delivered = refl; grows = unchanged r.process.log }

pub both_on : (now : Moment) (a b c : Run) → GoesOn now a b → GoesOn now b c → GoesOn now a c
both_on now a b c first next = record {
  identity = next.identity ∙ first.identity;
  timing = next.timing ∙ first.timing;
  sends = λ P own before. next.sends P (λ to body. rw (first.identity, first.timing) (own to body)) (first.sends P own before);
}

pub then_on : (now : Moment) (a b c : Run) → IsQuiet now a b → IsQuiet now b c → IsQuiet now a c
then_on now a b c first next = record {
  goes_on = both_on now a b c first.goes_on next.goes_on;
  passes = next.passes ∙ first.passes;
  earlies = next.earlies ∙ first.earlies;
  delivered = next.delivered ∙ first.delivered;
  grows = grows_both a.process.log b.process.log c.process.log first.grows next.grows;
}

-- sending
pub others_sent : (n : ℕ) (now : Moment) (body : Body) (r : Run) → IsQuiet now r (sent_to_others n now body r)
others_sent n now body r = record {
  goes_on = record {
    identity = refl;
    timing = refl;
    sends = λ P own before. all_joined P r.out.sends _ before
        (all_mapped P (datagram_to now r.process.identity r.process.timing body) (others n r.process.identity.who) (all_of (λ to. P (datagram_to now r.process.identity r.process.timing body to)) (others n r.process.identity.who) (λ to. own to body)));
  };
  passes = refl;
  earlies = refl;
  delivered = refl;
  grows = unchanged r.process.log;
}

one_sent : (now : Moment) (body : Body) (to : ℕ) (r : Run) → IsQuiet now r (sent_to now body to r)
one_sent now body to r = record {
  goes_on = record { identity = refl; timing = refl; sends = λ P own before. all_joined P r.out.sends _ before (own to body, tt) };
  passes = refl;
  earlies = refl;
  delivered = refl;
  grows = unchanged r.process.log;
}

-- a change of what a process promised, believes, holds and printed, which sends and delivers nothing
pub record IsInner (a b : Run) : Type 0 where
  pub identity : b.process.identity ≡ a.process.identity
  pub timing : b.process.timing ≡ a.process.timing
  pub sends : b.out.sends ≡ a.out.sends
  pub passes : b.out.passes ≡ a.out.passes
  pub earlies : b.out.earlies ≡ a.out.earlies
  pub delivered : b.delivered ≡ a.delivered
  pub grows : Grows a.process.log b.process.log

inner_on : (now : Moment) (a b : Run) → IsInner a b → IsQuiet now a b
inner_on now a b same = record {
  goes_on = record { identity = same.identity; timing = same.timing; sends = λ P own before. rw same.sends before };
  passes = same.passes;
  earlies = same.earlies;
  delivered = same.delivered;
  grows = same.grows;
}

-- such a change, and then a datagram to all others
inner_then_others : (n : ℕ) (now : Moment) (body : Body) (a b : Run) → IsInner a b → IsQuiet now a (sent_to_others n now body b)
inner_then_others n now body a b same = then_on now a b (sent_to_others n now body b) (inner_on now a b same) (others_sent n now body b)

-- a decision is held, and an update asked for
held_on : (now : Moment) (purpose : Purpose) (d : Decision) (source : ℕ) (id : UpdateId) (r : Run) → IsQuiet now r (decision_held now purpose d source id r)
held_on now purpose d source id r = then_on now r held (decision_held now purpose d source id r) (inner_on now r held (record { identity = refl; timing = refl; sends = refl; passes = refl; earlies = refl; delivered = refl; grows = unchanged r.process.log })) (one_sent now _ source held)
  where
    held : Run
    held = record r { process = held_for purpose d source r.process }

-- the duties

drop_on : (team : Team) (now : Moment) (t : ℕ) (r : Run) → IsQuiet now r (drop_ballot team t r)
drop_on team now t r = go (has_spent_ballot team t r.process)
  where
    go : (test : Bool) → IsQuiet now r (cond test (ballot_dropped r) r)
    go true = inner_on now r (ballot_dropped r) (record { identity = refl; timing = refl; sends = refl; passes = refl; earlies = refl; delivered = refl; grows = unchanged r.process.log })
    go false = stays now r

made_on : (team : Team) (now : Moment) (making : Making) (t : ℕ) (r : Run) → IsQuiet now r (decision_made team now making t r)
made_on team now making t r = inner_then_others team.n now (bodies.Decision making.decision) r (making_kept making t r) (record { identity = refl; timing = refl; sends = refl; passes = refl; earlies = refl; delivered = refl; grows = decision_grows (payloads_of r.process.waiting) making.decision r.process.log })

turn_on : (team : Team) (now : Moment) (t : ℕ) (r : Run) → IsQuiet now r (take_turn team now t r)
turn_on team now t r = go (last_decision r.process)
  where
    by_test : (last : Decision) → (test : Bool) → IsQuiet now r (cond test (turn_taken team now last t r) r)
    by_test last true = made_on team now _ t r
    by_test last false = stays now r

    go : (o : Option Decision) → IsQuiet now r (elim o as (λ o. Run) [ None ↦ r | Some last ↦ cond (has_turn team t r.process) (turn_taken team now last t r) r ])
    go None = stays now r
    go (Some last) = by_test last (has_turn team t r.process)

group_on : (team : Team) (now : Moment) (t : ℕ) (r : Run) → IsQuiet now r (make_group team now t r)
group_on team now t r = by_group team now t r (IsQuiet now r) (stays now r)
    (λ ballot d is full e. then_on now r (ballot_dropped r) (group_begun team now ballot d t r)
    (inner_on now r (ballot_dropped r) (record { identity = refl; timing = refl; sends = refl; passes = refl; earlies = refl; delivered = refl; grows = unchanged r.process.log })) (made_on team now _ t (ballot_dropped r)))
    (λ ballot best id is e. held_on now ToGroup best ballot.best_from id r)

election_on : (team : Team) (now : Moment) (t : ℕ) (r : Run) → IsQuiet now r (begin_election team now t r)
election_on team now t r = go (holds_election team now t r.process)
  where
    go : (test : Bool) → IsQuiet now r (cond test (election_begun team now (why_begun team (last_decision r.process) t) (own_promise team (report_by r.process t) (last_decision r.process) t) r) r)
    go true = inner_then_others team.n now _ r _ (record { identity = refl; timing = refl; sends = refl; passes = refl; earlies = refl; delivered = refl; grows = unchanged r.process.log })
    go false = stays now r

-- the run before the duty that delivers
abbrev pub before_delivery : Team → Moment → ℕ → Run → Run
before_delivery team now t r = begin_election team now t (make_group team now t (take_turn team now t (drop_ballot team t r)))

pub before_on : (team : Team) (now : Moment) (t : ℕ) (r : Run) → IsQuiet now r (before_delivery team now t r)
before_on team now t r =
    let a : Run = drop_ballot team t r in
    let b : Run = take_turn team now t a in
    let c : Run = make_group team now t b in
    then_on now r c (begin_election team now t c) (then_on now r b c (then_on now r a b (drop_on team now t r) (turn_on team now t a)) (group_on team now t b)) (election_on team now t c)

-- the duty that delivers

deliver_on : (team : Team) (now : Moment) (t : ℕ) (r : Run) → GoesOn now r (deliver team t r)
deliver_on team now t r = go (is_up team r.process.vote r.process.belief (Some t))
  where
    go : (up : Bool) → GoesOn now r (cond up (all_delivered team (or_none (last_decision r.process)) r) r)
    go true = record { identity = refl; timing = refl; sends = λ P own before. before }
    go false = (stays now r).goes_on

timed_on : (team : Team) (now : Moment) (t : ℕ) (r : Run) → GoesOn now r (timed_duties team now t r)
unfolding timed_duties
timed_on team now t r =
    let before : Run = before_delivery team now t r in
    both_on now r before (deliver team t before) (before_on team now t r).goes_on (deliver_on team now t before)

if_timed_on : (team : Team) (now : Moment) (reading : Option ℕ) (r : Run) → GoesOn now r (duties_if_timed team now reading r)
if_timed_on team now None r = (stays now r).goes_on
if_timed_on team now (Some t) r = timed_on team now t r

repeat_on : (team : Team) (now : Moment) (r : Run) → IsQuiet now r (repeat_decision team now r)
repeat_on team now r = go (last_decision r.process)
  where
    by_test : (last : Decision) → (test : Bool) → IsQuiet now r (cond test (sent_to_others team.n now (bodies.Decision last) r) r)
    by_test last true = others_sent team.n now (bodies.Decision last) r
    by_test last false = stays now r

    go : (o : Option Decision) → IsQuiet now r (elim o as (λ o. Run) [ None ↦ r | Some last ↦ cond (is_repeated team r.process last now.reading) (sent_to_others team.n now (bodies.Decision last) r) r ])
    go None = stays now r
    go (Some last) = by_test last (is_repeated team r.process last now.reading)

ask_on : (now : Moment) (r : Run) → IsQuiet now r (ask_again now r)
ask_on now r = by_asking now r (IsQuiet now r) (stays now r) (λ id source. one_sent now _ source r)

pub beat_on : (team : Team) (now : Moment) (r : Run) → IsQuiet now r (give_beat team now r)
beat_on team now r = go (is_due team.pace now.h r.process.beat)
  where
    marked : Run
    marked = beat_marked now.h r

    again : Run
    again = ask_again now marked

    go : (due : Bool) → IsQuiet now r (cond due (beat_given team now r) r)
    go true = then_on now r marked (beat_given team now r) (inner_on now r marked (record { identity = refl; timing = refl; sends = refl; passes = refl; earlies = refl; delivered = refl; grows = unchanged r.process.log }))
        (then_on now marked again (beat_given team now r) (ask_on now marked)
        (then_on now again (repeat_decision team now again) (beat_given team now r) (repeat_on team now again) (others_sent team.n now (bodies.Sync None) (repeat_decision team now again))))
    go false = stays now r

pub duties_on : (team : Team) (now : Moment) (r : Run) → GoesOn now r (duties team now r)
unfolding duties
duties_on team now r =
    let timed : Run = duties_if_timed team now now.reading r in
    both_on now r timed (give_beat team now timed) (if_timed_on team now now.reading r) (beat_on team now timed).goes_on

-- the rules

decision_on : (now : Moment) (d : Decision) (r : Run) → IsQuiet now r (take_decision now d r).run
decision_on now d r = by_taking now d r (λ k. IsQuiet now r k.run)
    (λ free fits whole. inner_on now r (decision_entered d r) (record { identity = refl; timing = refl; sends = refl; passes = refl; earlies = refl; delivered = refl; grows = decision_grows (payloads_of r.process.waiting) d r.process.log }))
    (λ id. held_on now ToTake d d.maker id r) (λ reason e. stays now r) (λ reason e. stays now r)

answer_on : (team : Team) (now : Moment) (from number : ℕ) (why : Why) (t : ℕ) (r : Run) → IsQuiet now r (answer_election team now from number why t r).run
answer_on team now from number why t r = go (first_refusal (answer_tests team now from number why t r.process))
  where
    given : Promise
    given = promise_by r.process number t

    go : (o : Option Reason) → IsQuiet now r (elim o as (λ o. Ruled) [ None ↦ done (election_answered now from given r) | Some reason ↦ dropped reason r ]).run
    go None = then_on now r (promised given r) (election_answered now from given r)
        (inner_on now r (promised given r) (record { identity = refl; timing = refl; sends = refl; passes = refl; earlies = refl; delivered = refl; grows = unchanged r.process.log })) (one_sent now _ from (promised given r))
    go (Some reason) = stays now r

promise_on : (now : Moment) (given : Promise) (r : Run) → IsQuiet now r (take_promise given r).run
promise_on now given r = go (wants given r.process.ballot)
  where
    go : (test : Bool) → IsQuiet now r (cond test (done (promise_added given r)) (dropped reasons.Old r)).run
    go true = inner_on now r (promise_added given r) (record { identity = refl; timing = refl; sends = refl; passes = refl; earlies = refl; delivered = refl; grows = unchanged r.process.log })
    go false = stays now r

timely_on : (team : Team) (now : Moment) (head : Head) (rule : ℕ → Run → Ruled) (r : Run) → ((t : ℕ) → IsQuiet now r (rule t r).run) → IsQuiet now r (if_timely team now head rule r).run
timely_on team now head rule r each = go (timely_reading (rate_of team now head) now.reading)
  where
    go : (o : Result ℕ Reason) → IsQuiet now r (elim o as (λ o. Ruled) [ Err reason ↦ dropped reason r | Ok t ↦ rule t r ]).run
    go (Err reason) = stays now r
    go (Ok t) = each t

-- a change of what waits
waits_on : (now : Moment) (r : Run) (q : Process) → q.identity ≡ r.process.identity → q.timing ≡ r.process.timing → Grows r.process.log q.log → IsQuiet now r (record r { process = q })
waits_on now r q identity timing grows = inner_on now r (record r { process = q }) (record { identity = identity; timing = timing; sends = refl; passes = refl; earlies = refl; delivered = refl; grows = grows })

enter_on : (now : Moment) (d : Decision) (r : Run) → IsQuiet now r (enter_decision now d r).run
enter_on now d r = by_entering now d r (λ k. IsQuiet now r k.run) (λ fits whole. waits_on now r _ refl refl (decision_grows (payloads_of r.process.waiting) d r.process.log)) (λ id. held_on now ToTake d d.maker id r) (λ reason e. stays now r)

use_on : (now : Moment) (r : Run) → IsQuiet now r (use_if_whole now r)
use_on now r = by_using now r (IsQuiet now r) (stays now r) (waits_on now r _ refl refl (unchanged r.process.log)) (λ h hold is held purpose fresh. enter_on now h.decision r)

filled_on : (now : Moment) (k : Kept) (r : Run) → IsQuiet now r (use_if_whole now (update_kept Filled k r))
filled_on now k r = then_on now r (update_kept Filled k r) (use_if_whole now (update_kept Filled k r)) (waits_on now r _ refl refl (unchanged r.process.log)) (use_on now (update_kept Filled k r))

put_on : (now : Moment) (p : Putting) (k : Kept) (r : Run) → IsQuiet now r (update_put now p k r)
put_on now p k r = by_kept now p k r (IsQuiet now r) (stays now r) (λ e. waits_on now r _ refl refl (unchanged r.process.log)) (λ e. filled_on now k r)

update_on : (now : Moment) (k : Kept) (r : Run) → IsQuiet now r (take_update now k r).run
update_on now k r = by_putting now (received_as r.process k) k r (λ z. IsQuiet now r z.run) (λ e. filled_on now k r) (λ e. waits_on now r _ refl refl (unchanged r.process.log)) (λ reason other. stays now r)

answer_ask_on : (now : Moment) (from : ℕ) (want : Want) (r : Run) → IsQuiet now r (answer_ask now from want r).run
answer_ask_on now from want r = by_answering now from want r (λ z. IsQuiet now r z.run) (λ id k e. one_sent now _ from r) (stays now r)

sent_on : (team : Team) (now : Moment) (k : Kept) (r : Run) → IsQuiet now r (update_sent team now k r)
sent_on team now k r =
    let given : Run = seq_given k r in
    let put : Run = update_put now (putting (view_decision r.process.belief) k r.process.waiting) k given in
    then_on now r put (update_sent team now k r) (then_on now r given put (inner_on now r given (record { identity = refl; timing = refl; sends = refl; passes = refl; earlies = refl; delivered = refl; grows = unchanged r.process.log })) (put_on now _ k given)) (others_sent team.n now (bodies.Update k) put)

propose_on : (team : Team) (now : Moment) (order : Order) (atom : Atom) (payload : List ℕ) (r : Run) → IsQuiet now r (propose team now order atom payload r).run
propose_on team now order atom payload r = by_proposing team now order atom payload r (λ z. IsQuiet now r z.run) (λ free. sent_on team now (own_update now order atom payload r.process) r) (λ why e. stays now r)

kind_on : (team : Team) (now : Moment) (head : Head) (body : Body) (r : Run) → IsQuiet now r (kind_rule team now head body r).run
unfolding kind_rule
kind_on team now head (bodies.Update kept) r = update_on now kept r
kind_on team now head (bodies.Decision d) r = timely_on team now head (λ t. take_decision now d) r (λ t. decision_on now d r)
kind_on team now head (bodies.NoDecision number group turn skip reports best) r = stays now r
kind_on team now head (bodies.Election number why) r = timely_on team now head (answer_election team now head.from number why) r (λ t. answer_on team now head.from number why t r)
kind_on team now head (bodies.Promise number report d) r = timely_on team now head (λ t. take_promise (record { number = number; report = report; decision = d })) r (λ t. promise_on now (record { number = number; report = report; decision = d }) r)
kind_on team now head (bodies.Ask want) r = answer_ask_on now head.from want r
kind_on team now head (bodies.State group position total offset bytes) r = stays now r
kind_on team now head (bodies.Sync ready) r = stays now r

rule_on : (team : Team) (now : Moment) (packet : Result (Option Datagram) Reason) (r : Run) → IsQuiet now r (rule team now packet r).run
rule_on team now (Err reason) r = stays now r
rule_on team now (Ok None) r = stays now r
rule_on team now (Ok (Some d)) r = kind_on team now d.head d.body r

-- no rule drops a packet as contradicting what the process knows of time

-- where no test has this word, it isn't the one that decides
other_refusal : (reason : Reason) (rs : List Refusal) → AllByRecursion (λ (r : Refusal). r.reason ≢ reason) rs → first_refusal rs ≢ Some reason
other_refusal reason [] all e = absurd (cc)
other_refusal reason (r ∷ rs) all e = go r.present (other_refusal reason rs all.1) e
  where
    go : (b : Bool) → first_refusal rs ≢ Some reason → cond b (Some r.reason) (first_refusal rs) ≡ Some reason → ⊥
    go true rest e = all.0 (cc)
    go false rest e = rest e

by_reason : (o : Option Reason) (reason : Reason) (a b : Run) → o ≢ Some reason → (elim o as (λ o. Ruled) [ None ↦ done a | Some reason ↦ dropped reason b ]).dropped ≢ Some reason
by_reason None reason a b other e = absurd (cc)
by_reason (Some r) reason a b other e = other e

decision_agrees : (now : Moment) (d : Decision) (r : Run) → (take_decision now d r).dropped ≢ Some reasons.Disjoint
decision_agrees now d r = by_taking now d r (λ k. k.dropped ≢ Some reasons.Disjoint) (λ free fits whole e. absurd (cc)) (λ id e. absurd (cc))
    (λ reason is e. other_refusal reasons.Disjoint (list_tests r.process.log d) ((λ e. cc), ((λ e. cc), tt)) (is ∙ e))
    (λ reason is e. other_refusal reasons.Disjoint (decision_tests r.process d) ((λ e. cc), ((λ e. cc), ((λ e. cc), ((λ e. cc), tt)))) (is ∙ e))

timely_agrees : (team : Team) (now : Moment) (head : Head) (rule : ℕ → Run → Ruled) (r : Run) → ((t : ℕ) → (rule t r).dropped ≢ Some reasons.Disjoint) → (if_timely team now head rule r).dropped ≢ Some reasons.Disjoint
timely_agrees team now head rule r each = go (rate_of team now head) now.reading
  where
    go : (rate : Rate) → (reading : Option ℕ) → (elim (timely_reading rate reading) as (λ o. Ruled) [ Err reason ↦ dropped reason r | Ok t ↦ rule t r ]).dropped ≢ Some reasons.Disjoint
    go Unrated reading e = absurd (cc)
    go (Late bound) reading e = absurd (cc)
    go (Timely bound) None e = absurd (cc)
    go (Timely bound) (Some t) e = each t e

answer_agrees : (team : Team) (now : Moment) (from number : ℕ) (why : Why) (t : ℕ) (r : Run) → (answer_election team now from number why t r).dropped ≢ Some reasons.Disjoint
answer_agrees team now from number why t r e = by_reason (first_refusal (answer_tests team now from number why t r.process)) reasons.Disjoint (election_answered now from (promise_by r.process number t) r) r
    (other_refusal reasons.Disjoint (answer_tests team now from number why t r.process) ((λ e. cc), ((λ e. cc), ((λ e. cc), ((λ e. cc), ((λ e. cc), tt)))))) e

promise_agrees : (given : Promise) (r : Run) → (take_promise given r).dropped ≢ Some reasons.Disjoint
promise_agrees given r e = go (wants given r.process.ballot) e
  where
    go : (test : Bool) → (cond test (done (promise_added given r)) (dropped reasons.Old r)).dropped ≢ Some reasons.Disjoint
    go true e = absurd (cc)
    go false e = absurd (cc)

update_agrees : (now : Moment) (k : Kept) (r : Run) → (take_update now k r).dropped ≢ Some reasons.Disjoint
update_agrees now k r = by_putting now (received_as r.process k) k r (λ z. z.dropped ≢ Some reasons.Disjoint) (λ f e. absurd (cc)) (λ f e. absurd (cc)) (λ reason other e. other (cc))

ask_agrees : (now : Moment) (from : ℕ) (want : Want) (r : Run) → (answer_ask now from want r).dropped ≢ Some reasons.Disjoint
ask_agrees now from want r = by_answering now from want r (λ z. z.dropped ≢ Some reasons.Disjoint) (λ id k f e. absurd (cc)) (λ e. absurd (cc))

kind_agrees : (team : Team) (now : Moment) (head : Head) (body : Body) (r : Run) → (kind_rule team now head body r).dropped ≢ Some Reason.Disjoint
unfolding kind_rule
kind_agrees team now head (bodies.Update kept) r e = update_agrees now kept r e
kind_agrees team now head (bodies.Decision d) r e = timely_agrees team now head (λ t. take_decision now d) r (λ t. decision_agrees now d r) e
kind_agrees team now head (bodies.NoDecision number group turn skip reports best) r e = absurd (cc)
kind_agrees team now head (bodies.Election number why) r e = timely_agrees team now head (answer_election team now head.from number why) r (λ t. answer_agrees team now head.from number why t r) e
kind_agrees team now head (bodies.Promise number report d) r e = timely_agrees team now head (λ t. take_promise (record { number = number; report = report; decision = d })) r (λ t. promise_agrees (record { number = number; report = report; decision = d }) r) e
kind_agrees team now head (bodies.Ask want) r e = ask_agrees now head.from want r e
kind_agrees team now head (bodies.State group position total offset bytes) r e = absurd (cc)
kind_agrees team now head (bodies.Sync ready) r e = absurd (cc)

rule_agrees : (team : Team) (now : Moment) (packet : Result (Option Datagram) Reason) (r : Run) → packet ≢ Err Reason.Disjoint → (rule team now packet r).dropped ≢ Some Reason.Disjoint
rule_agrees team now (Err reason) r other e = other (cc)
rule_agrees team now (Ok None) r other e = absurd (cc)
rule_agrees team now (Ok (Some d)) r other e = kind_agrees team now d.head d.body r e

answered : (o : Option Reason) (reason : Reason) → o ≢ Some reason → row_answer (answer_by o) ≢ RowAnswer.Dropped reason
answered None reason other e = absurd (cc)
answered (Some r) reason other e = other (cc)

-- nor does a send
pub event_agrees : (team : Team) (now : Moment) (e : Event) (packet : Result (Option Datagram) Reason) (r : Run) → packet ≢ Err Reason.Disjoint → (event_rule team now e packet r).answer ≢ RowAnswer.Dropped Reason.Disjoint
event_agrees team now e packet r other = by_event team now e packet r (λ z. z.answer ≢ RowAnswer.Dropped Reason.Disjoint)
    (answered (rule team now packet r).dropped Reason.Disjoint (rule_agrees team now packet r other))
    (λ order atom payload. by_proposing team now order atom payload r (λ z. z.answer ≢ RowAnswer.Dropped Reason.Disjoint) (λ free e. absurd (cc)) (λ why is e. absurd (cc)))

-- the whole, from the reading on

pub ruled_on : (team : Team) (h : ℕ) (e : Event) (p : Process) → IsQuiet (moment_of team h e p) (read_by team h e p) (ruled_by team h e p).run
ruled_on team h e p = by_event team (moment_of team h e p) e (learnt_by team h e p).packet (read_by team h e p) (λ z. IsQuiet (moment_of team h e p) (read_by team h e p) z.run)
    (rule_on team (moment_of team h e p) _ (read_by team h e p)) (λ order atom payload. propose_on team (moment_of team h e p) order atom payload (read_by team h e p))

pub ended_on : (team : Team) (h : ℕ) (e : Event) (p : Process) → GoesOn (moment_of team h e p) (read_by team h e p) (ended_by team h e p)
ended_on team h e p = go (has_duties e)
  where
    now : Moment
    now = moment_of team h e p

    ruled : Run
    ruled = (ruled_by team h e p).run

    go : (b : Bool) → GoesOn now (read_by team h e p) (cond b (duties team now ruled) ruled)
    go true = both_on now (read_by team h e p) ruled (duties team now ruled) (ruled_on team h e p).goes_on (duties_on team now ruled)
    go false = (ruled_on team h e p).goes_on
