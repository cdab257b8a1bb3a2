-- In one step, what is answered to a send is what is noted as sent, and that is one update at most, stamped with the step's reading.
use Rattle.std.proofs.Common.{◌≡◌, ◌≢◌, refl, ap, ◌∙◌, ℕ, Bool, true, false, cond, unwrap_or, List, [], ◌∷◌, ◌++◌, length, Option, Some, None, Result, Ok, Err}
use Rattle.tw_num.specs.declared.moment.Moment.{Moment}
use Rattle.tw_machine.specs.Types.{Team, Head, Body, Datagram, Why, Want, Kept, Order, Atom, Decision, Reason, RowAnswer}
use Rattle.tw_types.specs.declared.datagram.Body.TheVariants as bodies
use Rattle.tw_types.specs.declared.answer.Reason.TheVariants as reasons
use Rattle.tw_types.specs.Ballots.{wants}
use Rattle.tw_types.specs.Beliefs.{Belief, Informed, Blank, view_decision}
use Rattle.tw_types.specs.Decisions.{or_none}
use Rattle.tw_types.specs.Elections.{why_begun, own_promise}
use Rattle.tw_types.specs.Flag.{is_up}
use Rattle.tw_types.specs.Refusals.{first_refusal}
use Rattle.tw_types.specs.Sends.{Sending, first_send_refusal}
use Rattle.tw_types.specs.Votes.{Vote, Promise}
use Rattle.tw_types.specs.Waiting.{Putting, Filled, putting}
use Rattle.tw_types.specs.Process.{Process}
use Rattle.tw_machine.specs.Event.{Event}
use Rattle.tw_machine.specs.Run.{Run, Ruled, done, dropped}
use Rattle.tw_machine.specs.Sending.{sent_to_others}
use Rattle.tw_machine.specs.Standing.{last_decision, report_by, promise_by}
use Rattle.tw_machine.specs.Control.{rate_of, timely_reading, if_timely}
use Rattle.tw_machine.specs.Updating.{use_if_whole, update_kept, update_put, received_as, take_update, answer_ask}
use Rattle.tw_machine.specs.Proposing.{own_seat, refusals, own_update, seq_given, update_sent, propose}
use Rattle.tw_machine.specs.Taking.{take_decision}
use Rattle.tw_machine.specs.Electing.{answer_tests, election_answered, answer_election, ballot_dropped, has_spent_ballot, drop_ballot, holds_election, election_begun, begin_election}
use Rattle.tw_machine.specs.Deciding.{has_turn, turn_taken, take_turn}
use Rattle.tw_machine.specs.Grouping.{promise_added, take_promise, make_group}
use Rattle.tw_machine.specs.Delivering.{all_delivered, deliver}
use Rattle.tw_machine.specs.Beating.{is_due, beat_marked, is_repeated, repeat_decision, ask_again, beat_given, give_beat}
use Rattle.tw_machine.specs.Rules.{kind_rule, rule}
use Rattle.tw_machine.specs.Duties.{timed_duties, duties_if_timed, duties}
use Rattle.tw_machine.specs.Step.{learnt_by, moment_of, read_by, answer_by, row_answer, event_rule, ruled_by, has_duties, ended_by, step}
use Rattle.tw_machine.proofs.Causes.{ends_exactly}
use Rattle.tw_machine.proofs.Ends.{by_entering, by_taking, by_group, by_asking, by_using, by_kept, by_putting, by_answering, by_proposing, by_event}

-- from one run to a later one nothing more is noted as sent
abbrev NotesNone : Run → Run → Type 0
NotesNone a b = b.sendings ≡ a.sendings

-- What is answered and noted as sent at a reading: no number and nothing, or the number of the one update that is noted, with that
-- reading as its stamp.
pub data AgreesOnSent (reading : Option ℕ) (answer : RowAnswer) (noted : List Sending) : Type 0 where
  Nothing : ((seq : ℕ) → answer ≢ RowAnswer.Sent seq) → noted ≡ [] → AgreesOnSent reading answer noted
  One : (sending : Sending) → answer ≡ RowAnswer.Sent sending.update.entry.id.seq → noted ≡ sending ∷ [] → reading ≡ Some sending.update.entry.stamp → AgreesOnSent reading answer noted

still_agrees : (reading : Option ℕ) (answer : RowAnswer) (a b : Run) → NotesNone a b → AgreesOnSent reading answer a.sendings → AgreesOnSent reading answer b.sendings
still_agrees reading answer a b none (Nothing silent noted) = Nothing silent (none ∙ noted)
still_agrees reading answer a b none (One sending is noted stamped) = One sending is (none ∙ noted) stamped

-- ---- the duties

drop_none : (team : Team) (t : ℕ) (r : Run) → NotesNone r (drop_ballot team t r)
drop_none team t r = go (has_spent_ballot team t r.process)
  where
    go : (test : Bool) → NotesNone r (cond test (ballot_dropped r) r)
    go true = refl
    go false = refl

turn_none : (team : Team) (now : Moment) (t : ℕ) (r : Run) → NotesNone r (take_turn team now t r)
turn_none team now t r = go (last_decision r.process)
  where
    by_test : (last : Decision) → (test : Bool) → NotesNone r (cond test (turn_taken team now last t r) r)
    by_test last true = refl
    by_test last false = refl

    go : (o : Option Decision) → NotesNone r (elim o as (λ o. Run) [ None ↦ r | Some last ↦ cond (has_turn team t r.process) (turn_taken team now last t r) r ])
    go None = refl
    go (Some last) = by_test last (has_turn team t r.process)

group_none : (team : Team) (now : Moment) (t : ℕ) (r : Run) → NotesNone r (make_group team now t r)
group_none team now t r = by_group team now t r (NotesNone r) refl (λ ballot d is full e. refl) (λ ballot best id is e. refl)

election_none : (team : Team) (now : Moment) (t : ℕ) (r : Run) → NotesNone r (begin_election team now t r)
election_none team now t r = go (holds_election team now t r.process)
  where
    go : (test : Bool) → NotesNone r (cond test (election_begun team now (why_begun team (last_decision r.process) t) (own_promise team (report_by r.process t) (last_decision r.process) t) r) r)
    go true = refl
    go false = refl

deliver_none : (team : Team) (t : ℕ) (r : Run) → NotesNone r (deliver team t r)
deliver_none team t r = go (is_up team r.process.vote r.process.belief (Some t))
  where
    go : (up : Bool) → NotesNone r (cond up (all_delivered team (or_none (last_decision r.process)) r) r)
    go true = refl
    go false = refl

timed_none : (team : Team) (now : Moment) (t : ℕ) (r : Run) → NotesNone r (timed_duties team now t r)
unfolding timed_duties
timed_none team now t r =
    let a : Run = drop_ballot team t r in
    let b : Run = take_turn team now t a in
    let c : Run = make_group team now t b in
    let d : Run = begin_election team now t c in
    deliver_none team t d ∙ (election_none team now t c ∙ (group_none team now t b ∙ (turn_none team now t a ∙ drop_none team t r)))

if_timed_none : (team : Team) (now : Moment) (reading : Option ℕ) (r : Run) → NotesNone r (duties_if_timed team now reading r)
if_timed_none team now None r = refl
if_timed_none team now (Some t) r = timed_none team now t r

repeat_none : (team : Team) (now : Moment) (r : Run) → NotesNone r (repeat_decision team now r)
repeat_none team now r = go (last_decision r.process)
  where
    by_test : (last : Decision) → (test : Bool) → NotesNone r (cond test (sent_to_others team.n now (bodies.Decision last) r) r)
    by_test last true = refl
    by_test last false = refl

    go : (o : Option Decision) → NotesNone r (elim o as (λ o. Run) [ None ↦ r | Some last ↦ cond (is_repeated team r.process last now.reading) (sent_to_others team.n now (bodies.Decision last) r) r ])
    go None = refl
    go (Some last) = by_test last (is_repeated team r.process last now.reading)

ask_none : (now : Moment) (r : Run) → NotesNone r (ask_again now r)
ask_none now r = by_asking now r (NotesNone r) refl (λ id source. refl)

beat_none : (team : Team) (now : Moment) (r : Run) → NotesNone r (give_beat team now r)
beat_none team now r = go (is_due team.pace now.h r.process.beat)
  where
    marked : Run
    marked = beat_marked now.h r

    go : (due : Bool) → NotesNone r (cond due (beat_given team now r) r)
    go true = repeat_none team now (ask_again now marked) ∙ ask_none now marked
    go false = refl

duties_none : (team : Team) (now : Moment) (r : Run) → NotesNone r (duties team now r)
unfolding duties
duties_none team now r = beat_none team now (duties_if_timed team now now.reading r) ∙ if_timed_none team now now.reading r

-- ---- the rules of packets

decision_none : (now : Moment) (d : Decision) (r : Run) → NotesNone r (take_decision now d r).run
decision_none now d r = by_taking now d r (λ k. NotesNone r k.run) (λ free fits whole. refl) (λ id. refl) (λ reason e. refl) (λ reason e. refl)

answer_none : (team : Team) (now : Moment) (from number : ℕ) (why : Why) (t : ℕ) (r : Run) → NotesNone r (answer_election team now from number why t r).run
answer_none team now from number why t r = go (first_refusal (answer_tests team now from number why t r.process))
  where
    go : (o : Option Reason) → NotesNone r (elim o as (λ o. Ruled) [ None ↦ done (election_answered now from (promise_by r.process number t) r) | Some reason ↦ dropped reason r ]).run
    go None = refl
    go (Some reason) = refl

promise_none : (given : Promise) (r : Run) → NotesNone r (take_promise given r).run
promise_none given r = go (wants given r.process.ballot)
  where
    go : (test : Bool) → NotesNone r (cond test (done (promise_added given r)) (dropped reasons.Old r)).run
    go true = refl
    go false = refl

timely_none : (team : Team) (now : Moment) (head : Head) (rule : ℕ → Run → Ruled) (r : Run) → ((t : ℕ) → NotesNone r (rule t r).run) → NotesNone r (if_timely team now head rule r).run
timely_none team now head rule r each = go (timely_reading (rate_of team now head) now.reading)
  where
    go : (o : Result ℕ Reason) → NotesNone r (elim o as (λ o. Ruled) [ Err reason ↦ dropped reason r | Ok t ↦ rule t r ]).run
    go (Err reason) = refl
    go (Ok t) = each t

use_none : (now : Moment) (r : Run) → NotesNone r (use_if_whole now r)
use_none now r = by_using now r (NotesNone r) refl refl
    (λ h hold is held purpose fresh. by_entering now h.decision r (λ k. NotesNone r k.run) (λ fits whole. refl) (λ id. refl) (λ reason e. refl))

filled_none : (now : Moment) (k : Kept) (r : Run) → NotesNone r (use_if_whole now (update_kept Filled k r))
filled_none now k r = use_none now (update_kept Filled k r)

update_none : (now : Moment) (k : Kept) (r : Run) → NotesNone r (take_update now k r).run
update_none now k r = by_putting now (received_as r.process k) k r (λ z. NotesNone r z.run) (λ e. filled_none now k r) (λ e. refl) (λ reason other. refl)

ask_back_none : (now : Moment) (from : ℕ) (want : Want) (r : Run) → NotesNone r (answer_ask now from want r).run
ask_back_none now from want r = by_answering now from want r (λ z. NotesNone r z.run) (λ id k e. refl) refl

kind_none : (team : Team) (now : Moment) (head : Head) (body : Body) (r : Run) → NotesNone r (kind_rule team now head body r).run
unfolding kind_rule
kind_none team now head (bodies.Update kept) r = update_none now kept r
kind_none team now head (bodies.Decision d) r = timely_none team now head (λ t. take_decision now d) r (λ t. decision_none now d r)
kind_none team now head (bodies.NoDecision number group turn skip reports best) r = refl
kind_none team now head (bodies.Election number why) r = timely_none team now head (answer_election team now head.from number why) r (λ t. answer_none team now head.from number why t r)
kind_none team now head (bodies.Promise number report d) r =
    timely_none team now head (λ t. take_promise (record { number = number; report = report; decision = d })) r (λ t. promise_none (record { number = number; report = report; decision = d }) r)
kind_none team now head (bodies.Ask want) r = ask_back_none now head.from want r
kind_none team now head (bodies.State group position total offset bytes) r = refl
kind_none team now head (bodies.Sync ready) r = refl

rule_none : (team : Team) (now : Moment) (packet : Result (Option Datagram) Reason) (r : Run) → NotesNone r (rule team now packet r).run
rule_none team now (Err reason) r = refl
rule_none team now (Ok None) r = refl
rule_none team now (Ok (Some d)) r = kind_none team now d.head d.body r

-- an event that is taken or dropped was no send that got a number
unnumbered : (o : Option Reason) (seq : ℕ) → row_answer (answer_by o) ≢ RowAnswer.Sent seq
unnumbered None seq e = absurd (cc)
unnumbered (Some reason) seq e = absurd (cc)

-- ---- the rule of a send

-- who is up has a reading
has_reading : (team : Team) (vote : Vote) (belief : Belief) (reading : Option ℕ) → is_up team vote belief reading ≡ true → reading ≡ Some (unwrap_or reading 0)
unfolding is_up
has_reading team vote belief (Some t) e = refl
has_reading team vote (Informed (Some d)) None e = absurd (cc)
has_reading team vote (Informed None) None e = absurd (cc)
has_reading team vote (Blank followed) None e = absurd (cc)

stamped : (team : Team) (now : Moment) (size : ℕ) (p : Process) → first_send_refusal (refusals team now size p) ≡ None → now.reading ≡ Some (unwrap_or now.reading 0)
stamped team now size p free = has_reading team p.vote p.belief now.reading ((ends_exactly size (is_up team p.vote p.belief now.reading) (own_seat p) p.next_seq None).0 free).1

put_none : (now : Moment) (p : Putting) (k : Kept) (r : Run) → NotesNone r (update_put now p k r)
put_none now p k r = by_kept now p k r (NotesNone r) refl (λ e. refl) (λ e. filled_none now k r)

-- the update that is sent is noted behind those before
sent_noted : (team : Team) (now : Moment) (k : Kept) (r : Run) → (update_sent team now k r).sendings ≡ r.sendings ++ record { group = (or_none (last_decision r.process)).group; update = k } ∷ []
sent_noted team now k r = put_none now (putting (view_decision r.process.belief) k r.process.waiting) k (seq_given k r)

propose_agrees : (team : Team) (now : Moment) (order : Order) (atom : Atom) (payload : List ℕ) (r : Run) → r.sendings ≡ []
    → AgreesOnSent now.reading (propose team now order atom payload r).answer (propose team now order atom payload r).run.sendings
propose_agrees team now order atom payload r idle = by_proposing team now order atom payload r (λ z. AgreesOnSent now.reading z.answer z.run.sendings)
    (λ free. One sending refl (sent_noted team now sending.update r ∙ ap (λ xs. xs ++ sending ∷ []) idle) (stamped team now (length payload) r.process free))
    (λ why e. Nothing (λ seq f. absurd (cc)) idle)
  where
    sending : Sending
    sending = record { group = (or_none (last_decision r.process)).group; update = own_update now order atom payload r.process }

own_agrees : (team : Team) (now : Moment) (e : Event) (packet : Result (Option Datagram) Reason) (r : Run) → r.sendings ≡ []
    → AgreesOnSent now.reading (event_rule team now e packet r).answer (event_rule team now e packet r).run.sendings
own_agrees team now e packet r idle = by_event team now e packet r (λ z. AgreesOnSent now.reading z.answer z.run.sendings)
    (Nothing (unnumbered (rule team now packet r).dropped) (rule_none team now packet r ∙ idle))
    (λ order atom payload. propose_agrees team now order atom payload r idle)

-- ---- the whole

ended_none : (team : Team) (h : ℕ) (e : Event) (p : Process) → NotesNone (ruled_by team h e p).run (ended_by team h e p)
ended_none team h e p = go (has_duties e)
  where
    ruled : Run
    ruled = (ruled_by team h e p).run

    go : (b : Bool) → NotesNone ruled (cond b (duties team (moment_of team h e p) ruled) ruled)
    go true = duties_none team (moment_of team h e p) ruled
    go false = refl

-- What a step answers to a send is what it notes as sent.
pub step_agrees_on_sent : (team : Team) (h : ℕ) (e : Event) (p : Process) → AgreesOnSent (moment_of team h e p).reading (step team h e p).answer (step team h e p).sendings
unfolding step
step_agrees_on_sent team h e p =
    still_agrees (moment_of team h e p).reading (ruled_by team h e p).answer (ruled_by team h e p).run (ended_by team h e p) (ended_none team h e p)
    (own_agrees team (moment_of team h e p) e (learnt_by team h e p).packet (read_by team h e p) refl)
