-- A decision that a process has after a step, and hadn't before it, is of the group that it had promised last before the step.
use Rattle.std.proofs.Common.{◌≡◌, ◌≢◌, refl, sym, ap, subst, ◌∙◌, inl, inr, ◌⊎◌, ℕ, ◌≤◌, Bool, true, false, cond, not, List, ◌∷◌, Option, Some, None, Result, Ok, Err, arith}
use Rattle.std.specs.Option.{option_map}
use Rattle.std.proofs.lemmas.Bool.Decides.{nat_tests}
use Rattle.tw_num.specs.declared.moment.Moment.{Moment}
use Rattle.tw_machine.specs.Types.{Team, Reason, Ballot, Head, Why, Body, Datagram, Kept, Order, Atom, Want, Decision, Member, Mode, Step}
use Rattle.tw_types.specs.Team.{IsSound}
use Rattle.tw_types.specs.declared.answer.Reason.TheVariants as reasons
use Rattle.tw_types.specs.declared.datagram.Body.TheVariants as bodies
use Rattle.tw_types.specs.declared.outputs.Mode.TheVariants as modes
use Rattle.tw_types.specs.Ballots.{joined, wants, is_over}
use Rattle.tw_types.specs.Beliefs.{Log, is_informed, last_of, view_decision}
use Rattle.tw_types.specs.Elections.{why_begun, own_promise}
use Rattle.tw_types.specs.Waiting.{Held, payloads_of, Putting, Filled, Stored, putting, with_payload}
use Rattle.tw_types.specs.Groups.{NoGroup, group_made, first_decision, objections, first_objection}
use Rattle.tw_types.specs.Process.{Process, started, ToTake, ToGroup, Hold}
use Rattle.tw_types.specs.Refusals.{first_refusal}
use Rattle.tw_types.specs.Taking.{is_barred}
use Rattle.tw_types.specs.Turns.{is_turn, next_decision}
use Rattle.tw_types.specs.Votes.{Promise}
use Rattle.tw_types.specs.Decisions.{or_none}
use Rattle.tw_types.specs.Flag.{is_up}
use Rattle.tw_machine.specs.Delivering.{all_delivered, deliver}
use Rattle.tw_machine.specs.Control.{rate_of, timely_reading, if_timely}
use Rattle.tw_machine.specs.Deciding.{has_turn, entries_to_add, turn_taken, take_turn}
use Rattle.tw_machine.specs.Duties.{timed_duties, duties_if_timed, duties}
use Rattle.tw_machine.specs.Electing.{answer_tests, election_answered, answer_election, ballot_dropped, has_spent_ballot, drop_ballot, holds_election, election_begun, begin_election}
use Rattle.tw_machine.specs.Event.{Event}
use Rattle.tw_machine.specs.Entering.{decision_held, enter_decision}
use Rattle.tw_machine.specs.Updating.{is_stale, use_if_whole, update_kept, update_put, received_as, take_update, answer_ask}
use Rattle.tw_machine.specs.Proposing.{own_update, seq_given, update_sent, propose}
use Rattle.tw_machine.specs.Grouping.{promise_added, take_promise, make_group}
use Rattle.tw_machine.specs.History.{Promised, life}
use Rattle.tw_machine.specs.Rules.{kind_rule, rule}
use Rattle.tw_machine.specs.Run.{Run, Ruled, done, dropped}
use Rattle.tw_machine.specs.Standing.{member_of, last_decision, report_by, promise_by}
use Rattle.tw_machine.specs.Step.{learnt_by, moment_of, read_by, event_rule, ruled_by, has_duties, ended_by, step, looked}
use Rattle.tw_machine.specs.Taking.{decision_tests, take_decision}
use Rattle.tw_machine.specs.World.{Deed, deed_in, world, Admissible}
use Rattle.tw_machine.proofs.Ends.{by_entering, by_group, by_using, by_kept, by_putting, by_answering, by_proposing, by_event}
use Rattle.tw_machine.proofs.Told.{beat_keeps}
use Rattle.safety_laws.specs.Effects.{written, held_decision}
use Rattle.safety_laws.specs.Groups.{OfGroups, OfMember}
use Rattle.safety_laws.specs.Under.{HadPromised, IsUnder}
use Rattle.safety_laws.proofs.Given.{none_present}
use Rattle.safety_laws.proofs.GroupLaws.{grouped_well}
use Rattle.safety_laws.proofs.Induction.{earlier, Turn, turn}
use Rattle.safety_laws.proofs.Lists.{of_each}
use Rattle.safety_laws.proofs.MadeLists.{own_group}

-- The last decision and the ballot of a process are of numbers not above the one that it promised last, and one that it holds to be taken is
-- of the number that was promised when it was held.
record IsLow (p : Process) : Type 0 where
  last : (d : Decision) → last_decision p ≡ Some d → d.group ≤ p.vote.promised
  ballot : (b : Ballot) → p.ballot ≡ Some b → b.number ≤ p.vote.promised
  held : (d : Decision) (hold : Hold) → held_decision p ≡ Some d → p.hold ≡ Some hold → hold.purpose ≡ ToTake → d.group ≡ hold.promised

-- a last decision that a process comes to have, from p on, is of the group that p promised
abbrev ComesUnder : Process → Process → Type 0
ComesUnder p q = (d : Decision) → last_decision q ≡ Some d → (last_decision p ≡ Some d) ⊎ (d.group ≡ p.vote.promised)

-- From p to q a promise may have been given, and the ballot is still of a number not above what p promised.
record Since (p q : Process) : Type 0 where
  last : ComesUnder p q
  promised : p.vote.promised ≤ q.vote.promised
  ballot : (b : Ballot) → q.ballot ≡ Some b → b.number ≤ p.vote.promised

same : (p : Process) → IsLow p → Since p p
same p low = record { last = λ d is. inl is; promised = omega arith; ballot = low.ballot }

-- ---- the rules

-- an informed process takes decisions of the promised group alone
unbarred : (informed : Bool) (promised group : ℕ) → is_barred informed promised group ≡ false → not informed ≡ false → group ≡ promised
unbarred true promised group free is = grind (arith, nat_tests)
unbarred false promised group free is = absurd (cc)

-- a decision of the promised group that enters the list, or is held
enter_since : (now : Moment) (d : Decision) (r : Run) → IsLow r.process → d.group ≡ r.process.vote.promised → Since r.process (enter_decision now d r).run.process
enter_since now d r low group = by_entering now d r (λ k. Since r.process k.run.process)
    (λ fits whole. record {
      last = λ x is. let it : d ≡ x = cc in inr (subst (λ (z : Decision). z.group ≡ r.process.vote.promised) it group);
      promised = omega arith;
      ballot = low.ballot;
    })
    (λ id. record { last = λ x is. inl is; promised = omega arith; ballot = low.ballot }) (λ reason e. same r.process low)

decision_since : (now : Moment) (d : Decision) (r : Run) → IsLow r.process → Since r.process (take_decision now d r).run.process
decision_since now d r low = go (first_refusal (decision_tests r.process d)) refl
  where
    group : first_refusal (decision_tests r.process d) ≡ None → d.group ≡ r.process.vote.promised
    group e = let pass = none_present (decision_tests r.process d) e in unbarred (is_informed r.process.belief) r.process.vote.promised d.group pass.1.1.0 pass.1.1.1.0

    go : (o : Option Reason) → first_refusal (decision_tests r.process d) ≡ o → Since r.process (elim o as (λ o. Ruled) [ None ↦ enter_decision now d r | Some reason ↦ dropped reason r ]).run.process
    go None free = enter_since now d r low (group free)
    go (Some reason) e = same r.process low

-- a held decision that is tried again is of the promised group
use_since : (now : Moment) (r : Run) → IsLow r.process → Since r.process (use_if_whole now r).process
use_since now r low = by_using now r (λ z. Since r.process z.process) (same r.process low) (record { last = λ d is. inl is; promised = omega arith; ballot = low.ballot })
    (λ h hold is held purpose fresh. enter_since now h.decision r low (low.held h.decision hold (ap (option_map (λ (z : Held). z.decision)) is) held purpose ∙ unpromised h.decision hold fresh))
  where
    unpromised : (d : Decision) (hold : Hold) → is_stale hold d r.process ≡ false → hold.promised ≡ r.process.vote.promised
    unpromised d hold fresh = grind (arith, nat_tests)

filled_since : (now : Moment) (k : Kept) (r : Run) → IsLow r.process → Since r.process (use_if_whole now (update_kept Filled k r)).process
filled_since now k r low = on (use_since now (update_kept Filled k r) (record { last = low.last; ballot = low.ballot; held = λ d hold is. low.held d hold (sym (still r.process.waiting.held) ∙ is) }))
  where
    still : (o : Option Held) → option_map (λ (z : Held). z.decision) (option_map (with_payload k) o) ≡ option_map (λ (z : Held). z.decision) o
    still None = refl
    still (Some h) = refl

    on : Since (update_kept Filled k r).process (use_if_whole now (update_kept Filled k r)).process → Since r.process (use_if_whole now (update_kept Filled k r)).process
    on z = record { last = z.last; promised = z.promised; ballot = z.ballot }

stored_since : (k : Kept) (r : Run) → IsLow r.process → Since r.process (update_kept Stored k r).process
stored_since k r low = record { last = λ d is. inl is; promised = omega arith; ballot = low.ballot }

update_since : (now : Moment) (k : Kept) (r : Run) → IsLow r.process → Since r.process (take_update now k r).run.process
update_since now k r low = by_putting now (received_as r.process k) k r (λ z. Since r.process z.run.process) (λ e. filled_since now k r low) (λ e. stored_since k r low) (λ reason other. same r.process low)

question_since : (now : Moment) (from : ℕ) (want : Want) (r : Run) → IsLow r.process → Since r.process (answer_ask now from want r).run.process
question_since now from want r low = by_answering now from want r (λ z. Since r.process z.run.process) (λ id k e. same r.process low) (same r.process low)

put_since : (now : Moment) (p : Putting) (k : Kept) (r : Run) → IsLow r.process → Since r.process (update_put now p k r).process
put_since now p k r low = by_kept now p k r (λ z. Since r.process z.process) (same r.process low) (λ e. stored_since k r low) (λ e. filled_since now k r low)

sent_since : (team : Team) (now : Moment) (k : Kept) (r : Run) → IsLow r.process → Since r.process (update_sent team now k r).process
sent_since team now k r low =
    let z = put_since now (putting (view_decision r.process.belief) k r.process.waiting) k (seq_given k r) (record { last = low.last; ballot = low.ballot; held = low.held }) in
    record { last = z.last; promised = z.promised; ballot = z.ballot }

propose_since : (team : Team) (now : Moment) (order : Order) (atom : Atom) (payload : List ℕ) (r : Run) → IsLow r.process → Since r.process (propose team now order atom payload r).run.process
propose_since team now order atom payload r low = by_proposing team now order atom payload r (λ z. Since r.process z.run.process)
    (λ free. sent_since team now (own_update now order atom payload r.process) r low) (λ why e. same r.process low)

-- a promise is above what was promised before
answer_since : (team : Team) (now : Moment) (from number : ℕ) (why : Why) (t : ℕ) (r : Run) → IsLow r.process → Since r.process (answer_election team now from number why t r).run.process
answer_since team now from number why t r low = go (first_refusal (answer_tests team now from number why t r.process)) refl
  where
    above : first_refusal (answer_tests team now from number why t r.process) ≡ None → r.process.vote.promised ≤ number
    above e = let new = (none_present (answer_tests team now from number why t r.process) e).1.1.1.0 in grind (arith, nat_tests)

    go : (o : Option Reason) → first_refusal (answer_tests team now from number why t r.process) ≡ o
        → Since r.process (elim o as (λ o. Ruled) [ None ↦ done (election_answered now from (promise_by r.process number t) r) | Some reason ↦ dropped reason r ]).run.process
    go None e = record { last = λ d is. inl is; promised = above e; ballot = low.ballot }
    go (Some reason) e = same r.process low

-- a ballot with one promise more keeps its number
joined_low : (given : Promise) (most : ℕ) (o : Option Ballot) → ((b : Ballot) → o ≡ Some b → b.number ≤ most) → (b : Ballot) → option_map (joined given) o ≡ Some b → b.number ≤ most
joined_low given most None low b is = absurd (cc)
joined_low given most (Some held) low b is = let it : joined given held ≡ b = cc in subst (λ (z : Ballot). z.number ≤ most) it (low held refl)

promise_since : (given : Promise) (r : Run) → IsLow r.process → Since r.process (take_promise given r).run.process
promise_since given r low = go (wants given r.process.ballot)
  where
    go : (test : Bool) → Since r.process (cond test (done (promise_added given r)) (dropped reasons.Old r)).run.process
    go true = record { last = λ d is. inl is; promised = omega arith; ballot = joined_low given r.process.vote.promised r.process.ballot low.ballot }
    go false = same r.process low

timely_since : (team : Team) (now : Moment) (head : Head) (rule : ℕ → Run → Ruled) (r : Run) → IsLow r.process → ((t : ℕ) → Since r.process (rule t r).run.process) → Since r.process (if_timely team now head rule r).run.process
timely_since team now head rule r low each = go (timely_reading (rate_of team now head) now.reading)
  where
    go : (o : Result ℕ Reason) → Since r.process (elim o as (λ o. Ruled) [ Err reason ↦ dropped reason r | Ok t ↦ rule t r ]).run.process
    go (Err reason) = same r.process low
    go (Ok t) = each t

kind_since : (team : Team) (now : Moment) (head : Head) (body : Body) (r : Run) → IsLow r.process → Since r.process (kind_rule team now head body r).run.process
unfolding kind_rule
kind_since team now head (bodies.Update kept) r low = update_since now kept r low
kind_since team now head (bodies.Decision d) r low = timely_since team now head (λ t. take_decision now d) r low (λ t. decision_since now d r low)
kind_since team now head (bodies.NoDecision number group turn skip reports best) r low = same r.process low
kind_since team now head (bodies.Election number why) r low = timely_since team now head (answer_election team now head.from number why) r low (λ t. answer_since team now head.from number why t r low)
kind_since team now head (bodies.Promise number report d) r low = timely_since team now head (λ t. take_promise (record { number = number; report = report; decision = d })) r low (λ t. promise_since (record { number = number; report = report; decision = d }) r low)
kind_since team now head (bodies.Ask want) r low = question_since now head.from want r low
kind_since team now head (bodies.State group position total offset bytes) r low = same r.process low
kind_since team now head (bodies.Sync ready) r low = same r.process low

rule_since : (team : Team) (now : Moment) (packet : Result (Option Datagram) Reason) (r : Run) → IsLow r.process → Since r.process (rule team now packet r).run.process
rule_since team now (Err reason) r low = same r.process low
rule_since team now (Ok None) r low = same r.process low
rule_since team now (Ok (Some d)) r low = kind_since team now d.head d.body r low

own_since : (team : Team) (now : Moment) (e : Event) (packet : Result (Option Datagram) Reason) (r : Run) → IsLow r.process → Since r.process (event_rule team now e packet r).run.process
own_since team now e packet r low = by_event team now e packet r (λ z. Since r.process z.run.process) (rule_since team now packet r low) (λ order atom payload. propose_since team now order atom payload r low)

-- ---- the duties

drop_since : (team : Team) (t : ℕ) (p : Process) (r : Run) → Since p r.process → Since p (drop_ballot team t r).process
drop_since team t p r k = go (has_spent_ballot team t r.process)
  where
    go : (test : Bool) → Since p (cond test (ballot_dropped r) r).process
    go true = record { last = k.last; promised = k.promised; ballot = λ b is. absurd (cc) }
    go false = k

-- a ballot that is held is of the promised number
abbrev IsPromised : Process → Type 0
IsPromised q = (b : Ballot) → q.ballot ≡ Some b → b.number ≡ q.vote.promised

drop_promised : (team : Team) (t : ℕ) (r : Run) → IsPromised (drop_ballot team t r).process
drop_promised team t r = go (has_spent_ballot team t r.process) refl
  where
    left : (b : Ballot) (o : Option Ballot) → o ≡ Some b → (elim o as (λ o. Bool) [ None ↦ false | Some ballot ↦ is_over team r.process.vote.promised (last_decision r.process) t ballot ]) ≡ false → b.number ≡ r.process.vote.promised
    left b None is e = absurd (cc)
    left b (Some held) is e = let it : held ≡ b = cc in subst (λ (z : Ballot). z.number ≡ r.process.vote.promised) it (grind (arith, nat_tests))

    go : (test : Bool) → has_spent_ballot team t r.process ≡ test → IsPromised (cond test (ballot_dropped r) r).process
    go true e b is = absurd (cc)
    go false e b is = left b r.process.ballot is e

-- so it stays between the ballot that is dropped and the group that is made
record Ready (p q : Process) : Type 0 where
  since : Since p q
  held : IsPromised q

-- A next decision is of the last one's group, which is then promised; so p promised no other one.
turn_ready : (team : Team) (now : Moment) (t : ℕ) (p : Process) (r : Run) → IsLow p → Ready p r.process → Ready p (take_turn team now t r).process
turn_ready team now t p r low k = go (last_decision r.process) refl
  where
    at_most : (last : Decision) → (last_decision p ≡ Some last) ⊎ (last.group ≡ p.vote.promised) → last.group ≤ p.vote.promised
    at_most last (inl is) = low.last last is
    at_most last (inr is) = omega arith

    group : (last : Decision) → last_decision r.process ≡ Some last → has_turn team t r.process ≡ true → last.group ≡ p.vote.promised
    group last is turn =
        let mine : is_turn team (member_of r.process.identity) (Some last) r.process.vote.promised t ≡ true = subst (λ (o : Option Decision). is_turn team (member_of r.process.identity) o r.process.vote.promised t ≡ true) is turn in
        let now_promised : last.group ≡ r.process.vote.promised = grind (arith, nat_tests) in
        let below = at_most last (k.since.last last is) in
        let more = k.since.promised in
        omega arith

    by_test : (last : Decision) → last_decision r.process ≡ Some last → (test : Bool) → has_turn team t r.process ≡ test → Ready p (cond test (turn_taken team now last t r) r).process
    by_test last is true e = record {
      since = record {
        last = λ d made. let it : next_decision (entries_to_add team t last r.process) last t r.process.identity.who ≡ d = cc in inr (subst (λ (z : Decision). z.group ≡ p.vote.promised) it (group last is e));
        promised = k.since.promised;
        ballot = k.since.ballot;
      };
      held = k.held;
    }
    by_test last is false e = k

    go : (o : Option Decision) → last_decision r.process ≡ o → Ready p (elim o as (λ o. Run) [ None ↦ r | Some last ↦ cond (has_turn team t r.process) (turn_taken team now last t r) r ]).process
    go None is = k
    go (Some last) is = by_test last is (has_turn team t r.process) refl

-- a group that is made is of its ballot's number
group_number : (team : Team) (ballot : Ballot) (log : Log) (payloads : List Kept) (me : Member) (t : ℕ) (d : Decision) → group_made team ballot log payloads me t ≡ Ok d → d.group ≡ ballot.number
group_number team ballot log payloads me t d e = go (first_objection (objections team ballot log payloads me)) e
  where
    go : (o : Option NoGroup) → (elim o as (λ o. Result Decision NoGroup) [ None ↦ Ok (first_decision team ballot me t) | Some why ↦ Err why ]) ≡ Ok d → d.group ≡ ballot.number
    go None e = let it : first_decision team ballot me t ≡ d = cc in ap (λ (z : Decision). z.group) (sym it)
    go (Some why) e = absurd (cc)

-- what changes no belief
same_belief : (p q s : Process) → s.belief ≡ q.belief → ComesUnder p q → ComesUnder p s
same_belief p q s e k d is = k d (ap last_of (sym e) ∙ is)

-- That number is promised, and not above what p promised; so p promised no other one.
group_under : (team : Team) (now : Moment) (t : ℕ) (p : Process) (r : Run) → Ready p r.process → ComesUnder p (make_group team now t r).process
group_under team now t p r k = by_group team now t r (λ s. ComesUnder p s.process) k.since.last
    (λ ballot d is full e x last.
    let it : d ≡ x = cc in
    let number = group_number team ballot r.process.log (payloads_of r.process.waiting) (member_of r.process.identity) t d e in
    let held = k.held ballot is in
    let low = k.since.ballot ballot is in
    let more = k.since.promised in
    let group : d.group ≡ p.vote.promised = omega arith in
    inr (subst (λ (z : Decision). z.group ≡ p.vote.promised) it group))
    (λ ballot best id is e. same_belief p r.process (decision_held now ToGroup best ballot.best_from id r).process refl k.since.last)

election_belief : (team : Team) (now : Moment) (t : ℕ) (r : Run) → (begin_election team now t r).process.belief ≡ r.process.belief
election_belief team now t r = go (holds_election team now t r.process)
  where
    go : (test : Bool) → (cond test (election_begun team now (why_begun team (last_decision r.process) t) (own_promise team (report_by r.process t) (last_decision r.process) t) r) r).process.belief ≡ r.process.belief
    go true = refl
    go false = refl

deliver_belief : (team : Team) (t : ℕ) (r : Run) → (deliver team t r).process.belief ≡ r.process.belief
deliver_belief team t r = go (is_up team r.process.vote r.process.belief (Some t))
  where
    go : (up : Bool) → (cond up (all_delivered team (or_none (last_decision r.process)) r) r).process.belief ≡ r.process.belief
    go true = refl
    go false = refl

timed_under : (team : Team) (now : Moment) (t : ℕ) (p : Process) (r : Run) → IsLow p → Since p r.process → ComesUnder p (timed_duties team now t r).process
unfolding timed_duties
timed_under team now t p r low k =
    let a : Run = drop_ballot team t r in
    let b : Run = take_turn team now t a in
    let c : Run = make_group team now t b in
    let left : Ready p a.process = record { since = drop_since team t p r k; held = drop_promised team t r } in
    let d : Run = begin_election team now t c in
    same_belief p c.process (deliver team t d).process (deliver_belief team t d ∙ election_belief team now t c) (group_under team now t p b (turn_ready team now t p a low left))

if_timed_under : (team : Team) (now : Moment) (reading : Option ℕ) (p : Process) (r : Run) → IsLow p → Since p r.process → ComesUnder p (duties_if_timed team now reading r).process
if_timed_under team now None p r low k = k.last
if_timed_under team now (Some t) p r low k = timed_under team now t p r low k

duties_under : (team : Team) (now : Moment) (p : Process) (r : Run) → IsLow p → Since p r.process → ComesUnder p (duties team now r).process
unfolding duties
duties_under team now p r low k =
    let b : Run = duties_if_timed team now now.reading r in
    same_belief p b.process (duties team now r).process (beat_keeps team now b) (if_timed_under team now now.reading p r low k)

-- ---- a whole event

ended_under : (team : Team) (h : ℕ) (e : Event) (p : Process) → IsLow p → ComesUnder p (ended_by team h e p).process
ended_under team h e p low = go (has_duties e)
  where
    now : Moment
    now = moment_of team h e p

    start : Run
    start = read_by team h e p

    ruled : Run
    ruled = (ruled_by team h e p).run

    -- what is learnt of time changes nothing of this
    since : Since p (ruled_by team h e p).run.process
    since =
        let k : Since (read_by team h e p).process (ruled_by team h e p).run.process = own_since team (moment_of team h e p) e (learnt_by team h e p).packet (read_by team h e p) (record { last = low.last; ballot = low.ballot; held = low.held }) in
        record { last = k.last; promised = k.promised; ballot = k.ballot }

    go : (b : Bool) → ComesUnder p (cond b (duties team now ruled) ruled).process
    go true = duties_under team now p ruled low since
    go false = since.last

step_under : (team : Team) (h : ℕ) (e : Event) (p : Process) → IsLow p → ComesUnder p (step team h e p).process
unfolding step
step_under team h e p low = ended_under team h e p low

-- ---- a step of a schedule

-- the last decision and the ballot of a process that runs are of groups that it promised in this life
is_low : (team : Team) (past : List Step) (who : ℕ) (p : Process) → OfGroups team past (written team past) → OfMember team past (written team past) who p → IsLow p
is_low team past who p known mine = record {
  last = λ d is. (own_group team past (written team past) who p d known.promises mine.promiser known.makes.arise mine.maker is).below;
  ballot = λ b is.
      let x = (mine.maker.ballot b is).own in
      let low = of_each (λ (v : Promised). v.who ≡ who → v.life ≡ life who past → v.promise.number ≤ p.vote.promised) (written team past).promises x.0 mine.promiser.latest.greatest x.1 x.2 x.3 in
      let number = x.4 in
      omega arith;
  held = λ d hold is held purpose. (mine.promiser.held d hold is held purpose).promised;
}

started_alone : (who : ℕ) (mode : Mode) (h : ℕ) (d : Decision) → last_decision (started who mode h) ≢ Some d
started_alone who modes.First h d e = cc
started_alone who modes.Again h d e = cc

had : (o : Option Process) (p q : Process) (d : Decision) → o ≡ Some p → ComesUnder p q → last_decision q ≡ Some d → HadPromised o d
had o p q d runs k is = subst (λ (o : Option Process). HadPromised o d) (sym runs) (λ other. go other (k d is))
  where
    go : last_decision p ≢ Some d → (last_decision p ≡ Some d) ⊎ (d.group ≡ p.vote.promised) → d.group ≡ p.vote.promised
    go other (inl before) = absurd (other before)
    go other (inr group) = group

pub under : (team : Team) (past : List Step) (s : Step) → IsSound team → Admissible team (s ∷ past) → IsUnder team past s
under team past s sound ok = go (turn team past s ok)
  where
    -- what runs after the step, by what the step comes to
    ends : (r q : Process) (d : Decision) (o : Option Process) → o ≡ Some r → o ≡ Some q → last_decision q ≡ Some d → last_decision r ≡ Some d
    ends r q d o e f is = let it : r ≡ q = cc in ap (λ (z : Process). last_decision z) it ∙ is

    go : Turn team past s (deed_in team (world team past) s) → IsUnder team past s
    go (Turn.Starts mode act comes) q d runs is = absurd (started_alone s.who mode s.h d (ends (started s.who mode s.h) q d (deed_in team (world team past) s).process (ap (λ (d : Deed). d.process) comes) runs is))
    go (Turn.Stops act comes) q d runs is = let none : None ≡ Some q = sym (ap (λ (d : Deed). d.process) comes) ∙ runs in absurd (cc)
    go (Turn.Looks p ran act comes) q d runs is =
        had ((world team past).process_of s.who) p (looked team s.h p) d ran (λ x e. inl e) (ends (looked team s.h p) q d (deed_in team (world team past) s).process (ap (λ (d : Deed). d.process) comes) runs is)
    go (Turn.Happens e p ran brings comes) q d runs is =
        let k = grouped_well team past sound (earlier team past s ok) in
        let low : IsLow p = is_low team past s.who p k.history (k.running s.who p ran) in
        had ((world team past).process_of s.who) p (step team s.h e p).process d ran (step_under team s.h e p low)
        (ends (step team s.h e p).process q d (deed_in team (world team past) s).process (ap (λ (d : Deed). d.process) comes) runs is)
