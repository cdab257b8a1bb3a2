-- Which duties exclude each other in one step.
use Rattle.std.proofs.Common.{◌≡◌, ◌≢◌, refl, sym, ap, subst, ◌∙◌, inl, inr, ◌⊎◌, ℕ, ◌+◌, Bool, true, false, cond, List, [], ◌∷◌, length, Option, Some, None, Result, Ok, Err, arith, ◌<◌, ◌≤◌}
use Rattle.std.proofs.lemmas.List.{length-append}
use Rattle.std.proofs.lemmas.Bool.Decides.{nat_tests}
use Rattle.tw_num.specs.declared.moment.Moment.{Moment}
use Rattle.tw_machine.specs.Types.{Team, Decision, Ballot, Kept, Member}
use Rattle.tw_types.specs.Ballots.{is_over, is_complete}
use Rattle.tw_types.specs.Waiting.{payloads_of}
use Rattle.tw_types.specs.Groups.{NoGroup, group_made, first_decision, objections, first_objection}
use Rattle.tw_types.specs.Turns.{is_turn, next_decision}
use Rattle.tw_types.specs.Beliefs.{Log, last_of}
use Rattle.tw_types.specs.Decisions.{or_none}
use Rattle.tw_types.specs.Flag.{is_up}
use Rattle.tw_types.specs.Votes.{Vote}
use Rattle.tw_types.specs.declared.datagram.Want.TheVariants as wants
use Rattle.tw_types.specs.Process.{Process}
use Rattle.tw_machine.specs.Run.{Run}
use Rattle.tw_machine.specs.Standing.{member_of, last_decision, report_by}
use Rattle.tw_machine.specs.Electing.{has_spent_ballot, ballot_dropped, drop_ballot, holds_election, election_begun, begin_election}
use Rattle.tw_machine.specs.Deciding.{has_turn, entries_to_add, turn_taken, take_turn}
use Rattle.tw_machine.specs.Grouping.{begun_or_held, make_group}
use Rattle.tw_machine.specs.Sending.{datagram_to, sent_to_others}
use Rattle.tw_machine.specs.Delivering.{all_delivered, deliver}
use Rattle.tw_machine.specs.Duties.{timed_duties}
use Rattle.tw_machine.proofs.Ends.{by_group}
use Rattle.tw_machine.specs.Beating.{is_repeated, repeat_decision}
use Rattle.tw_types.specs.declared.datagram.Body.TheVariants as bodies
use Rattle.tw_types.specs.Slots.{slot_of}
use Rattle.tw_types.specs.Elections.{why_begun, own_promise}

-- A ballot that isn't over is of the promised number, and the last decision of another group.
turn_or_ballot : (team : Team) (t : ℕ) (p : Process) (last : Option Decision) (ballot : Ballot) → is_over team p.vote.promised last t ballot ≡ false → is_turn team (member_of p.identity) last p.vote.promised t ≢ true
turn_or_ballot team t p None ballot over turn = cc
turn_or_ballot team t p (Some last) ballot over turn = grind (arith, nat_tests)

no_ballot : (team : Team) (t : ℕ) (p : Process) (o : Option Ballot) → p.ballot ≡ o → has_spent_ballot team t p ≡ false → has_turn team t p ≡ true → o ≡ None
no_ballot team t p None is spent turn = refl
no_ballot team t p (Some ballot) is spent turn =
    let over : is_over team p.vote.promised (last_decision p) t ballot ≡ false = ap (λ (o : Option Ballot). elim o as (λ o. Bool) [ None ↦ false | Some ballot ↦ is_over team p.vote.promised (last_decision p) t ballot ]) (sym is) ∙ spent in
    absurd (turn_or_ballot team t p (last_decision p) ballot over turn)

-- a process whose turn it is, once the ballot is dropped of which nothing comes, holds none
pub turn_without_ballot : (team : Team) (t : ℕ) (r : Run) → has_turn team t (drop_ballot team t r).process ≡ true → (drop_ballot team t r).process.ballot ≡ None
turn_without_ballot team t r = go (has_spent_ballot team t r.process) refl
  where
    go : (b : Bool) → has_spent_ballot team t r.process ≡ b → has_turn team t (cond b (ballot_dropped r) r).process ≡ true → (cond b (ballot_dropped r) r).process.ballot ≡ None
    go true e turn = refl
    go false e turn = no_ballot team t r.process r.process.ballot refl e turn

-- where it isn't a process's turn none is taken
pub no_turn : (team : Team) (now : Moment) (t : ℕ) (r : Run) → has_turn team t r.process ≡ false → take_turn team now t r ≡ r
no_turn team now t r none = go (last_decision r.process)
  where
    go : (o : Option Decision) → (elim o as (λ o. Run) [ None ↦ r | Some last ↦ cond (has_turn team t r.process) (turn_taken team now last t r) r ]) ≡ r
    go None = refl
    go (Some last) = rw none refl

turn_keeps_ballot : (team : Team) (now : Moment) (t : ℕ) (r : Run) → (take_turn team now t r).process.ballot ≡ r.process.ballot
turn_keeps_ballot team now t r = go (last_decision r.process)
  where
    by : (last : Decision) → (b : Bool) → (cond b (turn_taken team now last t r) r).process.ballot ≡ r.process.ballot
    by last true = refl
    by last false = refl

    go : (o : Option Decision) → (elim o as (λ o. Run) [ None ↦ r | Some last ↦ cond (has_turn team t r.process) (turn_taken team now last t r) r ]).process.ballot ≡ r.process.ballot
    go None = refl
    go (Some last) = by last (has_turn team t r.process)

-- without a ballot no group is made
pub no_group : (team : Team) (now : Moment) (t : ℕ) (r : Run) → r.process.ballot ≡ None → make_group team now t r ≡ r
no_group team now t r none = ap (λ (o : Option Ballot). elim o as (λ o. Run) [ None ↦ r | Some ballot ↦ cond (is_complete team t ballot) (begun_or_held team now ballot t (group_made team ballot r.process.log (payloads_of r.process.waiting) (member_of r.process.identity) t) r) r ]) none

-- So whoever makes a next decision makes no group in the same step.
pub turn_or_group : (team : Team) (now : Moment) (t : ℕ) (r : Run) → has_turn team t (drop_ballot team t r).process ≡ true
    → make_group team now t (take_turn team now t (drop_ballot team t r)) ≡ take_turn team now t (drop_ballot team t r)
turn_or_group team now t r turn =
    no_group team now t (take_turn team now t (drop_ballot team t r)) (turn_keeps_ballot team now t (drop_ballot team t r) ∙ turn_without_ballot team t r turn)

no_repeat_by : (team : Team) (now : Moment) (r : Run) (last : Decision) → last_decision r.process ≡ Some last → is_repeated team r.process last now.reading ≡ false → repeat_decision team now r ≡ r
no_repeat_by team now r last is none =
    ap (λ (o : Option Decision). elim o as (λ o. Run) [ None ↦ r | Some last ↦ cond (is_repeated team r.process last now.reading) (sent_to_others team.n now (bodies.Decision last) r) r ]) is ∙ rw none refl

just_made : (team : Team) (p : Process) (last : Decision) (t : ℕ) → 0 < team.decide → last.made ≡ t → is_repeated team p last (Some t) ≡ false
just_made team p last t long made = go (is_repeated team p last (Some t)) refl
  where
    go : (b : Bool) → is_repeated team p last (Some t) ≡ b → b ≡ false
    go true e = absurd (grind (arith, nat_tests))
    go false e = refl

-- a decision that was made at this reading isn't said again in the same step
pub no_repeat_of_made : (team : Team) (now : Moment) (t : ℕ) (r : Run) (last : Decision) → 0 < team.decide → now.reading ≡ Some t → last_decision r.process ≡ Some last → last.made ≡ t → repeat_decision team now r ≡ r
no_repeat_of_made team now t r last long reading is made =
    no_repeat_by team now r last is (ap (is_repeated team r.process last) reading ∙ just_made team r.process last t long made)

other_group : (team : Team) (p : Process) (last : Decision) (reading : Option ℕ) → last.group ≢ p.vote.promised → is_repeated team p last reading ≡ false
other_group team p last None other = refl
other_group team p last (Some t) other = go (is_repeated team p last (Some t)) refl
  where
    go : (b : Bool) → is_repeated team p last (Some t) ≡ b → b ≡ false
    go true e = absurd (other (grind (arith, nat_tests)))
    go false e = refl

-- nor is any of another group than the promised one
pub no_repeat_of_other : (team : Team) (now : Moment) (r : Run) (last : Decision) → last_decision r.process ≡ Some last → last.group ≢ r.process.vote.promised → repeat_decision team now r ≡ r
no_repeat_of_other team now r last is other = no_repeat_by team now r last is (other_group team r.process last now.reading other)

-- so whoever holds an election repeats nothing in the same step
pub no_repeat_of_elector : (team : Team) (now : Moment) (t : ℕ) (r : Run) (last : Decision) → holds_election team now t r.process ≡ true → last_decision r.process ≡ Some last → last.group ≤ r.process.vote.promised
    → repeat_decision team now (begin_election team now t r) ≡ begin_election team now t r
no_repeat_of_elector team now t r last holds is kept =
    let begun : begin_election team now t r ≡ election_begun team now (why_begun team (last_decision r.process) t) (own_promise team (report_by r.process t) (last_decision r.process) t) r = rw holds refl in
    let above : r.process.vote.promised < slot_of team t = grind (arith, nat_tests) in
    rw begun (no_repeat_of_other team now (election_begun team now (why_begun team (last_decision r.process) t) (own_promise team (report_by r.process t) (last_decision r.process) t) r) last is (λ e. (let f : last.group ≡ slot_of team t = e in omega (arith, f, above, kept))))

-- ---- who made a decision or holds an election repeats nothing in the same step

-- a group is made at the moment of its making
pub group_time : (team : Team) (ballot : Ballot) (log : Log) (payloads : List Kept) (me : Member) (t : ℕ) (d : Decision) → group_made team ballot log payloads me t ≡ Ok d → d.made ≡ t
group_time team ballot log payloads me t d e = go (first_objection (objections team ballot log payloads me)) e
  where
    go : (o : Option NoGroup) → (elim o as (λ o. Result Decision NoGroup) [ None ↦ Ok (first_decision team ballot me t) | Some why ↦ Err why ]) ≡ Ok d → d.made ≡ t
    go None e = let is : first_decision team ballot me t ≡ d = cc in ap (λ (d : Decision). d.made) (sym is)
    go (Some why) e = absurd (cc)

-- its last decision was made at t
abbrev MadeAt : ℕ → Process → Type 0
MadeAt t p = (last : Decision) × (last_decision p ≡ Some last) × (last.made ≡ t)

-- its last decision and its promise are what they were, and at most one datagram more is sent
record Quiet (a b : Run) : Type 0 where
  belief : b.process.belief ≡ a.process.belief
  vote : b.process.vote ≡ a.process.vote
  few : length b.out.sends ≤ length a.out.sends + 1

still_made : (t : ℕ) (p q : Process) → q.belief ≡ p.belief → MadeAt t p → MadeAt t q
still_made t p q same k = (k.0, ap last_of same ∙ k.1, k.2)

turn_made : (team : Team) (now : Moment) (t : ℕ) (r : Run) → MadeAt t (take_turn team now t r).process ⊎ (take_turn team now t r ≡ r)
turn_made team now t r = go (last_decision r.process)
  where
    by : (last : Decision) → (b : Bool) → MadeAt t (cond b (turn_taken team now last t r) r).process ⊎ (cond b (turn_taken team now last t r) r ≡ r)
    by last true = inl (next_decision (entries_to_add team t last r.process) last t r.process.identity.who, refl, refl)
    by last false = inr refl

    go : (o : Option Decision) → MadeAt t (elim o as (λ o. Run) [ None ↦ r | Some last ↦ cond (has_turn team t r.process) (turn_taken team now last t r) r ]).process
        ⊎ ((elim o as (λ o. Run) [ None ↦ r | Some last ↦ cond (has_turn team t r.process) (turn_taken team now last t r) r ]) ≡ r)
    go None = inr refl
    go (Some last) = by last (has_turn team t r.process)

group_quiet : (team : Team) (now : Moment) (t : ℕ) (r : Run) → MadeAt t (make_group team now t r).process ⊎ Quiet r (make_group team now t r)
group_quiet team now t r = by_group team now t r (λ s. MadeAt t s.process ⊎ Quiet r s) (inr (record { belief = refl; vote = refl; few = omega arith }))
    (λ ballot d is full e. inl (d, refl, group_time team ballot r.process.log (payloads_of r.process.waiting) (member_of r.process.identity) t d e))
    (λ ballot best id is e. inr (record { belief = refl; vote = refl; few = let l = length-append r.out.sends (datagram_to now r.process.identity r.process.timing (bodies.Ask (wants.Update id)) ballot.best_from ∷ []) in omega arith }))

-- what a last decision of now, or of a group that isn't the promised one, owes to a beat
abbrev RepeatsNone : Team → ℕ → Process → Type 0
RepeatsNone team t p = (last : Decision) → last_decision p ≡ Some last → is_repeated team p last (Some t) ≡ false

made_repeats_none : (team : Team) (t : ℕ) (p : Process) → 0 < team.decide → MadeAt t p → RepeatsNone team t p
made_repeats_none team t p long k last is = let same : k.0 ≡ last = cc in just_made team p last t long (ap (λ (d : Decision). d.made) (sym same) ∙ k.2)

election_quiet : (team : Team) (now : Moment) (t : ℕ) (r : Run) → ((last : Decision) → last_decision r.process ≡ Some last → last.group ≤ r.process.vote.promised)
    → RepeatsNone team t (begin_election team now t r).process ⊎ (begin_election team now t r ≡ r)
election_quiet team now t r kept = go (holds_election team now t r.process) refl
  where
    begun : Run
    begun = election_begun team now (why_begun team (last_decision r.process) t) (own_promise team (report_by r.process t) (last_decision r.process) t) r

    go : (b : Bool) → holds_election team now t r.process ≡ b → RepeatsNone team t (cond b begun r).process ⊎ (cond b begun r ≡ r)
    go true e = inl (λ last is. other_group team begun.process last (Some t)
        (λ same. let low = kept last is in let above : r.process.vote.promised < slot_of team t = grind (arith, nat_tests) in let number : last.group ≡ slot_of team t = same in omega (arith, low, above, number)))
    go false e = inr refl

election_belief : (team : Team) (now : Moment) (t : ℕ) (r : Run) → (begin_election team now t r).process.belief ≡ r.process.belief
election_belief team now t r = go (holds_election team now t r.process)
  where
    go : (b : Bool) → (cond b (election_begun team now (why_begun team (last_decision r.process) t) (own_promise team (report_by r.process t) (last_decision r.process) t) r) r).process.belief ≡ r.process.belief
    go true = refl
    go false = refl

drop_quiet : (team : Team) (t : ℕ) (r : Run) → Quiet r (drop_ballot team t r) × (length (drop_ballot team t r).out.sends ≡ length r.out.sends)
drop_quiet team t r = go (has_spent_ballot team t r.process)
  where
    go : (b : Bool) → Quiet r (cond b (ballot_dropped r) r) × (length (cond b (ballot_dropped r) r).out.sends ≡ length r.out.sends)
    go true = (record { belief = refl; vote = refl; few = omega arith }, refl)
    go false = (record { belief = refl; vote = refl; few = omega arith }, refl)

-- at most one datagram more was sent than so many, or nothing is to be repeated
abbrev FewOrNone : Team → (t sent : ℕ) → Run → Type 0
FewOrNone team t sent r = (length r.out.sends ≤ sent + 1) ⊎ RepeatsNone team t r.process

-- what is delivered changes nothing in this
deliver_keeps : (team : Team) (t sent : ℕ) (r : Run) → FewOrNone team t sent r → FewOrNone team t sent (deliver team t r)
deliver_keeps team t sent r end = go (is_up team r.process.vote r.process.belief (Some t))
  where
    go : (up : Bool) → FewOrNone team t sent (cond up (all_delivered team (or_none (last_decision r.process)) r) r)
    go true = end
    go false = end

pub timed_or_repeated : (team : Team) (now : Moment) (t : ℕ) (r : Run) → 0 < team.decide → ((last : Decision) → last_decision r.process ≡ Some last → last.group ≤ r.process.vote.promised)
    → (length (timed_duties team now t r).out.sends ≤ length r.out.sends + 1) ⊎ RepeatsNone team t (timed_duties team now t r).process
unfolding timed_duties
timed_or_repeated team now t r long kept = deliver_keeps team t (length r.out.sends) (begin_election team now t c) (by_turn (turn_made team now t a))
  where
    a : Run
    a = drop_ballot team t r

    b : Run
    b = take_turn team now t (drop_ballot team t r)

    c : Run
    c = make_group team now t (take_turn team now t (drop_ballot team t r))

    End : Type 0
    End = FewOrNone team t (length r.out.sends) (begin_election team now t (make_group team now t (take_turn team now t (drop_ballot team t r))))

    made : MadeAt t c.process → End
    made k = inr (made_repeats_none team t (begin_election team now t c).process long (still_made t c.process (begin_election team now t c).process (election_belief team now t c) k))

    by_group_then : MadeAt t b.process → MadeAt t c.process ⊎ Quiet b c → End
    by_group_then before (inl k) = made k
    by_group_then before (inr quiet) = made (still_made t b.process c.process quiet.belief before)

    by_election : Quiet a c → RepeatsNone team t (begin_election team now t c).process ⊎ (begin_election team now t c ≡ c) → End
    by_election quiet (inl none) = inr none
    by_election quiet (inr same) = inl (let first = (drop_quiet team t r).1 in let few = quiet.few in let sends = ap (λ (s : Run). length s.out.sends) same in omega arith)

    by_group_alone : b ≡ a → MadeAt t c.process ⊎ Quiet b c → End
    by_group_alone same (inl k) = made k
    by_group_alone same (inr quiet) =
        let from : Quiet a c = subst (λ (s : Run). Quiet s c) same quiet in
        let start = (drop_quiet team t r).0 in
        by_election from (election_quiet team now t c (λ last is. let low = kept last (ap last_of (sym (from.belief ∙ start.belief)) ∙ is) in let vote = ap (λ (v : Vote). v.promised) (from.vote ∙ start.vote) in omega arith))

    by_turn : MadeAt t b.process ⊎ (b ≡ a) → End
    by_turn (inl k) = by_group_then k (group_quiet team now t b)
    by_turn (inr same) = by_group_alone same (group_quiet team now t b)
