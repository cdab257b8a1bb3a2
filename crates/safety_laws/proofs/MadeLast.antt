-- A decision that a step makes is the last one that its process has after the step.
use Rattle.std.proofs.Common.{◌≡◌, sym, ap, ◌∙◌, ℕ, Bool, true, false, cond, Option, Some, None}
use Rattle.tw_num.specs.declared.moment.Moment.{Moment}
use Rattle.tw_machine.specs.Types.{Team, Decision}
use Rattle.tw_types.specs.Beliefs.{last_of}
use Rattle.tw_types.specs.Decisions.{or_none}
use Rattle.tw_types.specs.Elections.{why_begun, own_promise}
use Rattle.tw_types.specs.Flag.{is_up}
use Rattle.tw_types.specs.Groups.{group_making}
use Rattle.tw_types.specs.Votes.{Making}
use Rattle.tw_types.specs.Process.{Process}
use Rattle.tw_machine.specs.Event.{Event}
use Rattle.tw_machine.specs.Run.{Run}
use Rattle.tw_machine.specs.Standing.{last_decision, report_by}
use Rattle.tw_machine.specs.Electing.{ballot_dropped, has_spent_ballot, drop_ballot, holds_election, election_begun, begin_election}
use Rattle.tw_machine.specs.Deciding.{decision_made, has_turn, turn_taken, take_turn, next_made}
use Rattle.tw_machine.specs.Grouping.{make_group}
use Rattle.tw_machine.specs.Delivering.{all_delivered, deliver}
use Rattle.tw_machine.specs.Duties.{timed_duties, duties_if_timed, duties}
use Rattle.tw_machine.specs.Step.{moment_of, ruled_by, has_duties, ended_by, step}
use Rattle.tw_machine.proofs.Ends.{by_group}
use Rattle.tw_machine.proofs.Told.{beat_keeps}
use Rattle.safety_laws.proofs.MadeTold.{ruled_makes_none, beat_none}

-- what a run made so far is its process's last decision
abbrev IsLast : Run → Type 0
IsLast r = (d : Decision) → r.out.made ≡ Some d → last_decision r.process ≡ Some d

-- ---- the duties

drop_last : (team : Team) (t : ℕ) (r : Run) → IsLast r → IsLast (drop_ballot team t r)
drop_last team t r before = go (has_spent_ballot team t r.process)
  where
    go : (test : Bool) → IsLast (cond test (ballot_dropped r) r)
    go true = before
    go false = before

-- a decision that is made is taken
made_last : (team : Team) (now : Moment) (making : Making) (t : ℕ) (r : Run) → IsLast (decision_made team now making t r)
made_last team now making t r d e = e

turn_last : (team : Team) (now : Moment) (t : ℕ) (r : Run) → IsLast r → IsLast (take_turn team now t r)
turn_last team now t r before = go (last_decision r.process)
  where
    by_test : (last : Decision) → (test : Bool) → IsLast (cond test (turn_taken team now last t r) r)
    by_test last true = made_last team now (next_made team t last r.process) t r
    by_test last false = before

    go : (o : Option Decision) → IsLast (elim o as (λ o. Run) [ None ↦ r | Some last ↦ cond (has_turn team t r.process) (turn_taken team now last t r) r ])
    go None = before
    go (Some last) = by_test last (has_turn team t r.process)

group_last : (team : Team) (now : Moment) (t : ℕ) (r : Run) → IsLast r → IsLast (make_group team now t r)
group_last team now t r before = by_group team now t r IsLast before (λ ballot d is full e. made_last team now (group_making ballot d) t (ballot_dropped r))
    (λ ballot best id is e. before)

election_last : (team : Team) (now : Moment) (t : ℕ) (r : Run) → IsLast r → IsLast (begin_election team now t r)
election_last team now t r before = go (holds_election team now t r.process)
  where
    go : (test : Bool) → IsLast (cond test (election_begun team now (why_begun team (last_decision r.process) t) (own_promise team (report_by r.process t) (last_decision r.process) t) r) r)
    go true = before
    go false = before

deliver_last : (team : Team) (t : ℕ) (r : Run) → IsLast r → IsLast (deliver team t r)
deliver_last team t r before = go (is_up team r.process.vote r.process.belief (Some t))
  where
    go : (up : Bool) → IsLast (cond up (all_delivered team (or_none (last_decision r.process)) r) r)
    go true = before
    go false = before

timed_last : (team : Team) (now : Moment) (t : ℕ) (r : Run) → IsLast r → IsLast (timed_duties team now t r)
unfolding timed_duties
timed_last team now t r before =
    let a : Run = drop_ballot team t r in
    let b : Run = take_turn team now t a in
    let c : Run = make_group team now t b in
    deliver_last team t (begin_election team now t c) (election_last team now t c (group_last team now t b (turn_last team now t a (drop_last team t r before))))

if_timed_last : (team : Team) (now : Moment) (reading : Option ℕ) (r : Run) → IsLast r → IsLast (duties_if_timed team now reading r)
if_timed_last team now None r before = before
if_timed_last team now (Some t) r before = timed_last team now t r before

duties_last : (team : Team) (now : Moment) (r : Run) → IsLast r → IsLast (duties team now r)
unfolding duties
duties_last team now r before d made =
    let timed : Run = duties_if_timed team now now.reading r in
    ap last_of (beat_keeps team now timed) ∙ if_timed_last team now now.reading r before d (sym (beat_none team now timed).line ∙ made)

-- ---- the whole

ended_last : (team : Team) (h : ℕ) (e : Event) (p : Process) → IsLast (ended_by team h e p)
ended_last team h e p = go (has_duties e)
  where
    ruled : Run
    ruled = (ruled_by team h e p).run

    nothing : IsLast (ruled_by team h e p).run
    nothing d made = absurd (let none : None ≡ Some d = sym (ruled_makes_none team h e p) ∙ made in cc)

    go : (b : Bool) → IsLast (cond b (duties team (moment_of team h e p) ruled) ruled)
    go true = duties_last team (moment_of team h e p) ruled nothing
    go false = nothing

-- What a step prints as made is the last decision that its process has then.
pub step_made_last : (team : Team) (h : ℕ) (e : Event) (p : Process) (d : Decision) → (step team h e p).out.made ≡ Some d → last_decision (step team h e p).process ≡ Some d
unfolding step
step_made_last team h e p d made = ended_last team h e p d made
