-- Elections: who answers one, when the owner of a slot begins one, and when its ballot is dropped.
use Rattle.std.specs.Prelude.{ℕ, Bool, false, if◌then◌else◌, List, [], ◌∷◌, ◌++◌, Option, Some, None}
use Rattle.tw_num.specs.declared.moment.Moment.{Moment}
use Rattle.tw_machine.specs.Types.{Team, Ballot, Why, Reason}
use Rattle.tw_types.specs.declared.datagram.Body.TheVariants as bodies
use Rattle.tw_types.specs.Votes.{Promise}
use Rattle.tw_types.specs.Refusals.{Refusal, first_refusal}
use Rattle.tw_types.specs.Promises.{is_quarantined}
use Rattle.tw_types.specs.Ballots.{begun, is_over}
use Rattle.tw_types.specs.Elections.{begins_slot, why_begun, own_promise, election_tests}
use Rattle.tw_types.specs.Process.{Process}
use Rattle.tw_machine.specs.Run.{Run, Ruled, done, dropped}
use Rattle.tw_machine.specs.Sending.{sent_to, sent_to_others}
use Rattle.tw_machine.specs.Standing.{last_decision, report_by, report_if_able, promise_by}

-- a promise is kept from then on, and told to the history
abbrev pub promised : Promise → Run → Run
promised given r = record r { process = record (r.process) { vote = record (r.process.vote) { promised = given.number } }; promises = r.promises ++ given ∷ [] }

-- why a process doesn't promise at its reading t what an election of this process asks for
abbrev pub answer_tests : Team → Moment → (from number : ℕ) → Why → ℕ → Process → List Refusal
answer_tests team now from number why t p =
    election_tests team (report_if_able p t) (last_decision p) p.vote.promised (is_quarantined team p.identity now.h) from number why t

-- the promise is given, and goes back with its report and its decision
abbrev pub election_answered : Moment → ℕ → Promise → Run → Run
election_answered now from given r = sent_to now (bodies.Promise given.number given.report given.decision) from (promised given r)

abbrev pub answer_election : Team → Moment → (from number : ℕ) → Why → ℕ → Run → Ruled
answer_election team now from number why t r = by (first_refusal (answer_tests team now from number why t r.process))
  where
    by : Option Reason → Ruled
    by None = done (election_answered now from (promise_by r.process number t) r)
    by (Some reason) = dropped reason r

-- a ballot of which nothing comes any more is dropped
abbrev pub ballot_dropped : Run → Run
ballot_dropped r = record r { process = record (r.process) { ballot = None } }

abbrev pub has_spent_ballot : Team → ℕ → Process → Bool
has_spent_ballot team t p = by p.ballot
  where
    by : Option Ballot → Bool
    by None = false
    by (Some ballot) = is_over team p.vote.promised (last_decision p) t ballot

abbrev pub drop_ballot : Team → ℕ → Run → Run
drop_ballot team t r = if has_spent_ballot team t r.process then ballot_dropped r else r

-- a process that owns the present slot holds its election; no wish is known yet
abbrev pub holds_election : Team → Moment → ℕ → Process → Bool
holds_election team now t p = begins_slot team (report_by p t) (last_decision p) p.vote.promised (is_quarantined team p.identity now.h) false t

-- it promises its own number, begins a ballot with that in place of any other, and asks all others
abbrev pub election_begun : Team → Moment → Why → Promise → Run → Run
election_begun team now why own r = sent_to_others team.n now (bodies.Election own.number why) (with_ballot (promised own r))
  where
    with_ballot : Run → Run
    with_ballot s = record s { process = record (s.process) { ballot = Some (begun own) } }

abbrev pub begin_election : Team → Moment → ℕ → Run → Run
begin_election team now t r =
    if holds_election team now t r.process
    then election_begun team now (why_begun team (last_decision r.process) t) (own_promise team (report_by r.process t) (last_decision r.process) t) r
    else r
