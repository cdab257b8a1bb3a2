-- Decisions that a process makes: the next one of its group, when it is its turn.
use Rattle.std.specs.Prelude.{ℕ, Bool, if◌then◌else◌, List, [], ◌∷◌, ◌++◌, Option, Some, None}
use Rattle.tw_num.specs.declared.moment.Moment.{Moment}
use Rattle.tw_machine.specs.Types.{Team, Entry, Kept, Decision}
use Rattle.tw_types.specs.declared.datagram.Body.TheVariants as bodies
use Rattle.tw_types.specs.Votes.{Making}
use Rattle.tw_types.specs.Flag.{is_up}
use Rattle.tw_types.specs.Appending.{appended_list, appended_kept}
use Rattle.tw_types.specs.Turns.{is_turn, next_decision}
use Rattle.tw_types.specs.Groups.{next_making}
use Rattle.tw_types.specs.Process.{Process}
use Rattle.tw_machine.specs.Run.{Run}
use Rattle.tw_machine.specs.Sending.{sent_to_others}
use Rattle.tw_machine.specs.Standing.{member_of, last_decision}
use Rattle.tw_machine.specs.Entering.{entered}

-- it supports a decision at its reading t
abbrev pub supporting : ℕ → Process → Process
supporting t p = record p { vote = record (p.vote) { support = Some t } }

-- The maker takes its own decision without a check, keeps its reading t as that of its last support, and prints the decision.
abbrev pub making_kept : Making → ℕ → Run → Run
making_kept making t r = record r {
  process = entered making.decision (supporting t r.process);
  out = record (r.out) { made = Some making.decision };
  makings = r.makings ++ making ∷ [];
}

-- and it goes to all other processes, members or not
abbrev pub decision_made : Team → Moment → Making → ℕ → Run → Run
decision_made team now making t r = sent_to_others team.n now (bodies.Decision making.decision) (making_kept making t r)

-- a next decision is due to this process at its reading t
abbrev pub has_turn : Team → ℕ → Process → Bool
has_turn team t p = is_turn team (member_of p.identity) (last_decision p) p.vote.promised t

-- A maker that is up by its last decision adds what it can of the updates that wait; one that isn't adds nothing.
abbrev pub entries_to_add : Team → ℕ → Decision → Process → List Entry
entries_to_add team t last p = if is_up team p.vote p.belief (Some t) then appended_list team t p.log.passed last p.waiting.pending else []

-- and these with their payloads
abbrev pub kept_to_add : Team → ℕ → Decision → Process → List Kept
kept_to_add team t last p = if is_up team p.vote p.belief (Some t) then appended_kept team t p.log.passed last p.waiting.pending else []

-- what the next decision is made of
abbrev pub next_made : Team → ℕ → Decision → Process → Making
next_made team t last p = next_making last (kept_to_add team t last p) (next_decision (entries_to_add team t last p) last t p.identity.who)

abbrev pub turn_taken : Team → Moment → Decision → ℕ → Run → Run
turn_taken team now last t r = decision_made team now (next_made team t last r.process) t r

abbrev pub take_turn : Team → Moment → ℕ → Run → Run
take_turn team now t r = by (last_decision r.process)
  where
    by : Option Decision → Run
    by None = r
    by (Some last) = if has_turn team t r.process then turn_taken team now last t r else r
