-- Lines that are a step's, texts that are each of the things that a text may be, and others that aren't, worked out by
-- hand.
use Rattle.std.proofs.Common.{◌≡◌, refl, ap, inl, inr, ℕ, zero, suc, ◌+◌, arith, true, List, [], ◌∷◌, length, take, None}
use Rattle.std.specs.Prelude.{codes, nat_le}
use Rattle.std.specs.Fmt.{digits}
use Rattle.std.specs.List.{list_all}
use Rattle.tw_io.specs.Faults.{IsRisen}
use Rattle.tw_types.specs.declared.team.TeamFault.TheVariants.{Size}
use Rattle.tw_types.specs.Examples.{team_a}
use Rattle.tw_machine.specs.Types.{Act, Step}
use Rattle.tw_types.specs.declared.step.Act.TheVariants.{First, Crash, Reference, Look}
use Rattle.tw_types.specs.declared.step.Cause.TheVariants.{Time}
use Rattle.schedule_text.specs.declared.status.Status.TheVariants as status
use Rattle.tw_machine.specs.Grammar.{IsTeamLine, IsStepLine}
use Rattle.tw_machine.specs.Admissible.{cause_of, each_own, is_running, keeps_drift}
use Rattle.tw_machine.specs.Dispatches.{Dispatch}
use Rattle.tw_machine.specs.World.{world, Admissible}
use Rattle.replayer.specs.Replay.{step_limit, Spells, Verdict, Whole, Faulty, BadLine, Endless, IsVerdict, status_of}
use Rattle.tw_io.specs.Lines.{lines_of, ended_lines}
use Rattle.replayer.specs.Statuses.{IsGood, HasFaultyTeam, HasBadLine, HasTooMany, IsBadSchedule}
use Rattle.replayer.specs.Answers.{GaveUp}
use Rattle.replayer.proofs.Verdicts.{verdict_once}

abbrev step : ℕ → Act → Step
step who act = record { t = 5; who = who; h = 6; act = act }

short : length (codes "5 2 6 ref 7 9") ≡ 13
short = refl

taken : IsStepLine 3 (codes "5 2 6 ref 7 9") (step 2 (Reference 7 9))
unfolding digits
taken = record { text = refl; t = omega arith; who = omega arith; h = omega arith; act = (omega arith, omega arith); fits = omega (arith, short) }

-- of a process that isn't of the team
no_process : IsStepLine 3 (codes "5 3 6 first") (step 3 First) → ⊥
no_process line = omega (arith, line.who)

-- with its ends in the other order
ends_crossed : IsStepLine 3 (codes "5 2 6 ref 9 7") (step 2 (Reference 9 7)) → ⊥
ends_crossed line = omega (arith, line.act.0)

-- with a zero in front of a number
leading_zero : IsStepLine 3 (codes "05 2 6 first") (step 2 First) → ⊥
unfolding digits
leading_zero line = let longer : 12 ≡ 11 = ap length line.text in omega (arith, longer)

crash_short : length (codes "5 2 6 crash") ≡ 11
crash_short = refl

crash_taken : IsStepLine 3 (codes "5 2 6 crash") (step 2 Crash)
unfolding digits
crash_taken = record { text = refl; t = omega arith; who = omega arith; h = omega arith; act = tt; fits = omega (arith, crash_short) }

-- ---- statuses and counts

tells_nothing : GaveUp status.WriteFault
tells_nothing = tt

tells_that_all_is_well : GaveUp status.Ok → ⊥
tells_that_all_is_well gave_up = gave_up

third_line : IsBadSchedule (status.BadSchedule 3 Time)
third_line = (3, Time, refl)

no_bad_schedule : IsBadSchedule status.TooLong → ⊥
no_bad_schedule bad = let e = bad.2 in cc

one_fault_more : IsRisen 3 4
one_fault_more = inl (omega arith)

as_many_faults : IsRisen 4 4 → ⊥
as_many_faults (inl more) = omega (arith, more)
as_many_faults (inr last) = omega (arith, last)

-- ---- texts

abbrev team_words : List ℕ
team_words = codes "team 3 7 0 1000 10000 20000 10000 50000 100000 400000 1104003 30000"

team_short : length team_words ≡ 67
team_short = refl

team_line : IsTeamLine team_words team_a
unfolding digits
team_line = record {
  text = refl;
  written = record { n = omega arith; line = omega arith; ppm = omega arith; eps = omega arith; delta = omega arith; pace = omega arith; decide = omega arith; ring = omega arith; slot = omega arith; lease = omega arith; quarantine = omega arith; theta = omega arith };
  fits = omega (arith, team_short);
}

abbrev at : ℕ → Act → Step
at t act = record { t = t; who = 0; h = 5; act = act }

first_short : length (codes "5 0 5 first") ≡ 11
first_short = refl

first_taken : IsStepLine 3 (codes "5 0 5 first") (at 5 First)
unfolding digits
first_taken = record { text = refl; t = omega arith; who = omega arith; h = omega arith; act = tt; fits = omega (arith, first_short) }

look_short : length (codes "5 0 5 look") ≡ 10
look_short = refl

look_taken : IsStepLine 3 (codes "5 0 5 look") (at 5 Look)
unfolding digits
look_taken = record { text = refl; t = omega arith; who = omega arith; h = omega arith; act = tt; fits = omega (arith, look_short) }

early_taken : IsStepLine 3 (codes "4 0 5 look") (at 4 Look)
unfolding digits
early_taken = record { text = refl; t = omega arith; who = omega arith; h = omega arith; act = tt; fits = omega (arith, look_short) }

-- a start and a look
abbrev good_text : List (List ℕ)
good_text = lines_of (codes "team 3 7 0 1000 10000 20000 10000 50000 100000 400000 1104003 30000\n5 0 5 first\n5 0 5 look\n")

abbrev whole : Verdict
whole = Whole team_a (at 5 Look ∷ at 5 First ∷ [])

is_whole : IsVerdict good_text whole
is_whole = record {
  first = team_words;
  others = codes "5 0 5 first" ∷ codes "5 0 5 look" ∷ [];
  cut = refl;
  team_line = team_line;
  sound = refl;
  steps = (codes "5 0 5 look", look_taken, (codes "5 0 5 first", first_taken, refl));
  admissible = ((tt, refl), refl);
  within = omega arith;
}

-- and one at an earlier team time
abbrev bad_text : List (List ℕ)
bad_text = lines_of (codes "team 3 7 0 1000 10000 20000 10000 50000 100000 400000 1104003 30000\n5 0 5 first\n4 0 5 look")

abbrev bad_line : Verdict
bad_line = BadLine team_a (at 5 First ∷ []) Time

is_bad_line : IsVerdict bad_text bad_line
is_bad_line = (
  codes "4 0 5 look",
  [],
  record {
    first = team_words;
    others = codes "5 0 5 first" ∷ codes "4 0 5 look" ∷ [];
    cut = refl;
    team_line = team_line;
    sound = refl;
    steps = (codes "5 0 5 first", first_taken, refl);
    admissible = (tt, refl);
    within = omega arith;
  },
  omega arith,
  inr (at 4 Look, early_taken, refl),
)

tells_the_third_line : status_of bad_line ≡ status.BadSchedule 3 Time
tells_the_third_line = refl

good : IsGood good_text
good = (team_a, at 5 Look ∷ at 5 First ∷ [], is_whole)

not_good : IsGood bad_text → ⊥
not_good is = let e = verdict_once bad_text (Whole is.0 is.1) bad_line is.2 is_bad_line in cc

has_bad_line : HasBadLine bad_text
has_bad_line = inr (team_a, at 5 First ∷ [], Time, is_bad_line)

nothing_at_all : HasBadLine []
nothing_at_all = inl (λ first others team e line. cc)

has_no_bad_line : HasBadLine good_text → ⊥
has_no_bad_line (inl none) = none is_whole.first is_whole.others team_a is_whole.cut is_whole.team_line
has_no_bad_line (inr bad) = let e = verdict_once good_text (BadLine bad.0 bad.1 bad.2) whole bad.3 is_whole in cc

two_short : length (codes "team 2 7 0 1000 10000 20000 10000 50000 100000 400000 1104003 30000") ≡ 67
two_short = refl

two_processes : HasFaultyTeam (lines_of (codes "team 2 7 0 1000 10000 20000 10000 50000 100000 400000 1104003 30000\nmore")) Size
unfolding digits
two_processes = (
  codes "team 2 7 0 1000 10000 20000 10000 50000 100000 400000 1104003 30000",
  codes "more" ∷ [],
  record team_a { n = 2 },
  refl,
  record {
    text = refl;
    written = record { n = omega arith; line = omega arith; ppm = omega arith; eps = omega arith; delta = omega arith; pace = omega arith; decide = omega arith; ring = omega arith; slot = omega arith; lease = omega arith; quarantine = omega arith; theta = omega arith };
    fits = omega (arith, two_short);
  },
  refl,
)

has_no_faulty_team : HasFaultyTeam good_text Size → ⊥
has_no_faulty_team is = let e = verdict_once good_text (Faulty Size) whole is is_whole in cc

-- ---- more lines than are read: a start, so many looks that 100,000 steps are made, and an empty line

abbrev looks : ℕ → List Step
looks zero = at 5 First ∷ []
looks (suc k) = at 5 Look ∷ looks k

abbrev lines_before : ℕ → List (List ℕ) → List (List ℕ)
lines_before zero rest = codes "5 0 5 first" ∷ rest
lines_before (suc k) rest = lines_before k (codes "5 0 5 look" ∷ rest)

one_more : (k : ℕ) → length (looks k) ≡ k + 1
one_more zero = refl
one_more (suc k) = omega (arith, one_more k)

each_taken : (k : ℕ) (rest : List (List ℕ)) → Spells 3 (looks k) rest (lines_before k rest)
each_taken zero rest = (codes "5 0 5 first", first_taken, refl)
each_taken (suc k) rest = (codes "5 0 5 look", look_taken, each_taken k (codes "5 0 5 look" ∷ rest))

none_later : (k : ℕ) → list_all (λ (e : Step). nat_le e.t 5) (looks k) ≡ true
none_later zero = refl
none_later (suc k) = none_later k

none_drifts : (k : ℕ) → each_own (λ (e : Step). keeps_drift 0 e.t e.h 5 5) 0 (looks k) ≡ true
none_drifts zero = refl
none_drifts (suc k) = none_drifts k

runs : (k : ℕ) → is_running 0 (looks k) ≡ true
runs zero = refl
runs (suc k) = runs k

may_look : (k : ℕ) (sent : List Dispatch) → cause_of team_a sent (looks k) (at 5 Look) ≡ None
may_look k sent = rw (none_later k, none_drifts k, runs k) refl

all_may_follow : (k : ℕ) → Admissible team_a (looks k)
all_may_follow zero = (tt, refl)
all_may_follow (suc k) = (all_may_follow k, may_look k (world team_a (looks k)).sent)

line_too_many : (k : ℕ) → k + 1 ≡ step_limit → HasTooMany (team_words ∷ lines_before k ([] ∷ []))
line_too_many k full = (
  team_a,
  looks k,
  (
    [],
    [],
    record {
      first = team_words;
      others = lines_before k ([] ∷ []);
      cut = refl;
      team_line = team_line;
      sound = refl;
      steps = each_taken k ([] ∷ []);
      admissible = all_may_follow k;
      within = omega (arith, one_more k, full);
    },
    omega (arith, one_more k, full),
  ),
)

has_too_many : HasTooMany (team_words ∷ lines_before 99999 ([] ∷ []))
has_too_many = line_too_many 99999 (omega arith)

has_not_too_many : HasTooMany good_text → ⊥
has_not_too_many is = let e = verdict_once good_text (Endless is.0 is.1) whole is.2 is_whole in cc

-- ---- lines that were read to their line feed

-- a team's line and fifteen steps, which form a group
abbrev group_text : List ℕ
group_text = codes "team 3 7 0 1000 10000 20000 10000 50000 100000 400000 1104003 30000\n699990 0 699990 first\n699990 1 699990 first\n699990 2 699990 first\n700000 0 700000 ref 700000 700000\n700000 1 700000 ref 700000 700000\n700000 2 700000 ref 700000 700000\n700000 1 700000 tick\n701000 0 701000 recv 1\n701000 2 701000 recv 2\n702000 1 702000 recv 5\n702000 1 702000 recv 8\n703000 2 703000 recv 12\n712000 2 712000 tick\n713000 1 713000 recv 14\n713000 0 713000 recv 13\n"

-- how many of its lines are read to their line feed, with the team's, where so many bytes were read
abbrev ended_within : ℕ → ℕ
ended_within count = length (ended_lines (take count group_text))

nothing_read : ended_within 0 ≡ 0
nothing_read = refl

team_line_open : ended_within 67 ≡ 0
team_line_open = refl

team_line_ended : ended_within 68 ≡ 1
team_line_ended = refl

steps_open : (ended_within 89 ≡ 1) × (ended_within 111 ≡ 2) × (ended_within 133 ≡ 3) × (ended_within 167 ≡ 4) × (ended_within 201 ≡ 5) × (ended_within 235 ≡ 6) × (ended_within 256 ≡ 7) × (ended_within 279 ≡ 8) × (ended_within 302 ≡ 9) × (ended_within 325 ≡ 10) × (ended_within 348 ≡ 11) × (ended_within 372 ≡ 12) × (ended_within 393 ≡ 13) × (ended_within 417 ≡ 14) × (ended_within 441 ≡ 15)
steps_open = (refl, refl, refl, refl, refl, refl, refl, refl, refl, refl, refl, refl, refl, refl, refl)

steps_ended : (ended_within 90 ≡ 2) × (ended_within 112 ≡ 3) × (ended_within 134 ≡ 4) × (ended_within 168 ≡ 5) × (ended_within 202 ≡ 6) × (ended_within 236 ≡ 7) × (ended_within 257 ≡ 8) × (ended_within 280 ≡ 9) × (ended_within 303 ≡ 10) × (ended_within 326 ≡ 11) × (ended_within 349 ≡ 12) × (ended_within 373 ≡ 13) × (ended_within 394 ≡ 14) × (ended_within 418 ≡ 15) × (ended_within 442 ≡ 16)
steps_ended = (refl, refl, refl, refl, refl, refl, refl, refl, refl, refl, refl, refl, refl, refl, refl)

-- a last line without a line feed is a line, but wasn't read to one
last_line_open : (lines_of (codes "a\nb") ≡ codes "a" ∷ codes "b" ∷ []) × (ended_lines (codes "a\nb") ≡ codes "a" ∷ [])
last_line_open = (refl, refl)

two_line_feeds : ended_lines (codes "a\n\nb") ≡ codes "a" ∷ [] ∷ []
two_line_feeds = refl
