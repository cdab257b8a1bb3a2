-- What each status tells of a text, given by its lines.
use Rattle.std.specs.Prelude.{ℕ, ◌≡◌, ◌⊎◌, List}
use Rattle.tw_machine.specs.Types.{Team, TeamFault, Cause, Step}
use Rattle.schedule_text.specs.declared.status.Status.{Status}
use Rattle.schedule_text.specs.declared.status.Status.TheVariants as status
use Rattle.replayer.specs.Replay.{Whole, NoTeam, Faulty, BadLine, Endless, IsVerdict}

-- The text is a whole schedule: the line of a team without a fault, then the lines of at most 100,000 steps, each of which
-- may follow those before it, and no line more.
abbrev pub IsGood : List (List ℕ) → Type 0
IsGood lines = (team : Team) × (past : List Step) × IsVerdict lines (Whole team past)

-- The first line is a team's, and this is the first fault that its team has.
abbrev pub HasFaultyTeam : List (List ℕ) → TeamFault → Type 0
HasFaultyTeam lines fault = IsVerdict lines (Faulty fault)

-- The text doesn't start with a team's line; or its team has no fault, and one of the next 100,000 lines is no line of a step,
-- or of a step that may not follow, while all lines between are of steps that may.
abbrev pub HasBadLine : List (List ℕ) → Type 0
HasBadLine lines = IsVerdict lines NoTeam ⊎ ((team : Team) × (past : List Step) × (cause : Cause) × IsVerdict lines (BadLine team past cause))

-- The team has no fault and the next 100,000 lines are all of steps that may follow those before them, but there is a line
-- more, whatever it is.
abbrev pub HasTooMany : List (List ℕ) → Type 0
HasTooMany lines = (team : Team) × (past : List Step) × IsVerdict lines (Endless team past)

-- the status tells which line can't be taken, by its number, and why
abbrev pub IsBadSchedule : Status → Type 0
IsBadSchedule s = (line : ℕ) × (cause : Cause) × (s ≡ status.BadSchedule line cause)
