-- What the next line of a schedule comes to.
use Rattle.std.specs.Prelude.{ℕ, ◌+◌, ◌<◌, ◌≡◌, List, [], ◌∷◌, ◌++◌, length, Option, Some, None}
use Rattle.tw_io.specs.declared.line_reader.Line.{Line}
use Rattle.tw_io.specs.declared.line_reader.Line.TheVariants as kind
use Rattle.tw_io.specs.Lines.{lines_of, IsOneLine}
use Rattle.tw_io.specs.LineReader.{IsNextLine}
use Rattle.schedule_text.specs.declared.status.Status.{Status}
use Rattle.schedule_text.specs.declared.status.Status.TheVariants as status
use Rattle.tw_machine.specs.Types.{Team, Step, Cause}
use Rattle.tw_types.specs.Row.{Row}
use Rattle.tw_types.specs.Team.{fault_of}
use Rattle.tw_machine.specs.Grammar.{IsTeamLine, IsStepLine, line_limit}
use Rattle.tw_machine.specs.Admissible.{cause_of}
use Rattle.tw_machine.specs.World.{world}
use Rattle.tw_machine.specs.Rows.{row_of}
use Rattle.world.specs.declared.world.World.{World}
use Rattle.world.specs.StandsFor.{StandsFor}
use Rattle.world.specs.Tables.{entries_of}
use Rattle.replayer.specs.declared.steps.Refusal.{Refusal}
use Rattle.replayer.specs.declared.steps.Refusal.TheVariants as refusal
use Rattle.replayer.specs.declared.steps.Next.{Next}
use Rattle.replayer.specs.declared.steps.Next.TheVariants as next
use Rattle.replayer.specs.Replay.{step_limit, IsBadLine}

-- a line is that of a step that may follow, and the world and the row are those after it
abbrev pub TakesLine : Team → List Step → List ℕ → World → Row → Type 0
TakesLine team past line w row = (s : Step) × IsStepLine team.n line s × (cause_of team (world team past).sent past s ≡ None) × StandsFor team (s ∷ past) w × (row ≡ row_of entries_of team past s)

-- a line is refused since it can't be the next one, or for want of memory
abbrev pub RefusesLine : Team → List Step → List ℕ → Refusal → Type 0
RefusesLine team past line (refusal.Cause cause) = IsBadLine team past line cause
RefusesLine team past line refusal.WantOfMemory = Unit {0}

-- how a line is refused whose step has this cause, or none
abbrev pub refusal_of : Option Cause → Refusal
refusal_of None = refusal.WantOfMemory
refusal_of (Some cause) = refusal.Cause cause

-- Of a text a line was taken off: it was ended, or the last one. What follows it is held, or left in the source.
abbrev pub IsTaken : List ℕ → List ℕ → Line → List ℕ → Option (List ℕ) → Type 0
IsTaken text line kind.Longer held left = ⊥
IsTaken text line found held left = (rest : List ℕ) × (left ≡ Some rest) × IsNextLine line_limit text (Some found) line (held ++ rest)

-- What ends the steps after a past, of the text behind their lines: it is empty; its first line can't be taken; it isn't empty after
-- as many steps as there may be; what was read of it has no line feed, and the source failed; or memory is wanting.
abbrev pub EndsAt : Team → List Step → List ℕ → List ℕ → Option (List ℕ) → Status → Type 0
EndsAt team past text held left status.Ok = (text ≡ []) × (left ≡ Some [])
EndsAt team past text held left (status.BadSchedule number cause) =
    (line : List ℕ) × (later : List (List ℕ)) × (lines_of text ≡ line ∷ later) × (length past < step_limit) × IsBadLine team past line cause × (number ≡ length past + 2)
EndsAt team past text held left status.TooLong = (length past ≡ step_limit) × (0 < length text)
EndsAt team past text held left status.ReadFault = (rest : List ℕ) × (left ≡ Some rest) × (text ≡ held ++ rest) × IsOneLine held
EndsAt team past text held left status.WantOfMemory = (lost : List ℕ) × (rest : List ℕ) × (left ≡ Some rest) × (text ≡ lost ++ rest)
EndsAt team past text held left _ = ⊥

-- what comes next: the step of a line, with its world and its row, or the end
abbrev pub IsNext : Team → List Step → List ℕ → List ℕ → Option (List ℕ) → World → Row → Next → Type 0
IsNext team past text held left w row (next.Taken found) = (line : List ℕ) × IsTaken text line found held left × TakesLine team past line w row
IsNext team past text held left w row (next.End status) = EndsAt team past text held left status

-- the line is that of this team, which has no fault
abbrev pub IsSoundLine : List ℕ → Team → Type 0
IsSoundLine line team = IsTeamLine line team × (fault_of team ≡ None)

-- what ends a replay, other than a sink that failed
abbrev pub EndsBySource : Status → Type 0
EndsBySource status.Ok = Unit {0}
EndsBySource (status.BadTeam fault) = Unit {0}
EndsBySource (status.BadSchedule number cause) = Unit {0}
EndsBySource status.TooLong = Unit {0}
EndsBySource status.ReadFault = Unit {0}
EndsBySource status.WantOfMemory = Unit {0}
EndsBySource _ = ⊥

abbrev pub IsEnd : Next → Type 0
IsEnd (next.Taken found) = Unit {0}
IsEnd (next.End status) = EndsBySource status
