-- What a replay answers of a text.
use Rattle.std.specs.Prelude.{ℕ, ◌≡◌, ◌⊎◌, List, [], ◌++◌, take, Option, Some}
use Rattle.schedule_text.specs.declared.status.Status.{Status}
use Rattle.schedule_text.specs.declared.status.Status.TheVariants as status
use Rattle.tw_machine.specs.Types.{Team, Step}
use Rattle.replayer.specs.Replay.{Begins, Verdict, Whole, NoTeam, Faulty, BadLine, Endless, IsVerdict, Tells}
use Rattle.tw_io.specs.Lines.{lines_of, ended_lines}
use Rattle.tw_machine.specs.Rows.{rows_of}
use Rattle.tw_machine.specs.RowText.{text_of}
use Rattle.tw_machine.specs.SafeRows.{SafeRows}
use Rattle.tw_machine.specs.ClockLaw.{ReadsWell}
use Rattle.world.specs.Tables.{entries_of}

-- these three tell nothing of the text
abbrev pub GaveUp : Status → Type 0
GaveUp status.ReadFault = Unit {0}
GaveUp status.WriteFault = Unit {0}
GaveUp status.WantOfMemory = Unit {0}
GaveUp _ = ⊥

-- these four tell what a text is
abbrev pub TellsOfText : Status → Type 0
TellsOfText status.Ok = Unit {0}
TellsOfText (status.BadTeam fault) = Unit {0}
TellsOfText (status.BadSchedule line cause) = Unit {0}
TellsOfText status.TooLong = Unit {0}
TellsOfText _ = ⊥

-- the rows of the steps before the line that ends a text are safe, and each reading in them is near the team time of its step
abbrev pub RowsAreWell : Verdict → Type 0
RowsAreWell (Whole team past) = SafeRows team (rows_of entries_of team past) × ReadsWell entries_of team past
RowsAreWell NoTeam = Unit {0}
RowsAreWell (Faulty fault) = Unit {0}
RowsAreWell (BadLine team past cause) = SafeRows team (rows_of entries_of team past) × ReadsWell entries_of team past
RowsAreWell (Endless team past) = SafeRows team (rows_of entries_of team past) × ReadsWell entries_of team past

-- The status tells what the text is, and the rows of the steps before the line that ends it were written; at Ok nothing of the text is left.
pub record IsAnswered (all : List ℕ) (left : Option (List ℕ)) (before : List ℕ) (taken : Option (List ℕ)) (result : Status) : Type 0 where
  pub rows : List ℕ
  pub tells : Tells (lines_of all) result rows
  pub written : taken ≡ Some (before ++ rows)
  pub ended : result ≡ status.Ok → left ≡ Some []
  pub well : (v : Verdict) → IsVerdict (lines_of all) v → RowsAreWell v

-- A front of the rows of the steps before the line that ends the text was written.
pub record IsCutOff (all : List ℕ) (before : List ℕ) (taken : Option (List ℕ)) : Type 0 where
  pub rows : List ℕ
  pub status : Status
  pub tells : Tells (lines_of all) status rows
  pub count : ℕ
  pub written : taken ≡ Some (before ++ take count rows)
  pub well : (v : Verdict) → IsVerdict (lines_of all) v → RowsAreWell v

-- The rows are those of the steps of a sound team whose lines stand before the rest. They are safe, and each reading in them is near the
-- team time of its step.
pub record AreRowsBefore (rest lines : List (List ℕ)) (rows : List ℕ) : Type 0 where
  pub team : Team
  pub past : List Step
  pub schedule : Begins lines team past rest
  pub text : rows ≡ text_of (rows_of entries_of team past)
  pub safe : SafeRows team (rows_of entries_of team past)
  pub near : ReadsWell entries_of team past

-- What was read is what the source lost. Of its lines that were read to their line feed those before the rest were taken, and their
-- rows were written, whole: none where none was taken.
pub record IsWrittenUpTo (rest : List (List ℕ)) (all : List ℕ) (left : Option (List ℕ)) (before : List ℕ) (taken : Option (List ℕ)) : Type 0 where
  pub lost : List ℕ
  pub more : List ℕ
  pub all_bytes : all ≡ lost ++ more
  pub left_bytes : left ≡ Some more
  pub rows : List ℕ
  pub rows_before : ((ended_lines lost ≡ rest) × (rows ≡ [])) ⊎ AreRowsBefore rest (ended_lines lost) rows
  pub written : taken ≡ Some (before ++ rows)

-- The source failed: all lines that were read to their line feed were taken.
abbrev pub IsUnread : List ℕ → Option (List ℕ) → List ℕ → Option (List ℕ) → Type 0
IsUnread all left before taken = IsWrittenUpTo [] all left before taken

-- Memory is wanting: a front of the lines that were read was taken.
abbrev pub IsWithoutMemory : List ℕ → Option (List ℕ) → List ℕ → Option (List ℕ) → Type 0
IsWithoutMemory all left before taken = (rest : List (List ℕ)) × IsWrittenUpTo rest all left before taken

-- The bytes are the lines of a sound team and of an admissible schedule; all of them were read, and the text of the schedule's rows
-- was written. The rows are safe, and each reading in them is near the team time of its step.
pub record IsReplayed (all : List ℕ) (left : Option (List ℕ)) (before : List ℕ) (taken : Option (List ℕ)) : Type 0 where
  pub team : Team
  pub past : List Step
  pub schedule : Begins (lines_of all) team past []
  pub ended : left ≡ Some []
  pub written : taken ≡ Some (before ++ text_of (rows_of entries_of team past))
  pub safe : SafeRows team (rows_of entries_of team past)
  pub near : ReadsWell entries_of team past

-- what is so where a replay ends with a status
abbrev pub Ends : List ℕ → Option (List ℕ) → List ℕ → Option (List ℕ) → Status → Type 0
Ends all left before taken status.ReadFault = IsUnread all left before taken
Ends all left before taken status.WriteFault = IsCutOff all before taken
Ends all left before taken status.WantOfMemory = IsWithoutMemory all left before taken
Ends all left before taken result = IsAnswered all left before taken result
