-- What a text is as a schedule: whole and good, or where and why it stops being so.
use Rattle.std.specs.Prelude.{ℕ, ◌+◌, ◌<◌, ◌≤◌, ◌≡◌, ◌⊎◌, List, [], ◌∷◌, length, Some, None}
use Rattle.tw_machine.specs.Types.{Team, TeamFault, Cause, Step}
use Rattle.tw_types.specs.Team.{fault_of}
use Rattle.tw_types.specs.declared.step.Cause.TheVariants.{Grammar}
use Rattle.schedule_text.specs.declared.status.Status.{Status}
use Rattle.schedule_text.specs.declared.status.Status.TheVariants as status
use Rattle.tw_machine.specs.Grammar.{IsTeamLine, IsStepLine}
use Rattle.tw_machine.specs.Admissible.{cause_of}
use Rattle.tw_machine.specs.World.{world, Admissible}
use Rattle.tw_machine.specs.Rows.{rows_of}
use Rattle.tw_machine.specs.RowText.{text_of}
use Rattle.world.specs.Tables.{entries_of}

-- the most steps that a schedule may have
abbrev pub step_limit : ℕ
step_limit = 100000

-- The lines are those of the steps of one of n processes, and then the rest. The newest step stands first, its line last.
abbrev pub Spells : ℕ → List Step → List (List ℕ) → List (List ℕ) → Type 0
Spells n [] rest lines = lines ≡ rest
Spells n (s ∷ past) rest lines = (line : List ℕ) × IsStepLine n line s × Spells n past (line ∷ rest) lines

-- The lines are those of a sound team and of an admissible schedule of at most so many steps, and then the rest.
pub record Begins (lines : List (List ℕ)) (team : Team) (past : List Step) (rest : List (List ℕ)) : Type 0 where
  pub first : List ℕ
  pub others : List (List ℕ)
  pub cut : lines ≡ first ∷ others
  pub team_line : IsTeamLine first team
  pub sound : fault_of team ≡ None
  pub steps : Spells team.n past rest others
  pub admissible : Admissible team past
  pub within : length past ≤ step_limit

-- why a line can't be the next one after a past: it is no line of a step, or its step may not follow
abbrev pub IsBadLine : Team → List Step → List ℕ → Cause → Type 0
IsBadLine team past line cause = ((cause ≡ Grammar) × ((s : Step) → IsStepLine team.n line s → ⊥))
    ⊎ ((s : Step) × IsStepLine team.n line s × (cause_of team (world team past).sent past s ≡ Some cause))

-- What a text is: a whole schedule of a team, one without a team line, one whose team has a fault, one with a first line
-- that can't be taken, one with more lines than are read.
pub data Verdict : Type 0 where
  Whole : (team : Team) → (past : List Step) → Verdict
  NoTeam : Verdict
  Faulty : (fault : TeamFault) → Verdict
  BadLine : (team : Team) → (past : List Step) → (cause : Cause) → Verdict
  Endless : (team : Team) → (past : List Step) → Verdict

abbrev pub IsVerdict : List (List ℕ) → Verdict → Type 0
IsVerdict lines (Whole team past) = Begins lines team past []
IsVerdict lines NoTeam = (first : List ℕ) (others : List (List ℕ)) (team : Team) → lines ≡ first ∷ others → IsTeamLine first team → ⊥
IsVerdict lines (Faulty fault) = (first : List ℕ) × (others : List (List ℕ)) × (team : Team) × (lines ≡ first ∷ others) × IsTeamLine first team × (fault_of team ≡ Some fault)
IsVerdict lines (BadLine team past cause) = (line : List ℕ) × (rest : List (List ℕ)) × Begins lines team past (line ∷ rest) × (length past < step_limit) × IsBadLine team past line cause
IsVerdict lines (Endless team past) = (line : List ℕ) × (rest : List (List ℕ)) × Begins lines team past (line ∷ rest) × (length past ≡ step_limit)

-- the status that tells a verdict; line 1 is the team's, and step k stands on line k + 1
abbrev pub status_of : Verdict → Status
status_of (Whole team past) = status.Ok
status_of NoTeam = status.BadSchedule 1 Grammar
status_of (Faulty fault) = status.BadTeam fault
status_of (BadLine team past cause) = status.BadSchedule (length past + 2) cause
status_of (Endless team past) = status.TooLong

-- the rows of the steps before the first line that can't be taken
abbrev pub text_before : Verdict → List ℕ
text_before (Whole team past) = text_of (rows_of entries_of team past)
text_before NoTeam = []
text_before (Faulty fault) = []
text_before (BadLine team past cause) = text_of (rows_of entries_of team past)
text_before (Endless team past) = text_of (rows_of entries_of team past)

-- the status and the rows are those of what the lines are
abbrev pub Tells : List (List ℕ) → Status → List ℕ → Type 0
Tells lines status text = (v : Verdict) × IsVerdict lines v × (status ≡ status_of v) × (text ≡ text_before v)
