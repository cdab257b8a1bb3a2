-- How near the readings of a schedule's rows are to team time.
use Rattle.std.specs.Prelude.{ℕ, ◌+◌, ◌≤◌, List, [], ◌∷◌, IfSome}
use Rattle.tw_machine.specs.Types.{Team, Step}
use Rattle.tw_types.specs.Row.{Row}
use Rattle.tw_machine.specs.Applied.{Meaning}
use Rattle.tw_machine.specs.Rows.{row_of}

-- a reading is at most eps away from team time t, on either side
pub record IsNear (eps t reading : ℕ) : Type 0 where
  pub not_ahead : reading ≤ t + eps
  pub not_behind : t ≤ reading + eps

-- the reading of a row, where it has one, is near the team time of its step
abbrev pub ReadsNear : ℕ → Step → Row → Type 0
ReadsNear eps s r = IfSome r.reading (λ reading. IsNear eps s.t reading)

-- each step's row reads near its team time
abbrev pub ReadsWell : {Content : Type 0} → Meaning Content → Team → List Step → Type 0
ReadsWell meaning team [] = Unit {0}
ReadsWell meaning team (s ∷ past) = ReadsWell meaning team past × ReadsNear team.eps s (row_of meaning team past s)
