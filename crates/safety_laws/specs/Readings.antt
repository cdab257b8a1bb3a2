-- What the processes of a schedule read, over all their lives.
use Rattle.std.specs.Prelude.{ℕ, ◌≡◌, ◌⊎◌, List, [], ◌∷◌}
use Rattle.tw_types.specs.declared.step.Step.{Step}

-- at this step process who read h at team time t
pub record IsReading (s : Step) (who t h : ℕ) : Type 0 where
  pub by : s.who ≡ who
  pub time : s.t ≡ t
  pub reading : s.h ≡ h

-- at one of these steps process who read h at team time t
abbrev pub HasRead : List Step → ℕ → ℕ → ℕ → Type 0
HasRead [] who t h = ⊥
HasRead (s ∷ past) who t h = IsReading s who t h ⊎ HasRead past who t h
