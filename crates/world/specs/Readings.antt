-- The readings and the last team time of a schedule, of which the newest step stands first.
use Rattle.std.specs.Prelude.{ℕ, ◌==◌, if◌then◌else◌, List, [], ◌∷◌}
use Rattle.tw_types.specs.declared.step.Step.{Step}

-- a reading of a hardware clock: h ticks at team time t
pub record Reading : Type 0 where
  pub t : ℕ
  pub h : ℕ

-- the readings of a process, over all its lives, the newest first
abbrev pub readings_of : ℕ → List Step → List Reading
readings_of who [] = []
readings_of who (s ∷ past) = if s.who == who then record { t = s.t; h = s.h } ∷ readings_of who past else readings_of who past

-- the team time of the last step
abbrev pub latest_of : List Step → ℕ
latest_of [] = 0
latest_of (s ∷ past) = s.t
