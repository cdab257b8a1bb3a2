-- Ticks of a hardware clock against team time, for a clock that drifts by at most ppm parts per million.
use Rattle.std.specs.Prelude.{ℕ, zero, suc, ◌+◌, ◌-◌, ◌*◌, ◌/◌, ◌≤◌, ℤ, pos, negsuc}

-- In x microseconds of team time a clock within the drift bound may tick e times. One tick is given to each reading's rounding.
pub record MayElapse (ppm ticks time : ℕ) : Type 0 where
  pub fast : ticks * 1000000 ≤ time * (1000000 + ppm) + 1000000
  pub slow : time * (1000000 - ppm) ≤ ticks * 1000000 + 1000000

-- the most team time that so many ticks may have taken
abbrev pub up : ℕ → ℕ → ℕ
up ticks ppm = (ticks + 1) * 1000000 / (1000000 - ppm)

-- the least team time that so many ticks must have taken: (ticks - 1) * 1000000 / (1000000 + ppm), rounded down, which is -1 for no tick
abbrev pub down : ℕ → ℕ → ℤ
down zero ppm = negsuc 0
down (suc ticks) ppm = pos (ticks * 1000000 / (1000000 + ppm))
