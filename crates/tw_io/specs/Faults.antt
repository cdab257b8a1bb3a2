-- Counts of faults.
use Rattle.std.specs.Prelude.{ℕ, ◌+◌, ◌-◌, ◌^◌, ◌<◌, ◌≡◌, ◌⊎◌, min}

-- A count rose between two moments. One that stands at the last value of a real form's counter is taken as risen.
abbrev pub IsRisen : ℕ → ℕ → Type 0
IsRisen before now = (before < now) ⊎ (now ≡ 2 ^ 64 - 1)

-- one more in a counter of 64 bits, which stays at its last value
abbrev pub one_more : ℕ → ℕ
one_more count = min (count + 1) (2 ^ 64 - 1)
