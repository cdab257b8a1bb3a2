-- Bytes that a field can spell.
use Rattle.std.specs.Prelude.{ℕ, ◌<◌, ◌≤◌, List, length}
use Rattle.std.specs.List.{AllByRecursion}

-- so many at most
abbrev pub AreBytes : ℕ → List ℕ → Type 0
AreBytes most bytes = (length bytes ≤ most) × AllByRecursion (λ b. b < 256) bytes
