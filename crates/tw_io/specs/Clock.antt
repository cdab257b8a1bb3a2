-- Readings of a clock that are still to come. The last one is answered again from then on.
use Rattle.std.specs.Prelude.{ℕ, List, [], ◌∷◌}

-- the reading that is answered next
abbrev pub first_reading : List ℕ → ℕ
first_reading [] = 0
first_reading (reading ∷ rest) = reading

-- what is still to come after that
abbrev pub readings_after : List ℕ → List ℕ
readings_after [] = []
readings_after (reading ∷ []) = reading ∷ []
readings_after (reading ∷ next ∷ rest) = next ∷ rest

-- a clock that is given no reading tells the one reading 0
abbrev pub readings_or_zero : List ℕ → List ℕ
readings_or_zero [] = 0 ∷ []
readings_or_zero (reading ∷ rest) = reading ∷ rest
