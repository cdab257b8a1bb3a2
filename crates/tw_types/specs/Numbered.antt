-- Items that are counted from 1.
use Rattle.std.specs.Prelude.{ℕ, zero, suc, List, Option, None, slice_get}

-- the item of this number; None for 0, and beyond the end
abbrev pub numbered : {X : Type 0} → ℕ → List X → Option X
numbered zero xs = None
numbered (suc i) xs = slice_get xs i
