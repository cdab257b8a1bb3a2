-- What a write leaves in a sink.
use Rattle.std.specs.Prelude.{ℕ, ◌≡◌, ◌≤◌, List, ◌++◌, Option, Some, take, Result, OnOk, OnErr}
use Rattle.tw_io.specs.Faults.{IsRisen}

-- the text is taken, behind what was taken before
pub record Written (before now : Option (List ℕ)) (faults later : ℕ) (text : List ℕ) : Type 0 where
  pub taken : (had : List ℕ) → before ≡ Some had → now ≡ Some (had ++ text)
  pub monotone : faults ≤ later

-- a front of the text is taken, and a fault was counted
pub record Cut (before now : Option (List ℕ)) (faults later : ℕ) (text : List ℕ) : Type 0 where
  pub front : (had : List ℕ) → before ≡ Some had → (n : ℕ) × (now ≡ Some (had ++ take n text))
  pub monotone : faults ≤ later
  pub risen : IsRisen faults later

-- the text is taken, or the write failed on the way
pub record Puts {A E : Type 0} (before now : Option (List ℕ)) (faults later : ℕ) (result : Result A E) (text : List ℕ) : Type 0 where
  pub written : OnOk result (Written before now faults later text)
  pub cut : OnErr result (Cut before now faults later text)
