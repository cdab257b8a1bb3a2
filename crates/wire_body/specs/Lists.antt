-- Lists of items behind their number, and what may be absent behind a byte that says so.
use Rattle.std.specs.Prelude.{ℕ, zero, suc, ◌+◌, ◌≡◌, Bool, ◌==◌, List, [], ◌∷◌, ◌++◌, Option, Result, Ok, Err}
use Rattle.std.specs.Int.{Width, byte_len}
use Rattle.tw_types.specs.declared.datagram.WireFault.{WireFault}
use Rattle.wire_head.specs.Reading.{◌>>=◌, field_at, byte_to, guarded_at}

-- So many items of one size, one after the other. Each is read with those before it at hand.
unfoldable pub items_at : {X : Type 0} → ℕ → (List X → List ℕ → ℕ → Result X WireFault) → ℕ → List X → List ℕ → ℕ → Result (List X) WireFault
items_at size item_at zero before bytes place = Ok before
items_at size item_at (suc k) before bytes place = do
  x ← item_at before bytes place
  items_at size item_at k (before ++ x ∷ []) bytes (place + size)

-- all items of a list
abbrev pub list_at : {X : Type 0} → ℕ → (List X → List ℕ → ℕ → Result X WireFault) → ℕ → List ℕ → ℕ → Result (List X) WireFault
list_at size item_at k bytes place = items_at size item_at k [] bytes place

-- a list behind the number of its items, where the test allows that number
unfoldable pub counted_at : {X : Type 0} → Width → (ℕ → Bool) → (ℕ → List ℕ → ℕ → Result (List X) WireFault) → List ℕ → ℕ → Result (List X) WireFault
counted_at w allowed inner_at bytes place = do
  k ← field_at w allowed bytes place
  inner_at k bytes (place + byte_len w)

-- what may be absent, behind a byte that says whether it is there
unfoldable pub optional_at : {X : Type 0} → ℕ → (List ℕ → ℕ → Result X WireFault) → List ℕ → ℕ → Result (Option X) WireFault
optional_at k inner_at bytes place = do
  present ← byte_to 1 bytes place
  guarded_at (present == 1) k inner_at bytes (place + 1)

-- what a reader left behind, where it answered no fault, is what reading gives
abbrev pub Leaves : {X : Type 0} → Result (Unit {0}) WireFault → X → Result X WireFault → Type 0
Leaves (Ok done) left read = read ≡ Ok left
Leaves (Err fault) left read = read ≡ Err fault
