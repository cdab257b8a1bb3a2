-- What a store is, and what is true of each.
use Rattle.std.specs.Prelude.{ℕ, ◌≤◌, ◌≡◌, Bool, true, false, List, [], ◌∷◌, length, IfSome}
use Rattle.std.specs.List.{list_any, AllByRecursion}
use Rattle.tw_types.specs.declared.message.UpdateId.{UpdateId}
use Rattle.tw_types.specs.declared.message.Kept.{Kept}
use Rattle.tw_types.specs.Updates.{is_same_id, has_update, WaitInOrder}
use Rattle.tw_types.specs.Waiting.{Waiting, Held, ids_from}

-- the size of its team, and what waits there
pub record Stock : Type 0 where
  pub n : ℕ
  pub waiting : Waiting

-- no two of these are payloads of one update
abbrev pub DifferentUpdates : List Kept → Type 0
DifferentUpdates [] = Unit {0}
DifferentUpdates (k ∷ payloads) = (has_update k.entry.id payloads ≡ false) × DifferentUpdates payloads

-- the id is one of these
abbrev pub has_id : UpdateId → List UpdateId → Bool
has_id id ids = list_any (λ (other : UpdateId). is_same_id other id) ids

-- a held decision has at most one payload of each update that it wants, and no other
pub record IsKeptFor (h : Held) : Type 0 where
  pub different : DifferentUpdates h.payloads
  pub wanted : AllByRecursion (λ (k : Kept). has_id k.entry.id (ids_from h.first h.decision) ≡ true) h.payloads
  pub few : length h.payloads ≤ 32

-- an update's number
pub record HasNumber (k : Kept) : Type 0 where
  pub first : 1 ≤ k.entry.id.seq
  pub last : k.entry.id.seq ≤ 4294967294

-- Pending updates wait in order, and they are few: at most 8 of each of at most 15 seats.
pub record IsStock (s : Stock) : Type 0 where
  pub order : WaitInOrder s.waiting.pending
  pub numbers : AllByRecursion HasNumber s.waiting.pending
  pub few : length s.waiting.pending ≤ 120
  pub held : IfSome s.waiting.held IsKeptFor
