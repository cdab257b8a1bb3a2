-- An update stands at one place: once in a made list, once among what is pending, and not in both.
use Rattle.std.proofs.Common.{◌≡◌, sym, ap, subst, ◌∙◌, inl, inr, ℕ, false, List, [], ◌∷◌, map, Some, arith, ◌≢◌}
use Rattle.std.specs.Prelude.{slice_get}
use Rattle.std.specs.List.{AllByRecursion}
use Rattle.std.proofs.lemmas.Bool.Decides.{nat_tests}
use Rattle.tw_machine.specs.Types.{Kept, UpdateId}
use Rattle.tw_types.specs.Beliefs.{Log}
use Rattle.tw_types.specs.Items.{In}
use Rattle.tw_types.specs.Logs.{log_at}
use Rattle.tw_types.specs.Process.{Process}
use Rattle.tw_types.specs.Updates.{is_same_id}
use Rattle.tw_machine.specs.History.{Make}
use Rattle.safety_laws.specs.Beginnings.{unmarked}
use Rattle.safety_laws.specs.Lists.{IsListOf}
use Rattle.safety_laws.specs.Pending.{NoneTwice, IsAwaited}
use Rattle.safety_laws.proofs.Lists.{of_each}
use Rattle.safety_laws.proofs.LostLists.{awaited_absent}
use Rattle.safety_laws.proofs.PassedLists.{stands_in}
use Rattle.safety_laws.proofs.Places.{at_in}
use Rattle.safety_laws.proofs.Positions.{one_position}

-- two ids that fail the test are two
pub other_id : (a b : UpdateId) → is_same_id a b ≡ false → a ≡ b → ⊥
other_id a b e same = let no : is_same_id b b ≡ false = subst (λ z. is_same_id z b ≡ false) same e in absurd (grind (arith, nat_tests))

-- an id stands once among updates of which none comes twice
one_pending : (pending : List Kept) (a b : Kept) → NoneTwice pending → In a pending → In b pending → a.entry.id ≡ b.entry.id → a ≡ b
one_pending [] a b once i j same = absurd i
one_pending (k ∷ pending) a b once (inl e) (inl f) same = e ∙ sym f
one_pending (k ∷ pending) a b once (inl e) (inr j) same = absurd (other_id k.entry.id b.entry.id (of_each (λ (u : Kept). is_same_id k.entry.id u.entry.id ≡ false) pending b once.0 j) (ap (λ (u : Kept). u.entry.id) (sym e) ∙ same))
one_pending (k ∷ pending) a b once (inr i) (inl f) same = absurd (other_id k.entry.id a.entry.id (of_each (λ (u : Kept). is_same_id k.entry.id u.entry.id ≡ false) pending a once.0 i) (ap (λ (u : Kept). u.entry.id) (sym f) ∙ sym same))
one_pending (k ∷ pending) a b once (inr i) (inr j) same = one_pending pending a b once.1 i j same

-- What an update's id tells of where it stands at a process: at one position of its list, or once among what is pending.
pub record HasPlaces (log : Log) (pending : List Kept) : Type 0 where
  pub listed : (i j : ℕ) (a b : Kept) → log_at i log ≡ Some a → log_at j log ≡ Some b → a.entry.id ≡ b.entry.id → i ≡ j
  pub waiting : (a b : Kept) → In a pending → In b pending → a.entry.id ≡ b.entry.id → a ≡ b
  pub apart : (i : ℕ) (a b : Kept) → log_at i log ≡ Some a → In b pending → a.entry.id ≡ b.entry.id → ⊥

-- so it is where the list is a made decision's, but for marks, whose seats await what is pending
pub has_places : (m : Make) → IsListOf m → (p : Process) → p.log.base ≡ 0 → map unmarked p.log.entries ≡ m.log → AllByRecursion (IsAwaited m.making.decision) p.waiting.pending → NoneTwice p.waiting.pending → HasPlaces p.log p.waiting.pending
has_places m is p base same awaited once = record {
  listed = λ i j a b at there ids. one_position m.log i j (unmarked a) (unmarked b) is.by_one (stands i a at) (stands j b there) ids;
  waiting = λ a b i j ids. one_pending p.waiting.pending a b once i j ids;
  apart = λ i a b at j ids. of_each (λ (k : Kept). k.entry.id ≢ b.entry.id) m.log (unmarked a)
      (awaited_absent m is b (of_each (IsAwaited m.making.decision) p.waiting.pending b awaited j)) (at_in m.log i (unmarked a) (stands i a at)) ids;
}
  where
    stands : (i : ℕ) (u : Kept) → log_at i p.log ≡ Some u → slice_get m.log i ≡ Some (unmarked u)
    stands = stands_in p.log m.log base same
