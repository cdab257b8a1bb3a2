-- What stands at the places of a list, and what holds at those of a list with more behind it.
use Rattle.std.proofs.Common.{◌≡◌, refl, sym, subst, inl, inr, ℕ, zero, suc, List, [], ◌∷◌, ◌++◌, length, Some, slice_get, ap, map}
use Rattle.std.proofs.lemmas.Option.{same_Some}
use Rattle.tw_types.specs.Items.{In}
use Rattle.tw_types.specs.Row.{Row}
use Rattle.tw_machine.specs.Places.{Each, Exists}
use Rattle.tw_machine.specs.SafeRows.{AtLeast}

-- what stands at a place stands there,
pub at_in : {X : Type 0} (xs : List X) (k : ℕ) (x : X) → slice_get xs k ≡ Some x → In x xs
at_in [] k x e = absurd (cc)
at_in (y ∷ xs) zero x e = inl (sym (same_Some y x e))
at_in (y ∷ xs) (suc k) x e = inr (at_in xs k x e)

-- and has a place
pub place_of : {X : Type 0} (xs : List X) (x : X) → In x xs → (k : ℕ) × (slice_get xs k ≡ Some x)
place_of [] x i = absurd i
place_of (y ∷ xs) x (inl e) = (zero, ap Some (sym e))
place_of (y ∷ xs) x (inr i) = let k = place_of xs x i in (suc k.0, k.1)

-- what stands at a place of a list's image is the image of what stands there in the list
pub mapped_at : {X Y : Type 0} (f : X → Y) (xs : List X) (k : ℕ) (y : Y) → slice_get (map f xs) k ≡ Some y → (x : X) × (slice_get xs k ≡ Some x) × (f x ≡ y)
mapped_at f [] k y e = absurd (cc)
mapped_at f (x ∷ xs) zero y e = (x, refl, same_Some (f x) y e)
mapped_at f (x ∷ xs) (suc k) y e = mapped_at f xs k y e

-- ---- a list with more behind it

pub at_more : {X : Type 0} (xs ys : List X) (k : ℕ) (x : X) → slice_get xs k ≡ Some x → slice_get (xs ++ ys) k ≡ Some x
at_more [] ys k x e = absurd (cc)
at_more (y ∷ xs) ys zero x e = e
at_more (y ∷ xs) ys (suc k) x e = at_more xs ys k x e

pub at_last : {X : Type 0} (xs : List X) (x : X) → slice_get (xs ++ x ∷ []) (length xs) ≡ Some x
at_last [] x = refl
at_last (y ∷ xs) x = at_last xs x

-- what holds at each place of a list, and at the place behind it, holds at each place of the longer one
pub each_pushed : {X : Type 0} (P : ℕ → X → Type 0) (xs : List X) (last : X) → Each xs P → P (length xs) last → Each (xs ++ last ∷ []) P
each_pushed P [] last all new zero x e = subst (P zero) (same_Some last x e) new
each_pushed P [] last all new (suc k) x e = absurd (cc)
each_pushed P (y ∷ xs) last all new zero x e = all zero x e
each_pushed P (y ∷ xs) last all new (suc k) x e = each_pushed (λ i. P (suc i)) xs last (λ i z f. all (suc i) z f) new k x e

pub exists_pushed : {X : Type 0} (P : ℕ → X → Type 0) (xs : List X) (last : X) → Exists xs P → Exists (xs ++ last ∷ []) P
exists_pushed P xs last h = (h.0, h.1, at_more xs (last ∷ []) h.0 h.1 h.2, h.3)

pub exists_last : {X : Type 0} (P : ℕ → X → Type 0) (xs : List X) (last : X) → P (length xs) last → Exists (xs ++ last ∷ []) P
exists_last P xs last new = (length xs, last, at_last xs last, new)

pub at_least_pushed : (count : ℕ) (rows : List Row) (last : Row) (P : ℕ → Row → Type 0) → AtLeast count rows P → AtLeast count (rows ++ last ∷ []) P
at_least_pushed count rows last P k = record {
  processes = k.processes;
  enough = k.enough;
  each_once = k.each_once;
  each_has = λ i who e. let h = k.each_has i who e in (h.0, h.1, at_more rows (last ∷ []) h.0 h.1 h.2, h.3);
}
