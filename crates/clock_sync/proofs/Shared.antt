-- What a list of given intervals shares has the ends that its greatest lower key and its least upper key give.
use Rattle.std.proofs.Common.{◌≡◌, ℕ, ◌+◌, ◌*◌, ◌≤◌, List, [], ◌∷◌, ◌⊎◌, inl, inr, refl, sym, ◌∙◌, subst, arith, Option, Some, None, IfSome}
use Rattle.std.specs.Prelude.{MatchOption}
use Rattle.std.specs.List.{AllByRecursion}
use Rattle.std.proofs.lemmas.Bool.Decides.{nat_tests}
use Rattle.tw_num.specs.declared.interval.Interval.{Interval}
use Rattle.tw_num.specs.Interval.{within}
use Rattle.tw_num.specs.Clock.{Clock, Given, IsNotBefore, aged_at, shared_at}
use Rattle.clock_sync.specs.declared.keys.Keys.{Keys}
use Rattle.clock_sync.specs.Keys.{low_end, high_end, ends, if_in_order, interval_of}
use Rattle.clock_sync.specs.StandsFor.{AnyByRecursion, low_sum, high_sum, IsGreatestLow, IsLeastHigh, AreKeysOf, ShareTime}
use Rattle.clock_sync.proofs.Ends.{low_le, low_ge, high_le, high_ge}

within_bounds : (i : Interval) (o : Option Interval) (l u : ℕ) → i.lo ≤ l → u ≤ i.hi → IfSome o (λ j. (j.lo ≤ l) × (u ≤ j.hi)) → ((within i o).lo ≤ l) × (u ≤ (within i o).hi)
within_bounds i None l u a b h = (a, b)
within_bounds i (Some j) l u a b h = grind arith

within_low : (i : Interval) (o : Option Interval) (l : ℕ) → (l ≤ i.lo) ⊎ MatchOption o ⊥ (λ j. l ≤ j.lo) → l ≤ (within i o).lo
within_low i None l (inl a) = a
within_low i None l (inr a) = absurd a
within_low i (Some j) l h = grind arith

within_high : (i : Interval) (o : Option Interval) (u : ℕ) → (i.hi ≤ u) ⊎ MatchOption o ⊥ (λ j. j.hi ≤ u) → (within i o).hi ≤ u
within_high i None u (inl a) = a
within_high i None u (inr a) = absurd a
within_high i (Some j) u h = grind arith

module _ (p h : ℕ) (small : p ≤ 1000) where
  bounds : (low high : ℕ) (gs : List Given) → AllByRecursion (λ (g : Given). g.h ≤ h) gs → AllByRecursion (λ (g : Given). low_sum p g ≤ low + g.h * 1000000) gs → AllByRecursion (λ (g : Given). high + g.h * 1000000 ≤ high_sum p g) gs → IfSome (shared_at p h gs) (λ i. (i.lo ≤ low_end p h low) × (high_end p h high ≤ i.hi))
  bounds low high [] before l u = tt
  bounds low high (g ∷ gs) before l u = within_bounds (aged_at p h g) (shared_at p h gs) (low_end p h low) (high_end p h high) (low_le p h g.h g.interval.lo low before.0 l.0) (high_ge p h g.h g.interval.hi high small before.0 u.0) (bounds low high gs before.1 l.1 u.1)

  low_there : (low : ℕ) (gs : List Given) → AllByRecursion (λ (g : Given). g.h ≤ h) gs → AnyByRecursion (λ (g : Given). low_sum p g ≡ low + g.h * 1000000) gs → MatchOption (shared_at p h gs) ⊥ (λ i. low_end p h low ≤ i.lo)
  low_there low [] before a = a
  low_there low (g ∷ gs) before (inl e) = within_low (aged_at p h g) (shared_at p h gs) (low_end p h low) (inl (low_ge p h g.h g.interval.lo low before.0 e))
  low_there low (g ∷ gs) before (inr a) = within_low (aged_at p h g) (shared_at p h gs) (low_end p h low) (inr (low_there low gs before.1 a))

  high_there : (high : ℕ) (gs : List Given) → AllByRecursion (λ (g : Given). g.h ≤ h) gs → AnyByRecursion (λ (g : Given). high_sum p g ≡ high + g.h * 1000000) gs → MatchOption (shared_at p h gs) ⊥ (λ i. i.hi ≤ high_end p h high)
  high_there high [] before a = a
  high_there high (g ∷ gs) before (inl e) = within_high (aged_at p h g) (shared_at p h gs) (high_end p h high) (inl (high_le p h g.h g.interval.hi high small before.0 e))
  high_there high (g ∷ gs) before (inr a) = within_high (aged_at p h g) (shared_at p h gs) (high_end p h high) (inr (high_there high gs before.1 a))

  meeting : (o : Option Interval) (l u : ℕ) → IfSome o (λ i. (i.lo ≤ l) × (u ≤ i.hi)) → MatchOption o ⊥ (λ i. l ≤ i.lo) → MatchOption o ⊥ (λ i. i.hi ≤ u) → o ≡ Some (record { lo = l; hi = u })
  meeting None l u b x y = absurd x
  meeting (Some i) l u b x y = grind arith

  pub shared_ends : (k : Keys) (gs : List Given) → AllByRecursion (λ (g : Given). g.h ≤ h) gs → IsGreatestLow p k.low gs → IsLeastHigh p k.high gs → shared_at p h gs ≡ Some (ends p h k)
  shared_ends k gs before l u = meeting (shared_at p h gs) (low_end p h k.low) (high_end p h k.high) (bounds k.low k.high gs before l.none_above u.none_below) (low_there k.low gs before l.one_there) (high_there k.high gs before u.one_there)

ordered_some : (i : Interval) → i.lo ≤ i.hi → if_in_order i ≡ Some i
ordered_some i o = grind (arith, nat_tests)

some_ordered : (o : Option Interval) (i : Interval) → o ≡ Some i → IfSome o (λ j. j.lo ≤ j.hi) → i.lo ≤ i.hi
some_ordered o i e h = let P : Option Interval → Type 0 = λ q. IfSome q (λ j. j.lo ≤ j.hi) in subst P e h

-- the keys give what the list gives
pub same_interval : (p h : ℕ) (keys : Option Keys) (c : Clock) → p ≤ 1000 → AreKeysOf p keys c.given → ShareTime p c → IsNotBefore h c → interval_of p h keys ≡ shared_at p h c.given
same_interval p h None c small a s before = rw a refl
same_interval p h (Some k) c small a s before =
    let e : shared_at p h c.given ≡ Some (ends p h k) = shared_ends p h small k c.given before a.0 a.1 in
    ordered_some (ends p h k) (some_ordered (shared_at p h c.given) (ends p h k) e (s h before)) ∙ sym e
