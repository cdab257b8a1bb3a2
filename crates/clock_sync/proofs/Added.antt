-- A clock that was given one more interval: its keys, that its ends stay in order, and when it refuses.
use Rattle.std.proofs.Common.{◌≡◌, ℕ, ◌+◌, ◌-◌, ◌*◌, ◌^◌, ◌<◌, ◌≤◌, max, min, List, [], ◌∷◌, ◌⊎◌, inl, inr, refl, subst, arith, Option, Some, None, IfSome}
use Rattle.std.specs.List.{AllByRecursion}
use Rattle.std.proofs.lemmas.Bool.Decides.{nat_tests}
use Rattle.std.proofs.lemmas.Bool.{cases_lt}
use Rattle.tw_num.specs.declared.interval.Interval.{Interval}
use Rattle.tw_num.specs.Interval.{aged, within}
use Rattle.tw_num.specs.Clock.{Clock, Given, IsNotBefore, shared_at, clash, refusal}
use Rattle.clock_sync.specs.declared.keys.Keys.{Keys}
use Rattle.clock_sync.specs.Keys.{low_end, high_end, ends, interval_of, narrowed}
use Rattle.clock_sync.specs.StandsFor.{AnyByRecursion, low_sum, high_sum, IsGreatestLow, IsLeastHigh, AreKeysOf, ShareTime}
use Rattle.clock_sync.proofs.Ends.{stay_in_order}
use Rattle.clock_sync.proofs.Shared.{shared_ends, same_interval}

all_above : (p a b : ℕ) → a ≤ b → (gs : List Given) → AllByRecursion (λ (g : Given). low_sum p g ≤ a + g.h * 1000000) gs → AllByRecursion (λ (g : Given). low_sum p g ≤ b + g.h * 1000000) gs
all_above p a b le [] all = tt
all_above p a b le (g ∷ gs) all = (let x = all.0 in omega arith, all_above p a b le gs all.1)

all_below : (p a b : ℕ) → b ≤ a → (gs : List Given) → AllByRecursion (λ (g : Given). a + g.h * 1000000 ≤ high_sum p g) gs → AllByRecursion (λ (g : Given). b + g.h * 1000000 ≤ high_sum p g) gs
all_below p a b le [] all = tt
all_below p a b le (g ∷ gs) all = (let x = all.0 in omega arith, all_below p a b le gs all.1)

greatest_added : (p a b : ℕ) (g : Given) (gs : List Given) → IsGreatestLow p a gs → low_sum p g ≡ b + g.h * 1000000 → IsGreatestLow p (max a b) (g ∷ gs)
greatest_added p a b g gs k e = go (cases_lt a b)
  where
    go : (a < b) ⊎ (b ≤ a) → IsGreatestLow p (max a b) (g ∷ gs)
    go (inl le) =
        let m : max a b ≡ b = omega arith in
        rw m (record { none_above = (omega arith, all_above p a b (omega arith) gs k.none_above); one_there = inl e })
    go (inr le) =
        let m : max a b ≡ a = omega arith in
        rw m (record { none_above = (omega arith, k.none_above); one_there = inr k.one_there })

least_added : (p a b : ℕ) (g : Given) (gs : List Given) → IsLeastHigh p a gs → high_sum p g ≡ b + g.h * 1000000 → IsLeastHigh p (min a b) (g ∷ gs)
least_added p a b g gs k e = go (cases_lt a b)
  where
    go : (a < b) ⊎ (b ≤ a) → IsLeastHigh p (min a b) (g ∷ gs)
    go (inl le) =
        let m : min a b ≡ a = omega arith in
        rw m (record { none_below = (omega arith, k.none_below); one_there = inr k.one_there })
    go (inr le) =
        let m : min a b ≡ b = omega arith in
        rw m (record { none_below = (omega arith, all_below p a b le gs k.none_below); one_there = inl e })

pub keys_added : (p : ℕ) (before : Option Keys) (k : Keys) (g : Given) (gs : List Given) → AreKeysOf p before gs → low_sum p g ≡ k.low + g.h * 1000000 → high_sum p g ≡ k.high + g.h * 1000000 → AreKeysOf p (Some (narrowed before k)) (g ∷ gs)
keys_added p None k g gs none l u =
    rw none (record { none_above = (omega arith, tt); one_there = inl l }, record { none_below = (omega arith, tt); one_there = inl u })
keys_added p (Some j) k g gs a l u = (greatest_added p j.low k.low g gs a.0 l, least_added p j.high k.high g gs a.1 u)

raised : (p h high : ℕ) (gs : List Given) → AllByRecursion (λ (g : Given). g.h ≤ h) gs → AnyByRecursion (λ (g : Given). high_sum p g ≡ high + g.h * 1000000) gs → 2 ^ 60 * 1000000 ≤ high + h * 1000000
raised p h high [] before a = absurd a
raised p h high (g ∷ gs) before (inl e) = let b = before.0 in omega arith
raised p h high (g ∷ gs) before (inr a) = raised p h high gs before.1 a

ends_stay : (p h k : ℕ) (keys : Keys) → p ≤ 1000 → h ≤ k → 2 ^ 60 * 1000000 ≤ keys.high + h * 1000000 → low_end p h keys.low ≤ high_end p h keys.high → low_end p k keys.low ≤ high_end p k keys.high
ends_stay p h k keys small le r o =
    stay_in_order (keys.low + h * 1000000 - (2 ^ 60 + 1) * 1000000) (keys.high + (h + 1) * 1000000 - 2 ^ 60 * 1000000)
    (keys.low + k * 1000000 - (2 ^ 60 + 1) * 1000000) (keys.high + (k + 1) * 1000000 - 2 ^ 60 * 1000000)
    (1000000 + p) (1000000 - p) 1000000 (k - h) (omega arith) (omega arith) (omega arith) (omega arith) (omega arith) (omega arith) o

-- where the new interval does not clash, it shares time with the others
no_clash : (p : ℕ) (i : Interval) (o : Option Interval) → i.lo ≤ i.hi → clash o (aged i 0 p) ≡ None → (within (aged i 0 p) o).lo ≤ (within (aged i 0 p) o).hi
no_clash p i None le e = omega arith
no_clash p i (Some have) le e = grind (arith, nat_tests)

in_some : (o : Option Interval) (i : Interval) → o ≡ Some i → i.lo ≤ i.hi → IfSome o (λ j. j.lo ≤ j.hi)
in_some o i e le = rw e le

pub share_added : (p h : ℕ) (i : Interval) (k : Keys) (c : Clock) → p ≤ 1000 → i.lo ≤ i.hi → IsNotBefore h c → AreKeysOf p (Some k) (record { h = h; interval = i } ∷ c.given) → clash (shared_at p h c.given) (aged i 0 p) ≡ None → ShareTime p (record c { given = record { h = h; interval = i } ∷ c.given })
share_added p h i k c small le before keys clear l after =
    let now : shared_at p h (record { h = h; interval = i } ∷ c.given) ≡ Some (ends p h k) = shared_ends p h small k (record { h = h; interval = i } ∷ c.given) (omega arith, before) keys.0 keys.1 in
    let later : shared_at p l (record { h = h; interval = i } ∷ c.given) ≡ Some (ends p l k) = shared_ends p l small k (record { h = h; interval = i } ∷ c.given) after keys.0 keys.1 in
    let none : h - h ≡ 0 = omega arith in
    let same : Some (within (aged i 0 p) (shared_at p h c.given)) ≡ Some (ends p h k) = rw none at now in
    let joined : within (aged i 0 p) (shared_at p h c.given) ≡ ends p h k = cc in
    let o : low_end p h k.low ≤ high_end p h k.high = let P : Interval → Type 0 = λ j. j.lo ≤ j.hi in subst P joined (no_clash p i (shared_at p h c.given) le clear) in
    let r : 2 ^ 60 * 1000000 ≤ k.high + h * 1000000 = raised p h k.high (record { h = h; interval = i } ∷ c.given) (omega arith, before) keys.1.one_there in
    in_some (shared_at p l (record { h = h; interval = i } ∷ c.given)) (ends p l k) later (ends_stay p h l k small after.0 r o)

-- why a clock that refused nothing yet refuses an interval
pub why_refused : (p : ℕ) (h : ℕ) (i : Interval) (keys : Option Keys) (c : Clock) → p ≤ 1000 → c.disjoint ≡ None → AreKeysOf p keys c.given → ShareTime p c → IsNotBefore h c → refusal p h i c ≡ clash (interval_of p h keys) (aged i 0 p)
why_refused p h i keys c small none a s before = rw (none, same_interval p h keys c small a s before) refl
