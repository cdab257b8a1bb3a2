-- When a team clock, which keeps one number for each side, stands for a clock that keeps the whole list of what was given.
use Rattle.std.specs.Prelude.{◌≡◌, ℕ, ◌+◌, ◌-◌, ◌*◌, ◌^◌, ◌≤◌, List, [], ◌∷◌, ◌⊎◌, Option, Some, None, IfSome}
use Rattle.std.specs.List.{AllByRecursion}
use Rattle.tw_num.specs.Clock.{Clock, Given, IsNotBefore, shared_at}
use Rattle.clock_sync.specs.declared.keys.Keys.{Keys}
use Rattle.clock_sync.specs.KeptClock.{KeptClock}

-- P holds of some element
abbrev pub AnyByRecursion : {X : Type 0} → (X → Type 0) → List X → Type 0
AnyByRecursion P [] = ⊥
AnyByRecursion P (x ∷ xs) = P x ⊎ AnyByRecursion P xs

-- The lower key of a given interval is lo * (M + ppm) - h * M, the upper key hi * (M - ppm) - h * M, with M = 1000000.
-- Both may be below 0, so keys are kept raised by 2 ^ 60 * M, and h * M stands on the other side.
abbrev pub low_sum : ℕ → Given → ℕ
low_sum ppm g = g.interval.lo * (1000000 + ppm) + 2 ^ 60 * 1000000

abbrev pub high_sum : ℕ → Given → ℕ
high_sum ppm g = g.interval.hi * (1000000 - ppm) + 2 ^ 60 * 1000000

-- low is the greatest lower key of the list
pub record IsGreatestLow (ppm low : ℕ) (gs : List Given) : Type 0 where
  pub none_above : AllByRecursion (λ (g : Given). low_sum ppm g ≤ low + g.h * 1000000) gs
  pub one_there : AnyByRecursion (λ (g : Given). low_sum ppm g ≡ low + g.h * 1000000) gs

-- high is the least upper key of the list
pub record IsLeastHigh (ppm high : ℕ) (gs : List Given) : Type 0 where
  pub none_below : AllByRecursion (λ (g : Given). high + g.h * 1000000 ≤ high_sum ppm g) gs
  pub one_there : AnyByRecursion (λ (g : Given). high_sum ppm g ≡ high + g.h * 1000000) gs

-- there are keys exactly where something was given
abbrev pub AreKeysOf : ℕ → Option Keys → List Given → Type 0
AreKeysOf ppm None gs = gs ≡ []
AreKeysOf ppm (Some k) gs = IsGreatestLow ppm k.low gs × IsLeastHigh ppm k.high gs

-- The list has only what was not refused: at each reading that is not before any of it, what it shares is not empty.
abbrev pub ShareTime : ℕ → Clock → Type 0
ShareTime ppm c = (h : ℕ) → IsNotBefore h c → IfSome (shared_at ppm h c.given) (λ i. i.lo ≤ i.hi)

-- The clock keeps the greatest reading, the first refusal, and the greatest lower and least upper key of the whole list, or
-- no keys for an empty list. It was made with this ppm and this eps.
pub record StandsFor (ppm eps : ℕ) (clock : KeptClock) (c : Clock) : Type 0 where
  pub same_ppm : clock.ppm ≡ ppm
  pub same_eps : clock.eps ≡ eps
  pub keys : AreKeysOf ppm clock.keys c.given
  pub unrefused : ShareTime ppm c
  pub greatest : clock.greatest ≡ c.greatest
  pub disjoint : clock.disjoint ≡ c.disjoint
