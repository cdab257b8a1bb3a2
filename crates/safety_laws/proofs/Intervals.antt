-- Intervals that hold a team time, and what comes of them.
use Rattle.std.proofs.Common.{◌≡◌, refl, ℕ, zero, suc, ◌+◌, ◌-◌, ◌*◌, ◌/◌, ◌≤◌, Bool, true, false, cond, List, [], ◌∷◌, Option, Some, None, IfSome, arith}
use Rattle.std.specs.List.{AllByRecursion}
use Rattle.std.proofs.lemmas.Bool.Decides.{nat_tests}
use Rattle.tw_num.specs.declared.interval.Interval.{Interval}
use Rattle.tw_num.specs.Elapsed.{MayElapse}
use Rattle.tw_num.specs.Interval.{Holds, aged, within}
use Rattle.tw_num.specs.Clock.{Given, aged_at, shared_at, reading_of, is_narrow, at_least, clash}
use Rattle.tw_machine.specs.ClockLaw.{IsNear}

low_end_holds : (lo ticks ppm t time : ℕ) → lo ≤ t → ticks * 1000000 ≤ time * (1000000 + ppm) → lo + ticks * 1000000 / (1000000 + ppm) ≤ t + time
low_end_holds lo ticks ppm t time from fast = grind arith

high_end_holds : (hi ticks ppm t time : ℕ) → ppm ≤ 1000 → t ≤ hi → time * (1000000 - ppm) ≤ (ticks + 1) * 1000000 → t + time ≤ hi + (ticks + 1) * 1000000 / (1000000 - ppm)
high_end_holds hi ticks ppm t time small to slow = grind arith

aged_parts : (i : Interval) (ticks ppm t time : ℕ) → ppm ≤ 1000 → Holds i t → MayElapse ppm ticks time → Holds (aged i ticks ppm) (t + time)
aged_parts i zero ppm t time small holds may = record { from = let f = holds.from in omega arith; to = let slow = may.slow in high_end_holds i.hi zero ppm t time small holds.to (omega arith) }
aged_parts i (suc ticks) ppm t time small holds may = record {
  from = let fast = may.fast in low_end_holds i.lo ticks ppm t time holds.from (omega arith);
  to = let slow = may.slow in high_end_holds i.hi (suc ticks) ppm t time small holds.to (omega arith);
}

-- an interval that held team time t still holds it at u where the clock kept the drift
pub aged_holds : (i : Interval) (ticks ppm t u : ℕ) → ppm ≤ 1000 → Holds i t → t ≤ u → MayElapse ppm ticks (u - t) → Holds (aged i ticks ppm) u
aged_holds i ticks ppm t u small holds le may =
    let whole : t + (u - t) ≡ u = omega arith in
    let there : Holds (aged i ticks ppm) (t + (u - t)) = aged_parts i ticks ppm t (u - t) small holds may in
    rw whole at there

pub now_holds : (i : Interval) (ppm t : ℕ) → ppm ≤ 1000 → Holds i t → Holds (aged i 0 ppm) t
now_holds i ppm t small holds = record { from = let f = holds.from in omega arith; to = let f = holds.to in omega arith }

within_holds : (t : ℕ) (i : Interval) (o : Option Interval) → Holds i t → IfSome o (λ j. Holds j t) → Holds (within i o) t
within_holds t i None holds others = holds
within_holds t i (Some j) holds others = record { from = omega arith; to = omega arith }

pub shared_holds : (ppm h t : ℕ) (gs : List Given) → AllByRecursion (λ (g : Given). Holds (aged_at ppm h g) t) gs → IfSome (shared_at ppm h gs) (λ i. Holds i t)
shared_holds ppm h t [] all = tt
shared_holds ppm h t (g ∷ gs) all = within_holds t (aged_at ppm h g) (shared_at ppm h gs) all.0 (shared_holds ppm h t gs all.1)

-- two intervals that hold the same time don't clash
pub no_clash : (t : ℕ) (o : Option Interval) (got : Interval) → IfSome o (λ i. Holds i t) → Holds got t → clash o got ≡ None
no_clash t None got others holds = refl
no_clash t (Some have) got others holds = grind (arith, nat_tests)

-- the middle of a narrow interval that holds t, or a greater reading that isn't ahead of t
middle_near : (eps t lo hi : ℕ) (greatest : Option ℕ) → IfSome greatest (λ T. T ≤ t + eps) → lo ≤ t → t ≤ hi → hi - lo ≤ 2 * eps → IsNear eps t (at_least greatest ((lo + hi) / 2))
middle_near eps t lo hi None before from to narrow = record { not_ahead = omega arith; not_behind = omega arith }
middle_near eps t lo hi (Some T) before from to narrow = record { not_ahead = omega arith; not_behind = omega arith }

pub reading_near : (eps t : ℕ) (greatest : Option ℕ) (o : Option Interval) → IfSome greatest (λ T. T ≤ t + eps) → IfSome o (λ i. Holds i t) → IfSome (reading_of eps greatest o) (λ T. IsNear eps t T)
reading_near eps t greatest None before holds = tt
reading_near eps t greatest (Some i) before holds = go (is_narrow eps i) refl
  where
    go : (narrow : Bool) → is_narrow eps i ≡ narrow → IfSome (cond narrow (Some (at_least greatest ((i.lo + i.hi) / 2))) None) (λ T. IsNear eps t T)
    go false e = tt
    go true e = middle_near eps t i.lo i.hi greatest before holds.from holds.to (grind (arith, nat_tests))
