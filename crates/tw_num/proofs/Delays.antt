-- What a packet's bounds say of its true delay, where clocks keep the drift bound and intervals hold team time.
use Rattle.std.proofs.Common.{◌≡◌, refl, ℕ, zero, suc, ◌+◌, ◌-◌, ◌*◌, ◌/◌, ◌≤◌, Bool, true, false, ◌&&◌, cond, Option, Some, None, IfSome, arith}
use Rattle.std.specs.Prelude.{nat_le}
use Rattle.std.specs.Option.{option_and_then}
use Rattle.std.proofs.lemmas.Bool.Decides.{nat_tests}
use Rattle.tw_num.specs.declared.interval.Interval.{Interval}
use Rattle.tw_num.specs.Elapsed.{MayElapse, up, down}
use Rattle.tw_num.specs.Interval.{Holds}
use Rattle.tw_num.specs.Rate.{RoundTrip, or_zero, echo_bound, interval_bound, lesser, Timely, Late, rate_by, rate, IfRated, IsRoundTrip}
use Rattle.tw_num.specs.Clock.{delayed}

most : (ticks ppm time : ℕ) → ppm ≤ 1000 → MayElapse ppm ticks time → time ≤ up ticks ppm
most ticks ppm time small may = let slow = may.slow in grind arith

one_less : (ticks ppm time : ℕ) → ticks * 1000000 ≤ time * (1000000 + ppm) → ticks * 1000000 / (1000000 + ppm) ≤ time
one_less ticks ppm time fast = grind arith

least : (ticks ppm time : ℕ) → MayElapse ppm ticks time → or_zero (down ticks ppm) ≤ time
least zero ppm time may = omega arith
least (suc ticks) ppm time may = let fast = may.fast in one_less ticks ppm time (omega arith)

-- the echo bound is at least the delay
pub echo_bounds : (ppm left arrived : ℕ) (r : RoundTrip) → ppm ≤ 1000 → IsRoundTrip ppm left arrived r → IfSome (echo_bound ppm r) (λ bound. arrived - left ≤ bound)
echo_bounds ppm left arrived r small trip = go (nat_le r.a r.h && nat_le r.b r.sent)
  where
    go : (b : Bool) → IfSome (cond b (Some (up (r.h - r.a) ppm - or_zero (down (r.sent - r.b) ppm))) None) (λ bound. arrived - left ≤ bound)
    go false = tt
    go true =
        let m : arrived - trip.asked ≤ up (r.h - r.a) ppm = most (r.h - r.a) ppm (arrived - trip.asked) small trip.whole in
        let l : or_zero (down (r.sent - r.b) ppm) ≤ left - trip.noted = least (r.sent - r.b) ppm (left - trip.noted) trip.waited in
        let after = trip.after in
        let before = trip.before in
        omega arith

-- so is the interval bound
pub interval_bounds : (left arrived : ℕ) (own theirs : Option Interval) → IfSome own (λ i. Holds i arrived) → IfSome theirs (λ i. Holds i left) → IfSome (interval_bound own theirs) (λ bound. arrived - left ≤ bound)
interval_bounds left arrived None theirs o t = tt
interval_bounds left arrived (Some own) None o t = tt
interval_bounds left arrived (Some own) (Some theirs) o t = let upper = o.to in let lower = t.from in omega arith

lesser_bounds : (d : ℕ) (x y : Option ℕ) → IfSome x (λ bound. d ≤ bound) → IfSome y (λ bound. d ≤ bound) → IfSome (lesser x y) (λ bound. d ≤ bound)
lesser_bounds d None y a b = b
lesser_bounds d (Some x) None a b = a
lesser_bounds d (Some x) (Some y) a b = omega arith

rated : (d delta : ℕ) (x : Option ℕ) → IfSome x (λ bound. d ≤ bound) → IfRated (λ bound. d ≤ bound) (rate_by delta x)
rated d delta None a = tt
rated d delta (Some x) a = go (nat_le x delta)
  where
    go : (b : Bool) → IfRated (λ bound. d ≤ bound) (cond b (Timely x) (Late x))
    go true = a
    go false = a

trip_bounds : (ppm left arrived : ℕ) (trip : Option RoundTrip) → ppm ≤ 1000 → IfSome trip (IsRoundTrip ppm left arrived) → IfSome (option_and_then (echo_bound ppm) trip) (λ bound. arrived - left ≤ bound)
trip_bounds ppm left arrived None small t = tt
trip_bounds ppm left arrived (Some r) small t = echo_bounds ppm left arrived r small t

-- whatever bound a rate tells is at least the delay
pub rate_bounds : (ppm delta left arrived : ℕ) (trip : Option RoundTrip) (own theirs : Option Interval) → ppm ≤ 1000 → IfSome trip (IsRoundTrip ppm left arrived) → IfSome own (λ i. Holds i arrived) → IfSome theirs (λ i. Holds i left) → IfRated (λ bound. arrived - left ≤ bound) (rate ppm delta trip own theirs)
rate_bounds ppm delta left arrived trip own theirs small t o s =
    rated (arrived - left) delta (lesser (option_and_then (echo_bound ppm) trip) (interval_bound own theirs)) (lesser_bounds (arrived - left) (option_and_then (echo_bound ppm) trip) (interval_bound own theirs) (trip_bounds ppm left arrived trip small t) (interval_bounds left arrived own theirs o s))

-- what is timely by a bound that is at least d has d within the time-out
within : (d delta bound : ℕ) (x : Option ℕ) → IfRated (λ b. d ≤ b) (rate_by delta x) → rate_by delta x ≡ Timely bound → d ≤ delta
within d delta bound None covered e = absurd (cc)
within d delta bound (Some x) covered e = go (nat_le x delta) refl covered e
  where
    go : (test : Bool) → nat_le x delta ≡ test → IfRated (λ b. d ≤ b) (cond test (Timely x) (Late x)) → cond test (Timely x) (Late x) ≡ Timely bound → d ≤ delta
    go true is covered e = grind (arith, nat_tests)
    go false is covered e = absurd (cc)

-- so a packet that is rated timely was on its way for at most the time-out
pub timely_within : (ppm delta left arrived bound : ℕ) (trip : Option RoundTrip) (own theirs : Option Interval) → ppm ≤ 1000 → IfSome trip (IsRoundTrip ppm left arrived) → IfSome own (λ i. Holds i arrived) → IfSome theirs (λ i. Holds i left) → rate ppm delta trip own theirs ≡ Timely bound → arrived - left ≤ delta
timely_within ppm delta left arrived bound trip own theirs small t o s e =
    within (arrived - left) delta bound (lesser (option_and_then (echo_bound ppm) trip) (interval_bound own theirs)) (rate_bounds ppm delta left arrived trip own theirs small t o s) e

-- an interval that held team time when it was sent, with a bound of the delay, holds team time on arrival
pub delayed_holds : (left arrived bound : ℕ) (i : Interval) → left ≤ arrived → arrived - left ≤ bound → Holds i left → Holds (delayed i bound) arrived
delayed_holds left arrived bound i le b holds = record { from = let f = holds.from in omega arith; to = let t = holds.to in omega arith }
