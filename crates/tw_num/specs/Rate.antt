-- Detected lateness: bounds of how long a received packet was on its way, from the readings of two clocks alone. The idea is
-- Cristian and Fetzer's fail-aware datagram service.
use Rattle.std.specs.Prelude.{ℕ, ◌-◌, ◌≤◌, min, nat_le, ◌&&◌, if◌then◌else◌, ℤ, pos, negsuc, Option, Some, None}
use Rattle.std.specs.Option.{option_and_then}
use Rattle.tw_num.specs.declared.interval.Interval.{Interval}
use Rattle.tw_num.specs.Elapsed.{MayElapse, up, down}

-- The readings of a round trip. The receiver of a packet had sent one itself at its reading a; the packet's sender heard that
-- one at its own reading b, and sent the packet at sent; the receiver got it at h.
pub record RoundTrip : Type 0 where
  pub a : ℕ
  pub b : ℕ
  pub sent : ℕ
  pub h : ℕ

abbrev pub or_zero : ℤ → ℕ
or_zero (pos n) = n
or_zero (negsuc n) = 0

-- the most that the whole trip may have taken by the receiver's clock, less the least that the sender must have waited by its
-- own, at least 0; None where one of the two clocks fell
abbrev pub echo_bound : ℕ → RoundTrip → Option ℕ
echo_bound ppm r = if nat_le r.a r.h && nat_le r.b r.sent then Some (up (r.h - r.a) ppm - or_zero (down (r.sent - r.b) ppm)) else None

-- the receiver's own upper end less the sender's lower end, at least 0, where both have an interval
abbrev pub interval_bound : Option Interval → Option Interval → Option ℕ
interval_bound (Some own) (Some theirs) = Some (own.hi - theirs.lo)
interval_bound own theirs = None

-- the lesser of those that exist
abbrev pub lesser : Option ℕ → Option ℕ → Option ℕ
lesser None y = y
lesser (Some x) None = Some x
lesser (Some x) (Some y) = Some (min x y)

-- a packet's rate, with the bound that tells it
pub data Rate : Type 0 where
  Timely : ℕ → Rate
  Late : ℕ → Rate
  Unrated : Rate

abbrev pub rate_by : ℕ → Option ℕ → Rate
rate_by delta None = Unrated
rate_by delta (Some bound) = if nat_le bound delta then Timely bound else Late bound

-- the rate of a packet by its round trip, by its receiver's own interval and by the one that its sender told
abbrev pub rate : ℕ → ℕ → Option RoundTrip → Option Interval → Option Interval → Rate
rate ppm delta trip own theirs = rate_by delta (lesser (option_and_then (echo_bound ppm) trip) (interval_bound own theirs))

-- P holds of the bound that a rate tells, if it tells one
abbrev pub IfRated : (ℕ → Type 0) → Rate → Type 0
IfRated P (Timely bound) = P bound
IfRated P (Late bound) = P bound
IfRated P Unrated = Unit {0}

-- These are readings of a real round trip whose packet was sent at team time left and received at arrived, by clocks that keep
-- the drift bound: the receiver read a at asked, and the sender read b at noted, no earlier, and before it sent.
pub record IsRoundTrip (ppm left arrived : ℕ) (r : RoundTrip) : Type 0 where
  pub asked : ℕ
  pub noted : ℕ
  pub after : asked ≤ noted
  pub before : noted ≤ left
  pub whole : MayElapse ppm (r.h - r.a) (arrived - asked)
  pub waited : MayElapse ppm (r.sent - r.b) (left - noted)
