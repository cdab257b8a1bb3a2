-- The two numbers that stand for a list of given intervals, and the interval that they give at a reading.
use Rattle.std.specs.Prelude.{ℕ, ◌+◌, ◌-◌, ◌*◌, ◌/◌, ◌^◌, ◌≤◌, max, min, nat_le, if◌then◌else◌, Option, Some, None}
use Rattle.tw_num.specs.declared.interval.Interval.{Interval}
use Rattle.clock_sync.specs.declared.keys.Keys.{Keys}

-- the lower end at h: (low + (h - 1) * M) / (M + ppm) for the unraised key, or 0 where that is below 0
abbrev pub low_end : ℕ → ℕ → ℕ → ℕ
low_end ppm h low = (low + h * 1000000 - (2 ^ 60 + 1) * 1000000) / (1000000 + ppm)

-- the upper end at h: (high + (h + 1) * M) / (M - ppm) for the unraised key
abbrev pub high_end : ℕ → ℕ → ℕ → ℕ
high_end ppm h high = (high + (h + 1) * 1000000 - 2 ^ 60 * 1000000) / (1000000 - ppm)

abbrev pub ends : ℕ → ℕ → Keys → Interval
ends ppm h k = record { lo = low_end ppm h k.low; hi = high_end ppm h k.high }

abbrev pub if_in_order : Interval → Option Interval
if_in_order i = if nat_le i.lo i.hi then Some i else None

-- the interval of keys at h, None where there are none or their ends have crossed
abbrev pub interval_of : ℕ → ℕ → Option Keys → Option Interval
interval_of ppm h None = None
interval_of ppm h (Some k) = if_in_order (ends ppm h k)

-- the greater lower key and the lesser upper key
abbrev pub narrowed : Option Keys → Keys → Keys
narrowed None k = k
narrowed (Some j) k = record { low = max j.low k.low; high = min j.high k.high }

-- the keys of intervals that end below 2 ^ 62 + 2 ^ 61, as heard ones do, given below 2 ^ 60
pub record IsInRange (k : Keys) : Type 0 where
  pub low : k.low ≤ 3 * 2 ^ 61 * 1001000 + 2 ^ 60 * 1000000
  pub high : k.high ≤ 3 * 2 ^ 61 * 1000000 + 2 ^ 60 * 1000000
