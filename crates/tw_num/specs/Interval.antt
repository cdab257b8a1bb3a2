-- Closed intervals of team time.
use Rattle.std.specs.Prelude.{ℕ, zero, suc, ◌+◌, ◌-◌, ◌*◌, ◌/◌, ◌≤◌, max, min, nat_le, if◌then◌else◌, List, [], ◌∷◌, Option, Some, None}
use Rattle.tw_num.specs.declared.interval.Interval.{Interval}
use Rattle.tw_num.specs.Elapsed.{up}

-- the interval has this team time in it
pub record Holds (i : Interval) (t : ℕ) : Type 0 where
  pub from : i.lo ≤ t
  pub to : t ≤ i.hi

-- lo + down ticks, or 0 where that is below 0
abbrev pub aged_low : ℕ → ℕ → ℕ → ℕ
aged_low lo zero ppm = lo - 1
aged_low lo (suc ticks) ppm = lo + ticks * 1000000 / (1000000 + ppm)

-- what an interval has become after so many ticks: its ends move by the least and by the most team time that may have passed
abbrev pub aged : Interval → ℕ → ℕ → Interval
aged i ticks ppm = record { lo = aged_low i.lo ticks ppm; hi = i.hi + up ticks ppm }

-- what two intervals share, None where they share nothing
abbrev pub meet : Interval → Interval → Option Interval
meet i j = if nat_le (max i.lo j.lo) (min i.hi j.hi) then Some (record { lo = max i.lo j.lo; hi = min i.hi j.hi }) else None

-- an interval within another that may not be there
abbrev pub within : Interval → Option Interval → Interval
within i None = i
within i (Some j) = record { lo = max i.lo j.lo; hi = min i.hi j.hi }

-- from the greatest lower end to the least upper end of a list, None for an empty list
abbrev pub narrowest : List Interval → Option Interval
narrowest [] = None
narrowest (i ∷ is) = Some (within i (narrowest is))
