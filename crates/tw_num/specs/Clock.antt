-- The clock of one process as what it was given: external clock synchronisation by intervals, after Marzullo and after
-- Cristian and Fetzer, kept as the whole list of what was given since the start.
use Rattle.std.specs.Prelude.{ℕ, ◌+◌, ◌-◌, ◌*◌, ◌/◌, ◌^◌, ◌≤◌, max, nat_le, nat_lt, Bool, ◌&&◌, if◌then◌else◌, List, [], ◌∷◌, map, Option, Some, None}
use Rattle.std.specs.List.{AllByRecursion}
use Rattle.tw_num.specs.declared.interval.Interval.{Interval}
use Rattle.tw_num.specs.declared.interval.Disjoint.{Disjoint}
use Rattle.tw_num.specs.declared.moment.Moment.{Moment}
use Rattle.tw_num.specs.Interval.{aged, meet, narrowest}

-- an interval that held team time at the reading h
pub record Given : Type 0 where
  pub h : ℕ
  pub interval : Interval

-- what is given of an interval that was sent: it held team time then, at most so long ago
abbrev pub delayed : Interval → ℕ → Interval
delayed i bound = record { lo = i.lo; hi = i.hi + bound }

-- What a process's clock knows since its start: the intervals that it was given and that were not refused, the newest
-- first; its greatest reading so far; and the first interval that was refused, with what it contradicted.
pub record Clock : Type 0 where
  pub given : List Given
  pub greatest : Option ℕ
  pub disjoint : Option Disjoint

-- nothing given yet
abbrev pub fresh : Clock
fresh = record { given = []; greatest = None; disjoint = None }

-- a given interval at a later reading h
abbrev pub aged_at : ℕ → ℕ → Given → Interval
aged_at ppm h g = aged g.interval (h - g.h) ppm

-- what all the given intervals share at h; None where none is given
abbrev pub shared_at : ℕ → ℕ → List Given → Option Interval
shared_at ppm h gs = narrowest (map (aged_at ppm h) gs)

abbrev pub unless_disjoint : {X : Type 0} → Option Disjoint → Option X → Option X
unless_disjoint None x = x
unless_disjoint (Some d) x = None

-- the interval that holds team time at h; None before the first one given, and from a Disjoint on
abbrev pub interval_at : ℕ → ℕ → Clock → Option Interval
interval_at ppm h c = unless_disjoint c.disjoint (shared_at ppm h c.given)

-- an interval is narrow enough for a reading
abbrev pub is_narrow : ℕ → Interval → Bool
is_narrow eps i = nat_le (i.hi - i.lo) (2 * eps) && nat_lt i.hi (2 ^ 60)

abbrev pub at_least : Option ℕ → ℕ → ℕ
at_least None t = t
at_least (Some greatest) t = max t greatest

abbrev pub reading_of : ℕ → Option ℕ → Option Interval → Option ℕ
reading_of eps greatest None = None
reading_of eps greatest (Some i) = if is_narrow eps i then Some (at_least greatest ((i.lo + i.hi) / 2)) else None

-- the reading at h: the middle of a narrow interval, or the greatest reading so far where that is above it
abbrev pub reading_at : ℕ → ℕ → ℕ → Clock → Option ℕ
reading_at ppm eps h c = reading_of eps c.greatest (interval_at ppm h c)

-- what a clock tells at h
abbrev pub moment_at : ℕ → ℕ → ℕ → Clock → Moment
moment_at ppm eps h c = record { h = h; reading = reading_at ppm eps h c; interval = interval_at ppm h c }

abbrev pub or_before : Option ℕ → Option ℕ → Option ℕ
or_before None before = before
or_before (Some t) before = Some t

-- the clock after a reading was taken at h
abbrev pub after_read : ℕ → ℕ → ℕ → Clock → Clock
after_read ppm eps h c = record c { greatest = or_before (reading_at ppm eps h c) c.greatest }

abbrev pub clash : Option Interval → Interval → Option Disjoint
clash None got = None
clash (Some have) got = first_clash (meet have got)
  where
    first_clash : Option Interval → Option Disjoint
    first_clash None = Some (record { have = have; got = got })
    first_clash (Some both) = None

-- why an interval given at h is refused: it shares no number with what the others share, or one was refused before
abbrev pub refusal : ℕ → ℕ → Interval → Clock → Option Disjoint
refusal ppm h i c = earlier_or c.disjoint
  where
    earlier_or : Option Disjoint → Option Disjoint
    earlier_or (Some d) = Some d
    earlier_or None = clash (shared_at ppm h c.given) (aged i 0 ppm)

-- the clock after it was given an interval at h
abbrev pub after_given : ℕ → ℕ → Interval → Clock → Clock
after_given ppm h i c = kept (refusal ppm h i c)
  where
    kept : Option Disjoint → Clock
    kept None = record c { given = record { h = h; interval = i } ∷ c.given }
    kept (Some d) = record c { disjoint = Some d }

-- the reading h is not below that of anything given
abbrev pub IsNotBefore : ℕ → Clock → Type 0
IsNotBefore h c = AllByRecursion (λ (g : Given). g.h ≤ h) c.given
