-- What stands for all readings of a process's hardware clock, and which reading may follow them.
use Rattle.std.specs.Prelude.{ℕ, ◌≡◌, ◌≤◌, ◌+◌, ◌-◌, ◌*◌, ◌^◌, min, max, nat_le, nat_lt, Bool, true, ◌&&◌, List, [], ◌∷◌, Option, Some, None}
use Rattle.std.specs.List.{AllByRecursion}
use Rattle.clock_sync.specs.StandsFor.{AnyByRecursion}
use Rattle.world.specs.declared.bounds.Bounds.{Bounds}
use Rattle.world.specs.Readings.{Reading}

-- With M = 1000000 a reading of h at t has the two numbers h * M - t * (M + ppm) and h * M - t * (M - ppm). Both may be below
-- 0, so they are kept raised by 2 ^ 64 * 1001000, and what is taken away stands on the other side.
abbrev pub raised : ℕ → ℕ
raised h = h * 1000000 + 2 ^ 64 * 1001000

-- what the newest of the readings read
abbrev pub newest_of : List Reading → Option ℕ
newest_of [] = None
newest_of (r ∷ readings) = Some r.h

-- it is the last reading, and none is above it
pub record IsLast (last : ℕ) (readings : List Reading) : Type 0 where
  pub newest : newest_of readings ≡ Some last
  pub none_above : AllByRecursion (λ (r : Reading). r.h ≤ last) readings

-- it is the least h * M - t * (M + ppm) of the readings
pub record IsLeast (ppm least : ℕ) (readings : List Reading) : Type 0 where
  pub none_below : AllByRecursion (λ (r : Reading). least + r.t * (1000000 + ppm) ≤ raised r.h) readings
  pub one_there : AnyByRecursion (λ (r : Reading). least + r.t * (1000000 + ppm) ≡ raised r.h) readings

-- it is the greatest h * M - t * (M - ppm) of the readings
pub record IsGreatest (ppm greatest : ℕ) (readings : List Reading) : Type 0 where
  pub none_above : AllByRecursion (λ (r : Reading). raised r.h ≤ greatest + r.t * (1000000 - ppm)) readings
  pub one_there : AnyByRecursion (λ (r : Reading). greatest + r.t * (1000000 - ppm) ≡ raised r.h) readings

-- there are bounds exactly where there are readings
abbrev pub AreBoundsOf : ℕ → Option Bounds → List Reading → Type 0
AreBoundsOf ppm None readings = readings ≡ []
AreBoundsOf ppm (Some b) readings = IsLast b.last readings × IsLeast ppm b.least readings × IsGreatest ppm b.greatest readings

-- A clock with these bounds may read h at t: h isn't below the last, the first number of the reading is at most M above the
-- least, and the second is at most M below the greatest. M stands for the one tick that is given to rounding.
abbrev pub admits : ℕ → Option Bounds → ℕ → ℕ → Bool
admits ppm None t h = true
admits ppm (Some b) t h = nat_le b.last h
    && nat_le (raised h) (b.least + t * (1000000 + ppm) + 1000000)
    && nat_le (b.greatest + t * (1000000 - ppm)) (raised h + 1000000)

-- h is above the last reading, if there was one
abbrev pub is_above : Option Bounds → ℕ → Bool
is_above None h = true
is_above (Some b) h = nat_lt b.last h

-- the bounds of some readings and of later ones together
abbrev pub widened : Option Bounds → Bounds → Bounds
widened None b = b
widened (Some a) b = record { last = b.last; least = min a.least b.least; greatest = max a.greatest b.greatest }
