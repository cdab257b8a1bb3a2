-- A clock that is given an interval and read.
use Rattle.std.proofs.Common.{◌≡◌, refl, ap, ℕ, ◌+◌, ◌/◌, Option, Some, None, Bool, true, false, cond, arith}
use Rattle.tw_num.specs.declared.interval.Interval.{Interval}
use Rattle.tw_num.specs.declared.interval.Disjoint.{Disjoint}
use Rattle.tw_num.specs.Clock.{Clock, IsNotBefore, refusal, after_given, after_read, reading_at, reading_of, is_narrow, interval_at, or_before, at_least}

pub not_before_given : (ppm h : ℕ) (i : Interval) (c : Clock) → IsNotBefore h c → IsNotBefore h (after_given ppm h i c)
not_before_given ppm h i c known = go (refusal ppm h i c) refl
  where
    go : (o : Option Disjoint) → refusal ppm h i c ≡ o → IsNotBefore h (after_given ppm h i c)
    go None e = rw e (omega arith, known)
    go (Some d) e = rw e known

held : (narrow : Bool) (before : Option ℕ) (m : ℕ)
    → cond narrow (Some (at_least (or_before (cond narrow (Some (at_least before m)) None) before) m)) None ≡ cond narrow (Some (at_least before m)) None
held true None m = ap Some (omega arith)
held true (Some g) m = ap Some (omega arith)
held false before m = refl

-- a reading that was taken is taken again at the same moment
pub reading_again : (ppm eps h : ℕ) (c : Clock) → reading_at ppm eps h (after_read ppm eps h c) ≡ reading_at ppm eps h c
reading_again ppm eps h c = go (interval_at ppm h c)
  where
    go : (o : Option Interval) → reading_of eps (or_before (reading_of eps c.greatest o) c.greatest) o ≡ reading_of eps c.greatest o
    go None = refl
    go (Some i) = held (is_narrow eps i) c.greatest ((i.lo + i.hi) / 2)

or_before_again : (o before : Option ℕ) → or_before o (or_before o before) ≡ or_before o before
or_before_again None before = refl
or_before_again (Some t) before = refl

-- a clock that is read a second time at the same moment stays as it is
pub read_again : (ppm eps h : ℕ) (c : Clock) → after_read ppm eps h (after_read ppm eps h c) ≡ after_read ppm eps h c
read_again ppm eps h c = rw (reading_again ppm eps h c) (ap (λ g. record c { greatest = g }) (or_before_again (reading_at ppm eps h c) c.greatest))
