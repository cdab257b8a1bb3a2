-- A test against the bounds of some readings is the test against each of them.
use Rattle.std.proofs.Common.{◌≡◌, refl, sym, ap, subst, ◌≤◌, ◌<◌, ℕ, ◌+◌, ◌-◌, ◌*◌, max, min, Bool, true, false, ◌&&◌, List, [], ◌∷◌, ◌⊎◌, inl, inr, Option, Some, None, arith}
use Rattle.std.specs.Prelude.{nat_le, nat_lt}
use Rattle.std.specs.List.{list_all, AllByRecursion}
use Rattle.std.proofs.lemmas.Bool.{cases_lt, and_parts, and_from}
use Rattle.std.proofs.lemmas.Bool.Decides.{nat_tests}
use Rattle.clock_sync.specs.StandsFor.{AnyByRecursion}
use Rattle.tw_machine.specs.Admissible.{keeps_drift}
use Rattle.world.specs.declared.bounds.Bounds.{Bounds}
use Rattle.world.specs.Bounds.{raised, newest_of, IsLeast, IsGreatest, AreBoundsOf, admits, is_above, widened}
use Rattle.world.specs.Readings.{Reading}

both_ways : (a b : Bool) → (a ≡ true → b ≡ true) → (b ≡ true → a ≡ true) → a ≡ b
both_ways true b f g = sym (f refl)
both_ways false true f g = g refl
both_ways false false f g = refl

all_of : {X : Type 0} (test : X → Bool) (P Q : X → Type 0) → ((x : X) → P x → test x ≡ true → Q x) → (xs : List X) → AllByRecursion P xs → list_all test xs ≡ true → AllByRecursion Q xs
all_of test P Q each [] known all = tt
all_of test P Q each (x ∷ xs) known all = let both = and_parts (test x) (list_all test xs) all in (each x known.0 both.0, all_of test P Q each xs known.1 both.1)

-- ---- two readings

-- Where the first line rises by f in a microsecond and the second by s, a reading of h at t may follow this one: the test of
-- which steps may follow, with nothing taken away.
record Follows (f s t h : ℕ) (r : Reading) : Type 0 where
  below : r.h ≤ h
  fast : h * 1000000 + r.t * f ≤ r.h * 1000000 + t * f + 1000000
  slow : r.h * 1000000 + t * s ≤ h * 1000000 + r.t * s + 1000000

between : (a b x : ℕ) → a ≤ b → (b - a) * x + a * x ≡ b * x
between a b x le = grind arith

tests_met : (h k a b x y : ℕ) → (nat_le h k && nat_le a b && nat_le x y) ≡ true → (h ≤ k) × (a ≤ b) × (x ≤ y)
tests_met h k a b x y e = grind (arith, nat_tests)

meets_tests : (h k a b x y : ℕ) → h ≤ k → a ≤ b → x ≤ y → (nat_le h k && nat_le a b && nat_le x y) ≡ true
meets_tests h k a b x y p q r = grind (arith, nat_tests)

fast_apart : (f a b h k : ℕ) → a ≤ b → h ≤ k → (k - h) * 1000000 ≤ (b - a) * f + 1000000 → k * 1000000 + a * f ≤ h * 1000000 + b * f + 1000000
fast_apart f a b h k time ticks e = omega (arith, between a b f time)

fast_joined : (f a b h k : ℕ) → a ≤ b → h ≤ k → k * 1000000 + a * f ≤ h * 1000000 + b * f + 1000000 → (k - h) * 1000000 ≤ (b - a) * f + 1000000
fast_joined f a b h k time ticks e = omega (arith, between a b f time)

slow_apart : (s a b h k : ℕ) → a ≤ b → h ≤ k → (b - a) * s ≤ (k - h) * 1000000 + 1000000 → h * 1000000 + b * s ≤ k * 1000000 + a * s + 1000000
slow_apart s a b h k time ticks e = omega (arith, between a b s time)

slow_joined : (s a b h k : ℕ) → a ≤ b → h ≤ k → h * 1000000 + b * s ≤ k * 1000000 + a * s + 1000000 → (b - a) * s ≤ (k - h) * 1000000 + 1000000
slow_joined s a b h k time ticks e = omega (arith, between a b s time)

follows : (ppm t h : ℕ) (r : Reading) → r.t ≤ t → keeps_drift ppm r.t r.h t h ≡ true → Follows (1000000 + ppm) (1000000 - ppm) t h r
follows ppm t h r before e =
    let tests = tests_met r.h h ((h - r.h) * 1000000) ((t - r.t) * (1000000 + ppm) + 1000000) ((t - r.t) * (1000000 - ppm)) ((h - r.h) * 1000000 + 1000000) e in
    record {
      below = tests.0;
      fast = fast_apart (1000000 + ppm) r.t t r.h h before tests.0 tests.1;
      slow = slow_apart (1000000 - ppm) r.t t r.h h before tests.0 tests.2;
    }

keeps : (ppm t h : ℕ) (r : Reading) → r.t ≤ t → Follows (1000000 + ppm) (1000000 - ppm) t h r → keeps_drift ppm r.t r.h t h ≡ true
keeps ppm t h r before e =
    meets_tests r.h h ((h - r.h) * 1000000) ((t - r.t) * (1000000 + ppm) + 1000000) ((t - r.t) * (1000000 - ppm)) ((h - r.h) * 1000000 + 1000000)
    e.below (fast_joined (1000000 + ppm) r.t t r.h h before e.below e.fast) (slow_joined (1000000 - ppm) r.t t r.h h before e.below e.slow)

-- ---- from each reading to the bounds

last_below : (f s t h last : ℕ) (rs : List Reading) → newest_of rs ≡ Some last → AllByRecursion (Follows f s t h) rs → last ≤ h
last_below f s t h last [] e all = absurd (cc)
last_below f s t h last (r ∷ rs) e all = let same : r.h ≡ last = cc in let below = all.0.below in omega arith

least_above : (f s t h least : ℕ) (rs : List Reading) → AnyByRecursion (λ (r : Reading). least + r.t * f ≡ raised r.h) rs → AllByRecursion (Follows f s t h) rs → raised h ≤ least + t * f + 1000000
least_above f s t h least [] there all = absurd there
least_above f s t h least (r ∷ rs) (inl e) all = let fast = all.0.fast in omega arith
least_above f s t h least (r ∷ rs) (inr there) all = least_above f s t h least rs there all.1

greatest_below : (f s t h greatest : ℕ) (rs : List Reading) → AnyByRecursion (λ (r : Reading). greatest + r.t * s ≡ raised r.h) rs → AllByRecursion (Follows f s t h) rs → greatest + t * s ≤ raised h + 1000000
greatest_below f s t h greatest [] there all = absurd there
greatest_below f s t h greatest (r ∷ rs) (inl e) all = let slow = all.0.slow in omega arith
greatest_below f s t h greatest (r ∷ rs) (inr there) all = greatest_below f s t h greatest rs there all.1

admitted : (ppm t h : ℕ) (b : Bounds) (rs : List Reading) → AreBoundsOf ppm (Some b) rs → AllByRecursion (Follows (1000000 + ppm) (1000000 - ppm) t h) rs → admits ppm (Some b) t h ≡ true
admitted ppm t h b rs are all =
    meets_tests b.last h (raised h) (b.least + t * (1000000 + ppm) + 1000000) (b.greatest + t * (1000000 - ppm)) (raised h + 1000000)
    (last_below _ _ t h b.last rs are.0.newest all) (least_above _ _ t h b.least rs are.1.one_there all) (greatest_below _ _ t h b.greatest rs are.2.one_there all)

-- ---- from the bounds to each reading

one_follows : (f s t h last least greatest : ℕ) (r : Reading) → last ≤ h → raised h ≤ least + t * f + 1000000 → greatest + t * s ≤ raised h + 1000000
    → r.h ≤ last → least + r.t * f ≤ raised r.h → raised r.h ≤ greatest + r.t * s → Follows f s t h r
one_follows f s t h last least greatest r a b c x y z = record { below = omega arith; fast = omega arith; slow = omega arith }

each_keeps : (ppm t h : ℕ) (b : Bounds) (rs : List Reading) → admits ppm (Some b) t h ≡ true
    → AllByRecursion (λ (r : Reading). r.h ≤ b.last) rs → AllByRecursion (λ (r : Reading). b.least + r.t * (1000000 + ppm) ≤ raised r.h) rs
    → AllByRecursion (λ (r : Reading). raised r.h ≤ b.greatest + r.t * (1000000 - ppm)) rs → AllByRecursion (λ (r : Reading). r.t ≤ t) rs
    → list_all (λ (r : Reading). keeps_drift ppm r.t r.h t h) rs ≡ true
each_keeps ppm t h b [] e last least greatest before = refl
each_keeps ppm t h b (r ∷ rs) e last least greatest before =
    let tests = tests_met b.last h (raised h) (b.least + t * (1000000 + ppm) + 1000000) (b.greatest + t * (1000000 - ppm)) (raised h + 1000000) e in
    and_from (keeps_drift ppm r.t r.h t h) _
    (keeps ppm t h r before.0 (one_follows _ _ t h b.last b.least b.greatest r tests.0 tests.1 tests.2 last.0 least.0 greatest.0))
    (each_keeps ppm t h b rs e last.1 least.1 greatest.1 before.1)

-- ---- the tests

-- The drift test against the bounds is the one against each reading, of any readings of which none is after t.
pub drift_by_bounds : (ppm t h : ℕ) (b : Option Bounds) (rs : List Reading) → AreBoundsOf ppm b rs → AllByRecursion (λ (r : Reading). r.t ≤ t) rs
    → list_all (λ (r : Reading). keeps_drift ppm r.t r.h t h) rs ≡ admits ppm b t h
drift_by_bounds ppm t h None rs none before = rw none refl
drift_by_bounds ppm t h (Some b) rs are before =
    both_ways _ _
    (λ all. admitted ppm t h b rs are (all_of (λ r. keeps_drift ppm r.t r.h t h) (λ r. r.t ≤ t) (Follows (1000000 + ppm) (1000000 - ppm) t h) (follows ppm t h) rs before all))
    (λ e. each_keeps ppm t h b rs e are.0.none_above are.1.none_below are.2.none_above before)

above_newest : (last h : ℕ) (rs : List Reading) → newest_of rs ≡ Some last → list_all (λ (r : Reading). nat_lt r.h h) rs ≡ true → nat_lt last h ≡ true
above_newest last h [] e all = absurd (cc)
above_newest last h (r ∷ rs) e all = let same : r.h ≡ last = cc in rw same at (and_parts (nat_lt r.h h) _ all).0

above_all : (last h : ℕ) (rs : List Reading) → AllByRecursion (λ (r : Reading). r.h ≤ last) rs → nat_lt last h ≡ true → list_all (λ (r : Reading). nat_lt r.h h) rs ≡ true
above_all last h [] below e = refl
above_all last h (r ∷ rs) below e = and_from (nat_lt r.h h) _ (one r.h below.0) (above_all last h rs below.1 e)
  where
    one : (k : ℕ) → k ≤ last → nat_lt k h ≡ true
    one k le = grind (arith, nat_tests)

-- what is above the last reading is above each
pub above_by_bounds : (ppm h : ℕ) (b : Option Bounds) (rs : List Reading) → AreBoundsOf ppm b rs → list_all (λ (r : Reading). nat_lt r.h h) rs ≡ is_above b h
above_by_bounds ppm h None rs none = rw none refl
above_by_bounds ppm h (Some b) rs are = both_ways _ _ (above_newest b.last h rs are.0.newest) (above_all b.last h rs are.0.none_above)

-- ---- one reading more

all_over : (f a b : ℕ) → b ≤ a → (rs : List Reading) → AllByRecursion (λ (r : Reading). a + r.t * f ≤ raised r.h) rs → AllByRecursion (λ (r : Reading). b + r.t * f ≤ raised r.h) rs
all_over f a b le [] all = tt
all_over f a b le (r ∷ rs) all = (let x = all.0 in omega arith, all_over f a b le rs all.1)

all_under : (s a b : ℕ) → a ≤ b → (rs : List Reading) → AllByRecursion (λ (r : Reading). raised r.h ≤ a + r.t * s) rs → AllByRecursion (λ (r : Reading). raised r.h ≤ b + r.t * s) rs
all_under s a b le [] all = tt
all_under s a b le (r ∷ rs) all = (let x = all.0 in omega arith, all_under s a b le rs all.1)

least_added : (ppm a b : ℕ) (r : Reading) (rs : List Reading) → IsLeast ppm a rs → b + r.t * (1000000 + ppm) ≡ raised r.h → IsLeast ppm (min a b) (r ∷ rs)
least_added ppm a b r rs k e = go (cases_lt a b)
  where
    go : (a < b) ⊎ (b ≤ a) → IsLeast ppm (min a b) (r ∷ rs)
    go (inl le) = let m : min a b ≡ a = omega arith in rw m (record { none_below = (omega arith, k.none_below); one_there = inr k.one_there })
    go (inr le) = let m : min a b ≡ b = omega arith in rw m (record { none_below = (omega arith, all_over (1000000 + ppm) a b le rs k.none_below); one_there = inl e })

greatest_added : (ppm a b : ℕ) (r : Reading) (rs : List Reading) → IsGreatest ppm a rs → b + r.t * (1000000 - ppm) ≡ raised r.h → IsGreatest ppm (max a b) (r ∷ rs)
greatest_added ppm a b r rs k e = go (cases_lt a b)
  where
    go : (a < b) ⊎ (b ≤ a) → IsGreatest ppm (max a b) (r ∷ rs)
    go (inl le) = let m : max a b ≡ b = omega arith in rw m (record { none_above = (omega arith, all_under (1000000 - ppm) a b (omega arith) rs k.none_above); one_there = inl e })
    go (inr le) = let m : max a b ≡ a = omega arith in rw m (record { none_above = (omega arith, k.none_above); one_there = inr k.one_there })

pub bounds_added : (ppm : ℕ) (before : Option Bounds) (b : Bounds) (r : Reading) (rs : List Reading) → b.last ≡ r.h → b.least + r.t * (1000000 + ppm) ≡ raised r.h → b.greatest + r.t * (1000000 - ppm) ≡ raised r.h
    → AllByRecursion (λ (q : Reading). q.h ≤ r.h) rs → AreBoundsOf ppm before rs → AreBoundsOf ppm (Some (widened before b)) (r ∷ rs)
bounds_added ppm None b r rs last least greatest below none =
    rw none (
      record { newest = ap Some (sym last); none_above = (omega arith, tt) },
      record { none_below = (omega arith, tt); one_there = inl least },
      record { none_above = (omega arith, tt); one_there = inl greatest },
    )
bounds_added ppm (Some a) b r rs last least greatest below are = (
  record { newest = ap Some (sym last); none_above = (omega arith, subst (λ (k : ℕ). AllByRecursion (λ (q : Reading). q.h ≤ k) rs) (sym last) below) },
  least_added ppm a.least b.least r rs are.1 least,
  greatest_added ppm a.greatest b.greatest r rs are.2 greatest,
)
