-- The calls of a clock in terms of what it keeps.
use Rattle.std.proofs.Common.{◌≡◌, ℕ, ◌+◌, ◌-◌, ◌*◌, ◌/◌, ◌^◌, ◌≤◌, ◌∷◌, refl, sym, ◌∙◌, arith, true, Some, None}
use Rattle.tw_num.specs.declared.interval.Interval.{Interval}
use Rattle.tw_num.specs.declared.interval.Disjoint.{Disjoint}
use Rattle.tw_num.specs.Interval.{aged}
use Rattle.tw_num.specs.Clock.{Clock, IsNotBefore, shared_at, clash, refusal, after_given, interval_at, unless_disjoint, is_narrow, at_least, reading_at, after_read}
use Rattle.clock_sync.specs.declared.keys.Keys.{Keys}
use Rattle.clock_sync.specs.Keys.{interval_of, narrowed}
use Rattle.clock_sync.specs.KeptClock.{KeptClock}
use Rattle.clock_sync.specs.StandsFor.{AreKeysOf, StandsFor}
use Rattle.clock_sync.proofs.Shared.{same_interval}
use Rattle.clock_sync.proofs.Added.{keys_added, share_added, why_refused}

pub interval_kept : (p eps h : ℕ) (v : KeptClock) (c : Clock) → v.ppm ≤ 1000 → StandsFor p eps v c → IsNotBefore h c → unless_disjoint v.disjoint (interval_of v.ppm h v.keys) ≡ interval_at p h c
interval_kept p eps h v c small s before = rw (s.same_ppm, s.disjoint, same_interval p h v.keys c (omega arith) s.keys s.unrefused before) refl

pub refusal_kept : (p eps h : ℕ) (i : Interval) (v : KeptClock) (c : Clock) → v.ppm ≤ 1000 → v.disjoint ≡ None → StandsFor p eps v c → IsNotBefore h c → refusal p h i c ≡ clash (interval_of v.ppm h v.keys) (aged i 0 v.ppm)
refusal_kept p eps h i v c small none s before = rw s.same_ppm (why_refused p h i v.keys c (omega arith) (cc) s.keys s.unrefused before)

after_refused : (p h : ℕ) (i : Interval) (c : Clock) (d : Disjoint) → refusal p h i c ≡ Some d → after_given p h i c ≡ record c { disjoint = Some d }
after_refused p h i c d e = rw e refl

after_accepted : (p h : ℕ) (i : Interval) (c : Clock) → refusal p h i c ≡ None → after_given p h i c ≡ record c { given = record { h = h; interval = i } ∷ c.given }
after_accepted p h i c e = rw e refl

pub refused_kept : (p eps h : ℕ) (i : Interval) (v : KeptClock) (c : Clock) (d : Disjoint) → v.ppm ≤ 1000 → v.disjoint ≡ None → StandsFor p eps v c → IsNotBefore h c → clash (interval_of v.ppm h v.keys) (aged i 0 v.ppm) ≡ Some d → StandsFor p eps (record v { disjoint = Some d }) (after_given p h i c)
refused_kept p eps h i v c d small none s before e =
    rw (after_refused p h i c d (refusal_kept p eps h i v c small none s before ∙ e))
    (record { same_ppm = s.same_ppm; same_eps = s.same_eps; keys = s.keys; unrefused = s.unrefused; greatest = s.greatest; disjoint = refl })

pub accepted_kept : (p eps h : ℕ) (i : Interval) (v : KeptClock) (c : Clock) (k : Keys) → v.ppm ≤ 1000 → v.disjoint ≡ None → i.lo ≤ i.hi → k.low + h * 1000000 ≡ i.lo * (1000000 + v.ppm) + 2 ^ 60 * 1000000 → k.high + h * 1000000 ≡ i.hi * (1000000 - v.ppm) + 2 ^ 60 * 1000000 → StandsFor p eps v c → IsNotBefore h c → clash (interval_of v.ppm h v.keys) (aged i 0 v.ppm) ≡ None → StandsFor p eps (record v { keys = Some (narrowed v.keys k) }) (after_given p h i c)
accepted_kept p eps h i v c k small none le l u s before e =
    let clear : refusal p h i c ≡ None = refusal_kept p eps h i v c small none s before ∙ e in
    let keys : AreKeysOf p (Some (narrowed v.keys k)) (record { h = h; interval = i } ∷ c.given) = keys_added p v.keys k (record { h = h; interval = i }) c.given s.keys (rw s.same_ppm at (sym l)) (rw s.same_ppm at (sym u)) in
    let apart : clash (shared_at p h c.given) (aged i 0 p) ≡ None = rw (← same_interval p h v.keys c (rw s.same_ppm at small) s.keys s.unrefused before) (rw s.same_ppm at e) in
    rw (after_accepted p h i c clear)
    (record { same_ppm = s.same_ppm; same_eps = s.same_eps; keys = keys; unrefused = share_added p h i (narrowed v.keys k) c (rw s.same_ppm at small) le before keys apart; greatest = s.greatest; disjoint = s.disjoint })

pub reading_kept : (p eps h : ℕ) (i : Interval) (v : KeptClock) (c : Clock) → StandsFor p eps v c → interval_at p h c ≡ Some i → is_narrow v.eps i ≡ true → Some (at_least v.greatest ((i.lo + i.hi) / 2)) ≡ reading_at p eps h c
reading_kept p eps h i v c s at narrow = rw (at, ← s.same_eps, narrow, ← s.greatest) refl

pub read_kept : (p eps h t : ℕ) (v : KeptClock) (c : Clock) → StandsFor p eps v c → Some t ≡ reading_at p eps h c → StandsFor p eps (record v { greatest = Some t }) (after_read p eps h c)
read_kept p eps h t v c s e =
    rw (← e)
    (record { same_ppm = s.same_ppm; same_eps = s.same_eps; keys = s.keys; unrefused = s.unrefused; greatest = refl; disjoint = s.disjoint })
