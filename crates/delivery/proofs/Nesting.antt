-- Which atomicities are fulfilled where others are, and what early deliveries stand behind.
use Rattle.std.proofs.Common.{◌≡◌, ◌≢◌, refl, sym, subst, ◌∙◌, ap, ℕ, suc, ◌+◌, ◌-◌, ◌/◌, ◌≤◌, ◌<◌, nat_le, nat_lt, Bool, true, false, cond, List, [], ◌∷◌, length, count_by, Option, Some, None, arith}
use Rattle.std.specs.Prelude.{IfSome, ◌&&◌, ◌||◌, not, slice_get}
use Rattle.std.specs.List.{list_all, AllByRecursion}
use Rattle.std.proofs.lemmas.Bool.Decides.{nat_tests}
use Rattle.std.proofs.lemmas.List.Sums.{sum_by-cons}
use Rattle.std.proofs.lemmas.Option.{slice_get-get_or}
use Rattle.tw_types.specs.declared.team.Team.{Team}
use Rattle.tw_types.specs.declared.message.Atom.{Atom}
use Rattle.tw_types.specs.declared.message.Atom.TheVariants.{Weak, Strong, Strict}
use Rattle.tw_types.specs.declared.message.Kept.{Kept}
use Rattle.tw_types.specs.declared.message.Support.{Support}
use Rattle.tw_types.specs.declared.message.Seat.{Seat}
use Rattle.tw_types.specs.declared.message.Decision.{Decision}
use Rattle.tw_types.specs.Beliefs.{Log, log_length}
use Rattle.tw_types.specs.Decisions.{decision_length}
use Rattle.tw_types.specs.Ranges.{DecisionFits}
use Rattle.tw_types.specs.Updates.{is_unordered}
use Rattle.tw_types.specs.Logs.{log_at}
use Rattle.tw_types.specs.Deliveries.{reaches, fulfils, passes_at, may_pass, run_passed, early_at}
use Rattle.tw_types.proofs.Delivered.{at_within, run_shape, may_some}
use Rattle.delivery.specs.Behind.{WaitsForStrict, EarlyBehindStrict}

-- ---- lower positions

reaches_lower : (i j : ℕ) (s : Option Support) → j ≤ i → reaches i s ≡ true → reaches j s ≡ true
reaches_lower i j None l e = e
reaches_lower i j (Some s) l e = let m : i < s.ack = search (arith, nat_tests) in search (arith, nat_tests, m, l)

counted : (p : Seat → Bool) (s : Seat) (seats : List Seat) → count_by p (s ∷ seats) ≡ cond (p s) 1 0 + count_by p seats
counted p s seats = sum_by-cons (λ (x : Seat). cond (p x) 1 0) s seats

count_more : (p q : Seat → Bool) (seats : List Seat) → ((s : Seat) → p s ≡ true → q s ≡ true) → count_by p seats ≤ count_by q seats
count_more p q [] h = omega arith
count_more p q (s ∷ seats) h =
    let more = go (p s) (q s) refl refl (count_more p q seats h) in
    let left = counted p s seats in
    let right = counted q s seats in
    omega (arith, more, left, right)
  where
    go : (a b : Bool) → p s ≡ a → q s ≡ b → count_by p seats ≤ count_by q seats → cond (p s) 1 0 + count_by p seats ≤ cond (q s) 1 0 + count_by q seats
    go true true e f more = rw (e, f) (omega (arith, more))
    go true false e f more = absurd (cc (h s e, f))
    go false true e f more = rw (e, f) (omega (arith, more))
    go false false e f more = rw (e, f) (omega (arith, more))

all_more : (p q : Seat → Bool) (seats : List Seat) → ((s : Seat) → p s ≡ true → q s ≡ true) → list_all p seats ≡ true → list_all q seats ≡ true
all_more p q [] h e = refl
all_more p q (s ∷ seats) h e = go (p s) refl e (all_more p q seats h)
  where
    go : (a : Bool) → p s ≡ a → (a && list_all p seats) ≡ true → (list_all p seats ≡ true → list_all q seats ≡ true) → (q s && list_all q seats) ≡ true
    go true f e more = let first = h s f in rw first (more e)
    go false f e more = absurd (cc)

pub fulfils_lower : (team : Team) (d : Decision) (atom : Atom) (i j : ℕ) → j ≤ i → fulfils team d i atom ≡ true → fulfils team d j atom ≡ true
fulfils_lower team d Weak i j l e = let m : i < decision_length d = search (arith, nat_tests) in search (arith, nat_tests, m, l)
fulfils_lower team d Strong i j l e =
    let many : team.n / 2 + 1 ≤ count_by (λ (s : Seat). reaches i s.support) d.seats.items = search (arith, nat_tests) in
    let more = count_more (λ (s : Seat). reaches i s.support) (λ (s : Seat). reaches j s.support) d.seats.items (λ s. reaches_lower i j s.support l) in
    search (arith, nat_tests, many, more)
fulfils_lower team d Strict i j l e = all_more (λ (s : Seat). reaches i s.support) (λ (s : Seat). reaches j s.support) d.seats.items (λ s. reaches_lower i j s.support l) e

-- ---- weaker atomicities

count_all : (p : Seat → Bool) (seats : List Seat) → list_all p seats ≡ true → count_by p seats ≡ length seats
count_all p [] e = refl
count_all p (s ∷ seats) e = counted p s seats ∙ go (p s) refl e (count_all p seats)
  where
    go : (a : Bool) → p s ≡ a → (a && list_all p seats) ≡ true → (list_all p seats ≡ true → count_by p seats ≡ length seats) → cond (p s) 1 0 + count_by p seats ≡ suc (length seats)
    go true f e more = ap (λ b. cond b 1 0 + count_by p seats) f ∙ (let m = more e in omega (arith, m))
    go false f e more = absurd (cc)

pub strict_is_strong : (team : Team) (d : Decision) (i : ℕ) → DecisionFits team.n d → fulfils team d i Strict ≡ true → fulfils team d i Strong ≡ true
strict_is_strong team d i fits e =
    let all = count_all (λ (s : Seat). reaches i s.support) d.seats.items e in
    let majority = fits.majority in
    search (arith, nat_tests, all, majority)

-- where someone reaches beyond a position, and no one beyond the end, the position is below the end
some_reach : (i end : ℕ) (seats : List Seat) → AllByRecursion (λ (s : Seat). IfSome s.support (λ support. support.ack ≤ end)) seats → 1 ≤ count_by (λ (s : Seat). reaches i s.support) seats → i < end
some_reach i end [] all some = absurd (omega (arith, some))
some_reach i end (s ∷ seats) all some =
    let sum = counted (λ (s : Seat). reaches i s.support) s seats in
    go s.support all.0 (omega (arith, some, sum)) (some_reach i end seats all.1)
  where
    go : (support : Option Support) → IfSome support (λ support. support.ack ≤ end) → 1 ≤ cond (reaches i support) 1 0 + count_by (λ (s : Seat). reaches i s.support) seats → (1 ≤ count_by (λ (s : Seat). reaches i s.support) seats → i < end) → i < end
    go None h some more = more (omega (arith, some))
    go (Some support) h some more = by (nat_lt i support.ack) refl some
      where
        by : (b : Bool) → nat_lt i support.ack ≡ b → 1 ≤ cond b 1 0 + count_by (λ (s : Seat). reaches i s.support) seats → i < end
        by true e some = let l : i < support.ack = search (arith, nat_tests) in omega (arith, l, h)
        by false e some = more (omega (arith, some))

pub strong_is_weak : (team : Team) (d : Decision) (i : ℕ) → DecisionFits team.n d → fulfils team d i Strong ≡ true → fulfils team d i Weak ≡ true
strong_is_weak team d i fits e =
    let many : team.n / 2 + 1 ≤ count_by (λ (s : Seat). reaches i s.support) d.seats.items = search (arith, nat_tests) in
    let below : i < decision_length d = some_reach i (decision_length d) d.seats.items fits.acks (omega (arith, many)) in
    search (arith, nat_tests, below)

-- ---- early deliveries

-- what is fulfilled at a position and at a lower one
strict_below : (team : Team) (d : Decision) (i j : ℕ) (atom : Atom) → DecisionFits team.n d → j ≤ i → fulfils team d i Strict ≡ true → fulfils team d j atom ≡ true
strict_below team d i j Weak fits l e = fulfils_lower team d Weak i j l (strong_is_weak team d i fits (strict_is_strong team d i fits e))
strict_below team d i j Strong fits l e = fulfils_lower team d Strong i j l (strict_is_strong team d i fits e)
strict_below team d i j Strict fits l e = fulfils_lower team d Strict i j l e

strong_below : (team : Team) (d : Decision) (i j : ℕ) (atom : Atom) → DecisionFits team.n d → j ≤ i → fulfils team d i Strong ≡ true → fulfils team d j atom ≡ false → atom ≡ Strict
strong_below team d i j Weak fits l e f = absurd (cc (f, fulfils_lower team d Weak i j l (strong_is_weak team d i fits e)))
strong_below team d i j Strong fits l e f = absurd (cc (f, fulfils_lower team d Strong i j l e))
strong_below team d i j Strict fits l e f = refl

-- a log has an entry at each position from its base to its end
entry_there : (log : Log) (j : ℕ) (k : Kept) → log.base ≤ j → j < log_length log → (w : Kept) × (log_at j log ≡ Some w)
entry_there log j k low high =
    let t : nat_le log.base j ≡ true = search (arith, nat_tests) in
    (_, ap (λ b. cond b (slice_get log.entries (j - log.base)) None) t ∙ slice_get-get_or log.entries (j - log.base) k (omega (arith, low, high)))

-- the update at the cursor that doesn't pass
record Waits (team : Team) (d : Decision) (log : Log) (w : Kept) : Type 0 where
  there : log_at log.passed log ≡ Some w
  unfulfilled : fulfils team d log.passed w.entry.atom ≡ false

waiting : (team : Team) (d : Decision) (log : Log) (i : ℕ) (k : Kept) → may_pass team d log log.passed ≡ false → log.base ≤ log.passed → log.passed ≤ i → log_at i log ≡ Some k → (w : Kept) × Waits team d log w
waiting team d log i k stops base low is =
    let within = (at_within i log k is).1 in
    let w = entry_there log log.passed k base (omega (arith, low, within)) in
    let no : passes_at team d log.passed w.0 ≡ false = sym (may_some (passes_at team d log.passed) (log_at log.passed log) w.0 w.1) ∙ stops in
    (w.0, record { there = w.1; unfulfilled = neither w.0.entry.late (fulfils team d log.passed w.0.entry.atom) no })
  where
    neither : (a b : Bool) → (a || b) ≡ false → b ≡ false
    neither true b e = absurd (cc)
    neither false b e = e

early_fulfils : (team : Team) (d : Decision) (i : ℕ) (k : Kept) → early_at team d i k ≡ true → fulfils team d i k.entry.atom ≡ true
early_fulfils team d i k e = go (is_unordered k.entry.order) (not k.early) e
  where
    go : (a b : Bool) → (a && b && fulfils team d i k.entry.atom) ≡ true → fulfils team d i k.entry.atom ≡ true
    go true true e = e
    go true false e = absurd (cc)
    go false b e = absurd (cc)

behind : (team : Team) (d : Decision) (log : Log) → DecisionFits team.n d → may_pass team d log log.passed ≡ false → log.base ≤ log.passed → EarlyBehindStrict team d log
behind team d log fits stops base i k low is e = (not_strict, strong)
  where
    w : (w : Kept) × Waits team d log w
    w = waiting team d log i k stops base low is

    fulfilled : fulfils team d i k.entry.atom ≡ true
    fulfilled = early_fulfils team d i k e

    not_strict : k.entry.atom ≢ Strict
    not_strict s = cc (w.1.unfulfilled, strict_below team d i log.passed w.0.entry.atom fits low (subst (λ (a : Atom). fulfils team d i a ≡ true) s fulfilled))

    strong : k.entry.atom ≡ Strong → WaitsForStrict team d log i
    strong s =
        let strict = strong_below team d i log.passed w.0.entry.atom fits low (subst (λ (a : Atom). fulfils team d i a ≡ true) s fulfilled) w.1.unfulfilled in
        record { before = before strict (nat_lt log.passed i) refl; waits = stops; update = w.0; there = w.1.there; strict = strict }
      where
        before : w.0.entry.atom ≡ Strict → (b : Bool) → nat_lt log.passed i ≡ b → log.passed < i
        before strict true t = search (arith, nat_tests)
        before strict false t =
            let same : i ≡ log.passed = (let l : i ≤ log.passed = search (arith, nat_tests) in omega (arith, l, low)) in
            let one : log_at log.passed log ≡ Some k = subst (λ x. log_at x log ≡ Some k) same is in
            let here : k ≡ w.0 = cc (one, w.1.there) in
            absurd (not_strict (ap (λ (x : Kept). x.entry.atom) here ∙ strict))

pub early_behind : (team : Team) (d : Decision) (log : Log) → DecisionFits team.n d → log.base ≤ log.passed → EarlyBehindStrict team d (run_passed team d log)
unfolding run_passed
early_behind team d log fits base = behind team d (run_passed team d log) fits (run_shape team d log).ends (omega (arith, base))
