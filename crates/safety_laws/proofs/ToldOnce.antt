-- What is told of one delivery is of updates that weren't passed yet, each told once; what is delivered has no mark.
use Rattle.std.proofs.Common.{◌≡◌, ◌≢◌, refl, sym, subst, ◌∙◌, inl, inr, ◌⊎◌, ℕ, zero, suc, ◌+◌, ◌-◌, ◌≤◌, ◌<◌, Bool, true, false, cond, List, [], ◌∷◌, ◌++◌, map, length, filter, filter_map, Option, Some, None, arith}
use Rattle.std.specs.Prelude.{◌&&◌}
use Rattle.std.specs.List.{AllByRecursion, range_with_len, cons_option}
use Rattle.std.specs.Option.{option_map, option_map_or}
use Rattle.std.proofs.lemmas.List.{append_assoc}
use Rattle.tw_machine.specs.Types.{Team, Decision, Kept, Pass}
use Rattle.tw_types.specs.declared.outputs.How.TheVariants.{Now, Earlier, Late}
use Rattle.tw_types.specs.Beliefs.{Log, log_length}
use Rattle.tw_types.specs.Deliveries.{may_pass, run, how_passed, passes, run_passed, early_at, may_go_early, as_early, weaks}
use Rattle.tw_types.specs.Items.{In}
use Rattle.tw_types.specs.Logs.{log_at}
use Rattle.tw_types.specs.Updates.{is_same_id, is_unordered, may_be_early}
use Rattle.tw_types.proofs.Delivered.{run_shape}
use Rattle.tw_machine.specs.Delivering.{delivered_at, earlies_told, all_told}
use Rattle.tw_machine.specs.Run.{AtPass, AtEarly, AtWait, Delivered}
use Rattle.tw_machine.specs.SafeRows.{is_now}
use Rattle.safety_laws.specs.Beginnings.{unmarked}
use Rattle.safety_laws.specs.Early.{delivers}
use Rattle.safety_laws.specs.Pending.{NoneTwice}
use Rattle.safety_laws.proofs.Lists.{each_weaker, of_each}
use Rattle.safety_laws.proofs.Marked.{same_id}
use Rattle.safety_laws.proofs.OneOfEach.{HasPlaces, other_id}
use Rattle.safety_laws.proofs.PassedLists.{there_of_may, told_range, told_cons, passes_range, early_tests, waiting_tests, each_waiting}

-- ---- where it stood

-- at a position of the list, not before this one, or among what was pending
abbrev pub Stands : Log → List Kept → (from : ℕ) → Kept → Type 0
Stands log pending from k = ((i : ℕ) × (from ≤ i) × (log_at i log ≡ Some k)) ⊎ In k pending

-- An update that is told is one that stood there. If it is unordered and is delivered now it had no mark, and had one if it is passed as
-- delivered earlier.
pub record IsOf (log : Log) (pending : List Kept) (from : ℕ) (z : Delivered) : Type 0 where
  pub update : Kept
  pub stands : Stands log pending from update
  pub same : unmarked z.update ≡ unmarked update
  pub fresh : delivers z.place ≡ true → is_unordered update.entry.order ≡ true → update.early ≡ false
  pub went : (position : ℕ) → z.place ≡ AtPass position Earlier → update.early ≡ true

-- each that is told is of another update than all behind it
abbrev pub AreApart : List Delivered → Type 0
AreApart [] = Unit {0}
AreApart (z ∷ zs) = AllByRecursion (λ (later : Delivered). later.update.entry.id ≢ z.update.entry.id) zs × AreApart zs

-- what is told from this position on
pub record ToldFrom (log : Log) (pending : List Kept) (from : ℕ) (zs : List Delivered) : Type 0 where
  pub each : AllByRecursion (IsOf log pending from) zs
  pub apart : AreApart zs

-- ---- one after the other

stands_lower : (log : Log) (pending : List Kept) (from to : ℕ) (k : Kept) → from ≤ to → Stands log pending to k → Stands log pending from k
stands_lower log pending from to k low (inl at) = let high = at.1 in inl (at.0, omega (arith, low, high), at.2)
stands_lower log pending from to k low (inr i) = inr i

is_of_lower : (log : Log) (pending : List Kept) (from to : ℕ) (z : Delivered) → from ≤ to → IsOf log pending to z → IsOf log pending from z
is_of_lower log pending from to z low k = record { update = k.update; stands = stands_lower log pending from to k.update low k.stands; same = k.same; fresh = k.fresh; went = k.went }

told_lower : (log : Log) (pending : List Kept) (from to : ℕ) (zs : List Delivered) → from ≤ to → ToldFrom log pending to zs → ToldFrom log pending from zs
told_lower log pending from to zs low k = record { each = each_weaker (IsOf log pending to) (IsOf log pending from) zs (λ z. is_of_lower log pending from to z low) k.each; apart = k.apart }

-- what stands at a position is told before what stands behind that
told_before : (log : Log) (pending : List Kept) (from i : ℕ) (k : Kept) (z : Delivered) (zs : List Delivered) → HasPlaces log pending → from ≤ i → log_at i log ≡ Some k → IsOf log pending from z → z.update.entry.id ≡ k.entry.id
    → ToldFrom log pending (i + 1) zs → ToldFrom log pending from (z ∷ zs)
told_before log pending from i k z zs places low at is own rest = record {
  each = (is, (told_lower log pending from (i + 1) zs (omega (arith, low)) rest).each);
  apart = (each_weaker (IsOf log pending (i + 1)) (λ (later : Delivered). later.update.entry.id ≢ z.update.entry.id) zs other rest.each, rest.apart);
}
  where
    other : (later : Delivered) → IsOf log pending (i + 1) later → later.update.entry.id ≢ z.update.entry.id
    other later of same = go of.stands (sym (same_id of.update later.update of.same) ∙ same ∙ own)
      where
        go : Stands log pending (i + 1) of.update → of.update.entry.id ≡ k.entry.id → ⊥
        go (inl there) ids = let one = places.listed there.0 i of.update k there.2 at ids in let behind = there.1 in omega (arith, one, behind)
        go (inr waits) ids = places.apart i k of.update at waits (sym ids)

-- ---- passes

-- what is passed now isn't late, and if it is unordered it has no mark
now_fresh : (k : Kept) → is_now (how_passed k) ≡ true → is_unordered k.entry.order ≡ true → k.early ≡ false
now_fresh k now unordered = go k.entry.late (is_unordered k.entry.order) k.early now unordered
  where
    go : (late unordered early : Bool) → is_now (cond late Late (cond (unordered && early) Earlier Now)) ≡ true → unordered ≡ true → early ≡ false
    go true u e now is = absurd (cc)
    go false true true now is = absurd (cc)
    go false true false now is = refl
    go false false e now is = absurd (cc)

-- what is passed as delivered earlier has one
earlier_marked : (k : Kept) → how_passed k ≡ Earlier → k.early ≡ true
earlier_marked k is = go k.entry.late (is_unordered k.entry.order) k.early is
  where
    go : (late unordered early : Bool) → cond late Late (cond (unordered && early) Earlier Now) ≡ Earlier → early ≡ true
    go true u e is = absurd (cc)
    go false true true is = refl
    go false true false is = absurd (cc)
    go false false e is = absurd (cc)

pass_is_of : (d : Decision) (log : Log) (pending : List Kept) (i : ℕ) (k : Kept) → log_at i log ≡ Some k → IsOf log pending i (delivered_at d (AtPass i (how_passed k)) k)
pass_is_of d log pending i k at = record {
  update = k;
  stands = inl (i, omega arith, at);
  same = refl;
  fresh = λ now unordered. now_fresh k now unordered;
  went = λ position is. earlier_marked k (cc);
}

-- neighbours that may pass, and what is told behind them
passes_told : (team : Team) (d : Decision) (log : Log) (pending : List Kept) (count first : ℕ) (rest : List Delivered) → HasPlaces log pending → ((i : ℕ) → first ≤ i → i < first + count → may_pass team d log i ≡ true)
    → ToldFrom log pending (first + count) rest → ToldFrom log pending first (told_range d log first count ++ rest)
passes_told team d log pending zero first rest places may behind = told_lower log pending first (first + 0) rest (omega arith) behind
passes_told team d log pending (suc count) first rest places may behind =
    let one = there_of_may team d log first (may first (omega arith) (omega arith)) in
    let more : ToldFrom log pending (first + 1) (told_range d log (first + 1) count ++ rest) =
    passes_told team d log pending count (first + 1) rest places (λ i low high. may i (omega (arith, low)) (omega (arith, high))) (told_lower log pending (first + 1 + count) (first + suc count) rest (omega arith) behind) in
    subst (λ zs. ToldFrom log pending first (zs ++ rest)) (sym (told_cons d log first count one.0 one.1))
    (told_before log pending first first one.0 (delivered_at d (AtPass first (how_passed one.0)) one.0) (told_range d log (first + 1) count ++ rest) places (omega arith) one.1 (pass_is_of d log pending first one.0 one.1) refl more)

-- ---- early ones

early_is_of : (team : Team) (d : Decision) (log : Log) (pending : List Kept) (i : ℕ) (k : Kept) → log_at i log ≡ Some k → early_at team d i k ≡ true → IsOf log pending i (delivered_at d (AtEarly i) (as_early k))
early_is_of team d log pending i k at early = record {
  update = k;
  stands = inl (i, omega arith, at);
  same = refl;
  fresh = λ now unordered. (early_tests team d i k early).1;
  went = λ position is. absurd (cc);
}

-- so many positions that go early, or not, and what is told behind them
earlies_told_from : (team : Team) (d : Decision) (log new : Log) (pending : List Kept) (count first : ℕ) (rest : List Delivered) → HasPlaces log pending → ((i : ℕ) → log_at i new ≡ log_at i log) → ((from : ℕ) → ToldFrom log pending from rest)
    → ToldFrom log pending first (filter_map (λ (i : ℕ). option_map (λ (k : Kept). delivered_at d (AtEarly i) (as_early k)) (log_at i new)) (filter (may_go_early team d new) (range_with_len first count)) ++ rest)
earlies_told_from team d log new pending zero first rest places same behind = behind first
earlies_told_from team d log new pending (suc count) first rest places same behind = go (may_go_early team d new first) refl (earlies_told_from team d log new pending count (first + 1) rest places same behind)
  where
    told : ℕ → Option Delivered
    told i = option_map (λ (k : Kept). delivered_at d (AtEarly i) (as_early k)) (log_at i new)

    others : List ℕ
    others = filter (may_go_early team d new) (range_with_len (first + 1) count)

    by : (o : Option Kept) → log_at first new ≡ o → option_map_or (early_at team d first) o false ≡ true → (zs : List Delivered) → ToldFrom log pending (first + 1) (zs ++ rest)
        → ToldFrom log pending first (cons_option (option_map (λ (k : Kept). delivered_at d (AtEarly first) (as_early k)) o) zs ++ rest)
    by None is e zs more = absurd (cc)
    by (Some k) is e zs more =
        let at : log_at first log ≡ Some k = sym (same first) ∙ is in
        told_before log pending first first k (delivered_at d (AtEarly first) (as_early k)) (zs ++ rest) places (omega arith) at (early_is_of team d log pending first k at e) refl more

    go : (b : Bool) → may_go_early team d new first ≡ b → ToldFrom log pending (first + 1) (filter_map told others ++ rest) → ToldFrom log pending first (filter_map told (cond b (first ∷ others) others) ++ rest)
    go true e more = by (log_at first new) refl e (filter_map told others) more
    go false e more = told_lower log pending first (first + 1) (filter_map told others ++ rest) (omega arith) more

-- ---- what waits

waits_is_of : (d : Decision) (log : Log) (pending : List Kept) (from : ℕ) (k : Kept) → In k pending → may_be_early k ≡ true → IsOf log pending from (delivered_at d AtWait (as_early k))
waits_is_of d log pending from k waits early = record {
  update = k;
  stands = inr waits;
  same = refl;
  fresh = λ now unordered. (waiting_tests k early).2;
  went = λ position is. absurd (cc);
}

-- pending updates that go early have the ids of some that are pending
weak_ids : (d : Decision) (k : Kept) (xs : List Kept) → AllByRecursion (λ (other : Kept). is_same_id k.entry.id other.entry.id ≡ false) xs
    → AllByRecursion (λ (later : Delivered). later.update.entry.id ≢ k.entry.id) (map (delivered_at d AtWait) (weaks xs))
weak_ids d k xs all = each_waiting (λ (later : Delivered). later.update.entry.id ≢ k.entry.id) d xs
    (λ x i early same. other_id k.entry.id x.entry.id (of_each (λ (other : Kept). is_same_id k.entry.id other.entry.id ≡ false) xs x all i) (sym same))

waits_told_from : (d : Decision) (log : Log) (pending : List Kept) (from : ℕ) (xs : List Kept) → ((k : Kept) → In k xs → In k pending) → NoneTwice xs → ToldFrom log pending from (map (delivered_at d AtWait) (weaks xs))
waits_told_from d log pending from [] within once = record { each = tt; apart = tt }
waits_told_from d log pending from (k ∷ xs) within once = go (may_be_early k) refl (waits_told_from d log pending from xs (λ u i. within u (inr i)) once.1)
  where
    go : (b : Bool) → may_be_early k ≡ b → ToldFrom log pending from (map (delivered_at d AtWait) (weaks xs))
        → ToldFrom log pending from (map (delivered_at d AtWait) (map as_early (cond b (k ∷ filter may_be_early xs) (filter may_be_early xs))))
    go true e rest = record { each = (waits_is_of d log pending from k (within k (inl refl)) e, rest.each); apart = (weak_ids d k xs once.0, rest.apart) }
    go false e rest = rest

-- ---- all of it

-- All that is told of one delivery is of updates that stood at the cursor, behind it, or among what was pending, each told once.
pub all_told_once : (team : Team) (d : Decision) (log : Log) (pending : List Kept) → HasPlaces log pending → NoneTwice pending → ToldFrom log pending log.passed (all_told team d log pending)
unfolding run_passed
all_told_once team d log pending places once =
    let passed : List Delivered = map (λ (p : Pass). delivered_at d (AtPass p.position p.how) p.kept) (passes team d log) in
    let end : ℕ = log.passed + length (run team d log) in
    let early : List Delivered = earlies_told team d end (run_passed team d log) in
    let waiting : List Delivered = map (delivered_at d AtWait) (weaks pending) in
    subst (ToldFrom log pending log.passed) (sym (append_assoc passed early waiting))
    (subst (λ zs. ToldFrom log pending log.passed (zs ++ (early ++ waiting))) (sym (passes_range team d log))
    (passes_told team d log pending (length (run team d log)) log.passed (early ++ waiting) places (run_shape team d log).each
    (earlies_told_from team d log (run_passed team d log) pending (log_length (run_passed team d log) - end) end waiting places (λ i. refl)
    (λ from. waits_told_from d log pending from pending (λ k i. i) once))))
