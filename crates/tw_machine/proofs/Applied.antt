-- What is applied as positions are passed, and that nothing else applies anything.
use Rattle.std.proofs.Common.{◌≡◌, refl, sym, ap, ◌∙◌, ℕ, zero, suc, ◌+◌, ◌-◌, ◌≤◌, ◌<◌, Bool, true, false, cond, List, [], ◌∷◌, ◌++◌, append-nil, length-append, map, filter, take, Option, Some, None, slice_get, arith}
use Rattle.std.specs.Prelude.{nat_le, slice_set}
use Rattle.std.specs.List.{filter_map}
use Rattle.std.proofs.lemmas.List.{append_assoc, map-append, take-append-le}
use Rattle.std.proofs.Math.ListN.{length-set}
use Rattle.std.proofs.lemmas.Option.{same_Some}
use Rattle.std.proofs.lemmas.List.Elements.{filter-append}
use Rattle.tw_machine.specs.Types.{Decision, Kept, How, Pass, Team}
use Rattle.tw_types.specs.Beliefs.{Log, log_length}
use Rattle.tw_types.specs.Decisions.{or_none}
use Rattle.tw_types.specs.Deliveries.{passes, run_passed, next_pass, PassStep, as_early, early_positions, marked_each, earlies_marked, delivered_by, deliveries}
use Rattle.tw_types.specs.Flag.{is_up}
use Rattle.tw_types.specs.Logs.{log_at, passed_one, log_after, marked_at, entry_joined, needed}
use Rattle.tw_types.proofs.Delivered.{at_within, pass_step, run_shape}
use Rattle.tw_machine.specs.Applied.{is_applied, payloads_in, payloads_applied}
use Rattle.tw_machine.specs.Delivering.{all_delivered, deliver}
use Rattle.tw_machine.specs.Run.{Run}
use Rattle.tw_machine.specs.Standing.{last_decision}

payloads_joined : (xs ys : List Kept) → payloads_in (xs ++ ys) ≡ payloads_in xs ++ payloads_in ys
payloads_joined xs ys = ap (map (λ (k : Kept). k.payload.items)) (filter-append is_applied xs ys) ∙ map-append (λ (k : Kept). k.payload.items) (filter is_applied xs) (filter is_applied ys)

-- one item more of a list
one_taken : (xs : List Kept) (n : ℕ) (k : Kept) → slice_get xs n ≡ Some k → take (suc n) xs ≡ take n xs ++ k ∷ []
one_taken [] n k is = absurd (cc)
one_taken (x ∷ xs) zero k is = cc
one_taken (x ∷ xs) (suc n) k is = ap (λ ys. x ∷ ys) (one_taken xs n k is)

-- the entry at a position, by its place in the log
at_place : (i : ℕ) (log : Log) (k : Kept) → log_at i log ≡ Some k → slice_get log.entries (i - log.base) ≡ Some k
at_place i log k is = go (nat_le log.base i) is
  where
    go : (t : Bool) → cond t (slice_get log.entries (i - log.base)) None ≡ Some k → slice_get log.entries (i - log.base) ≡ Some k
    go true is = is
    go false is = absurd (cc)

-- As the position at the cursor is passed its payload is applied behind the others, if it is one that is applied.
pub one_passed : (log : Log) (k : Kept) → log_at log.passed log ≡ Some k → payloads_applied (passed_one log) ≡ payloads_applied log ++ payloads_in (k ∷ [])
one_passed log k is =
    let low = (at_within log.passed log k is).0 in
    let more : log.passed + 1 - log.base ≡ suc (log.passed - log.base) = omega (arith, low) in
    ap (λ n. payloads_in (take n log.entries)) more
    ∙ ap payloads_in (one_taken log.entries (log.passed - log.base) k (at_place log.passed log k is))
    ∙ payloads_joined (take (log.passed - log.base) log.entries) (k ∷ [])

-- Entries that are put behind the end are not applied.
pub grown_same : (payloads : List Kept) (d : Decision) (log : Log) → log.passed ≤ log_length log → payloads_applied (log_after payloads d log) ≡ payloads_applied log
grown_same payloads d log within =
    ap payloads_in (take-append-le (log.passed - log.base) log.entries (filter_map (entry_joined payloads) (needed log d)) (omega (arith, within)))

-- A list that goes on without passes: nothing is applied, and no more of it is passed than there is.
pub record Grows (a b : Log) : Type 0 where
  pub same : a.passed ≤ log_length a → payloads_applied b ≡ payloads_applied a
  pub within : a.passed ≤ log_length a → b.passed ≤ log_length b

pub unchanged : (log : Log) → Grows log log
unchanged log = record { same = λ h. refl; within = λ h. h }

pub decision_grows : (payloads : List Kept) (d : Decision) (log : Log) → Grows log (log_after payloads d log)
decision_grows payloads d log = record {
  same = grown_same payloads d log;
  within = λ h. let more = length-append log.entries (filter_map (entry_joined payloads) (needed log d)) in omega (arith, h, more);
}

pub grows_both : (a b c : Log) → Grows a b → Grows b c → Grows a c
grows_both a b c first next = record { same = λ h. next.same (first.within h) ∙ first.same h; within = λ h. next.within (first.within h) }

-- ---- marks of early deliveries

early_same : (k : Kept) → payloads_in (as_early k ∷ []) ≡ payloads_in (k ∷ [])
early_same k = go (is_applied k)
  where
    payloads : List Kept → List (List ℕ)
    payloads ks = map (λ (x : Kept). x.payload.items) ks

    go : (b : Bool) → payloads (cond b (as_early k ∷ []) []) ≡ payloads (cond b (k ∷ []) [])
    go true = refl
    go false = refl

mark_same : (xs : List Kept) (n i : ℕ) (k : Kept) → slice_get xs i ≡ Some k → payloads_in (take n (slice_set xs i (as_early k))) ≡ payloads_in (take n xs)
mark_same [] n i k is = refl
mark_same (x ∷ xs) zero zero k is = refl
mark_same (x ∷ xs) zero (suc i) k is = refl
mark_same (x ∷ xs) (suc n) zero k is =
    let same : x ≡ k = same_Some x k is in
    payloads_joined (as_early k ∷ []) (take n xs)
    ∙ ap (λ ps. ps ++ payloads_in (take n xs)) (early_same k)
    ∙ ap (λ y. payloads_in (y ∷ []) ++ payloads_in (take n xs)) (sym same)
    ∙ sym (payloads_joined (x ∷ []) (take n xs))
mark_same (x ∷ xs) (suc n) (suc i) k is =
    payloads_joined (x ∷ []) (take n (slice_set xs i (as_early k))) ∙ ap (λ ps. payloads_in (x ∷ []) ++ ps) (mark_same xs n i k is) ∙ sym (payloads_joined (x ∷ []) (take n xs))

-- A mark applies nothing.
pub marked_same : (i : ℕ) (log : Log) → payloads_applied (marked_at i log) ≡ payloads_applied log
marked_same i log = go (log_at i log) refl
  where
    go : (o : Option Kept) → log_at i log ≡ o → payloads_applied (marked_at i log) ≡ payloads_applied log
    go None is = rw is refl
    go (Some k) is = rw is (mark_same log.entries (log.passed - log.base) (i - log.base) k (at_place i log k is))

each_marked_same : (positions : List ℕ) (log : Log) → payloads_applied (marked_each positions log) ≡ payloads_applied log
each_marked_same [] log = refl
each_marked_same (i ∷ positions) log = each_marked_same positions (marked_at i log) ∙ marked_same i log

-- and passes nothing
mark_within : (i : ℕ) (log : Log) → ((marked_at i log).passed ≡ log.passed) × (log_length (marked_at i log) ≡ log_length log)
mark_within i log = go (log_at i log) refl
  where
    go : (o : Option Kept) → log_at i log ≡ o → ((marked_at i log).passed ≡ log.passed) × (log_length (marked_at i log) ≡ log_length log)
    go None is = rw is (refl, refl)
    go (Some k) is = rw is (refl, ap (λ n. log.base + n) (length-set log.entries (i - log.base) (as_early k)))

each_mark_within : (positions : List ℕ) (log : Log) → log.passed ≤ log_length log → (marked_each positions log).passed ≤ log_length (marked_each positions log)
each_mark_within [] log h = h
each_mark_within (i ∷ positions) log h = let one = mark_within i log in each_mark_within positions (marked_at i log) (rw (one.0, one.1) h)

marks_within : (team : Team) (d : Decision) (first : ℕ) (log : Log) → log.passed ≤ log_length log → (earlies_marked team d first log).passed ≤ log_length (earlies_marked team d first log)
unfolding earlies_marked
marks_within team d first log h = each_mark_within (early_positions team d first log) log h

marks_same : (team : Team) (d : Decision) (first : ℕ) (log : Log) → payloads_applied (earlies_marked team d first log) ≡ payloads_applied log
unfolding earlies_marked
marks_same team d first log = each_marked_same (early_positions team d first log) log

-- ---- the passes of a step

-- the updates of some passes
abbrev pub updates_of : List Pass → List Kept
updates_of ps = map (λ (p : Pass). p.kept) ps

-- what is applied by a run is what its passes tell
abbrev Applies : Team → Decision → Log → Type 0
Applies team d log = payloads_applied (run_passed team d log) ≡ payloads_applied log ++ payloads_in (updates_of (passes team d log))

one_more : (team : Team) (d : Decision) (log : Log) (o : Option How) → PassStep team d log o → (log.passed < log_length log → Applies team d (passed_one log)) → Applies team d log
one_more team d log None none rest =
    ap payloads_applied none.1 ∙ sym (append-nil (payloads_applied log)) ∙ ap (λ ps. payloads_applied log ++ payloads_in (updates_of ps)) (sym none.0)
one_more team d log (Some how) first rest =
    ap payloads_applied first.goes_on
    ∙ rest (at_within log.passed log first.update first.there).1
    ∙ ap (λ ps. ps ++ others) (one_passed log first.update first.there)
    ∙ append_assoc (payloads_applied log) (payloads_in (first.update ∷ [])) others
    ∙ ap (λ ps. payloads_applied log ++ ps) (sym (payloads_joined (first.update ∷ []) (updates_of (passes team d (passed_one log)))))
    ∙ ap (λ ps. payloads_applied log ++ payloads_in (updates_of ps)) (sym first.begins)
  where
    others : List (List ℕ)
    others = payloads_in (updates_of (passes team d (passed_one log)))

run_applies : (n : ℕ) (team : Team) (d : Decision) (log : Log) → log_length log - log.passed ≤ n → Applies team d log
run_applies zero team d log few = one_more team d log (next_pass team d log) (pass_step team d log) (λ less. absurd (omega (arith, less, few)))
run_applies (suc n) team d log few = one_more team d log (next_pass team d log) (pass_step team d log) (λ less. run_applies n team d (passed_one log) (omega (arith, less, few)))

-- Who delivers applies the payloads of what it passes, in order, and no others.
pub deliver_applies : (team : Team) (t : ℕ) (r : Run) → payloads_applied (deliver team t r).process.log ≡ payloads_applied r.process.log ++ payloads_in (updates_of (deliveries team (Some t) r.process).passes)
deliver_applies team t r = go (is_up team r.process.vote r.process.belief (Some t))
  where
    last : Decision
    last = or_none (last_decision r.process)

    log : Log
    log = r.process.log

    passed : Log
    passed = run_passed team last log

    all : payloads_applied (all_delivered team last r).process.log ≡ payloads_applied log ++ payloads_in (updates_of (passes team last log))
    all = marks_same team last passed.passed passed ∙ run_applies (log_length log - log.passed) team last log (omega arith)

    go : (up : Bool) → payloads_applied (cond up (all_delivered team last r) r).process.log
        ≡ payloads_applied log ++ payloads_in (updates_of (cond up (delivered_by team last log r.process.waiting.pending) (record { passes = []; earlies = []; weaks = [] })).passes)
    go true = all
    go false = sym (append-nil (payloads_applied log))

run_within : (team : Team) (d : Decision) (log : Log) → log.passed ≤ log_length log → (run_passed team d log).passed ≤ log_length (run_passed team d log)
unfolding run_passed
run_within team d log h = let fits = (run_shape team d log).within in omega (arith, h, fits)

-- It passes no more than there is.
pub deliver_within : (team : Team) (t : ℕ) (r : Run) → r.process.log.passed ≤ log_length r.process.log → (deliver team t r).process.log.passed ≤ log_length (deliver team t r).process.log
deliver_within team t r h = go (is_up team r.process.vote r.process.belief (Some t))
  where
    last : Decision
    last = or_none (last_decision r.process)

    passed : Log
    passed = run_passed team last r.process.log

    go : (up : Bool) → (cond up (all_delivered team last r) r).process.log.passed ≤ log_length (cond up (all_delivered team last r) r).process.log
    go true = marks_within team last passed.passed passed (run_within team last r.process.log h)
    go false = h
