-- What a process delivers leaves its list and what waits as they were, but for marks, and for what of the list is passed.
use Rattle.std.proofs.Common.{◌≡◌, refl, sym, ap, subst, ◌∙◌, ℕ, zero, suc, ◌+◌, ◌-◌, ◌≤◌, nat_le, Bool, true, false, cond, List, [], ◌∷◌, ◌++◌, map, length, Option, Some, None, arith}
use Rattle.std.specs.Prelude.{slice_get, slice_set}
use Rattle.std.specs.List.{AllByRecursion}
use Rattle.std.specs.Option.{option_map}
use Rattle.std.proofs.lemmas.List.{length-map, map-append}
use Rattle.std.proofs.lemmas.Option.{slice_get-map}
use Rattle.tw_machine.specs.Types.{Team, Decision, Kept}
use Rattle.tw_types.specs.Beliefs.{Log, log_length}
use Rattle.tw_types.specs.Deliveries.{run_passed, as_early, early_positions, marked_each, earlies_marked, weaks_marked, log_delivered, waiting_delivered}
use Rattle.tw_types.specs.Logs.{log_at, marked_at}
use Rattle.tw_types.specs.Updates.{is_same_id, may_be_early}
use Rattle.tw_types.specs.Waiting.{Waiting, held_payloads, payloads_of}
use Rattle.tw_types.proofs.Delivered.{run_shape}
use Rattle.safety_laws.specs.Beginnings.{unmarked}
use Rattle.safety_laws.specs.Pending.{NoneTwice}
use Rattle.safety_laws.proofs.Places.{mapped_at}

-- ---- lists that are the same but for marks

-- the same updates in the same order
abbrev pub Alike : List Kept → List Kept → Type 0
Alike old new = map unmarked new ≡ map unmarked old

-- what stands in a list stands there without its mark
pub without_mark : (xs : List Kept) (i : ℕ) (k : Kept) → slice_get xs i ≡ Some k → slice_get (map unmarked xs) i ≡ Some (unmarked k)
without_mark xs i k is = slice_get-map unmarked xs i ∙ ap (option_map unmarked) is

-- what holds of each, whatever its mark, holds of each of such a list
pub each_alike : (P : Kept → Type 0) → ((a b : Kept) → unmarked b ≡ unmarked a → P a → P b) → (old new : List Kept) → Alike old new → AllByRecursion P old → AllByRecursion P new
each_alike P still [] [] same all = tt
each_alike P still [] (b ∷ new) same all = absurd (cc)
each_alike P still (a ∷ old) [] same all = absurd (cc)
each_alike P still (a ∷ old) (b ∷ new) same all = (still a b (cc) all.0, each_alike P still old new (cc) all.1)

-- they have the same ids
pub same_id : (a b : Kept) → unmarked b ≡ unmarked a → b.entry.id ≡ a.entry.id
same_id a b same = ap (λ (k : Kept). k.entry.id) same

-- so none comes twice
pub once_alike : (old new : List Kept) → Alike old new → NoneTwice old → NoneTwice new
once_alike [] [] same once = tt
once_alike [] (b ∷ new) same once = absurd (cc)
once_alike (a ∷ old) [] same once = absurd (cc)
once_alike (a ∷ old) (b ∷ new) same once =
    let head : unmarked b ≡ unmarked a = cc in
    let tail : Alike old new = cc in (
      each_alike (λ (other : Kept). is_same_id b.entry.id other.entry.id ≡ false) (λ c d e not_same. ap (is_same_id b.entry.id) (same_id c d e) ∙ not_same) old new tail
          (subst (λ id. AllByRecursion (λ (other : Kept). is_same_id id other.entry.id ≡ false) old) (sym (same_id a b head)) once.0),
      once_alike old new tail once.1,
    )

-- there are as many
length_alike : (old new : List Kept) → Alike old new → length new ≡ length old
length_alike old new same = sym (length-map new unmarked) ∙ ap length same ∙ length-map old unmarked

-- ---- a list of which positions are marked

-- an update that stands there may be marked
set_alike : (entries : List Kept) (i : ℕ) (k : Kept) → slice_get entries i ≡ Some k → Alike entries (slice_set entries i (as_early k))
set_alike [] i k is = absurd (cc)
set_alike (x ∷ entries) zero k is = let same : x ≡ k = cc in ap (λ (z : Kept). unmarked z ∷ map unmarked entries) (sym same)
set_alike (x ∷ entries) (suc i) k is = ap (λ ks. unmarked x ∷ ks) (set_alike entries i k is)

-- a position of a log is one of its list
pub listed_at : (i : ℕ) (log : Log) (k : Kept) → log_at i log ≡ Some k → slice_get log.entries (i - log.base) ≡ Some k
listed_at i log k is = go (nat_le log.base i) is
  where
    go : (b : Bool) → cond b (slice_get log.entries (i - log.base)) None ≡ Some k → slice_get log.entries (i - log.base) ≡ Some k
    go true is = is
    go false is = absurd (cc)

-- in logs from one base on whose lists are the same but for marks the same update stands at each position
pub log_alike : (old new : Log) → new.base ≡ old.base → Alike old.entries new.entries → (i : ℕ) (k : Kept) → log_at i old ≡ Some k → (there : Kept) × (log_at i new ≡ Some there) × (unmarked there ≡ unmarked k)
log_alike old new base same i k is = subst (λ b. (there : Kept) × (cond (nat_le b i) (slice_get new.entries (i - b)) None ≡ Some there) × (unmarked there ≡ unmarked k)) (sym base) (go (nat_le old.base i) is)
  where
    go : (b : Bool) → cond b (slice_get old.entries (i - old.base)) None ≡ Some k → (there : Kept) × (cond b (slice_get new.entries (i - old.base)) None ≡ Some there) × (unmarked there ≡ unmarked k)
    go true is = mapped_at unmarked new.entries (i - old.base) (unmarked k) (ap (λ xs. slice_get xs (i - old.base)) same ∙ without_mark old.entries (i - old.base) k is)
    go false is = absurd (cc)

-- of a log only marks are others
pub record OnlyMarks (old new : Log) : Type 0 where
  pub base : new.base ≡ old.base
  pub passed : new.passed ≡ old.passed
  pub entries : Alike old.entries new.entries

-- where one position is marked
pub one_marked : (i : ℕ) (log : Log) → OnlyMarks log (marked_at i log)
one_marked i log = go (log_at i log) refl
  where
    go : (found : Option Kept) → log_at i log ≡ found → OnlyMarks log (marked_at i log)
    go None is = rw is (record { base = refl; passed = refl; entries = refl })
    go (Some k) is = rw is (record { base = refl; passed = refl; entries = set_alike log.entries (i - log.base) k (listed_at i log k is) })

each_marked : (positions : List ℕ) (log : Log) → OnlyMarks log (marked_each positions log)
each_marked [] log = record { base = refl; passed = refl; entries = refl }
each_marked (i ∷ positions) log =
    let first = one_marked i log in
    let others = each_marked positions (marked_at i log) in
    record { base = others.base ∙ first.base; passed = others.passed ∙ first.passed; entries = others.entries ∙ first.entries }

earlies_alike : (team : Team) (d : Decision) (first : ℕ) (log : Log) → OnlyMarks log (earlies_marked team d first log)
unfolding earlies_marked
earlies_alike team d first log = each_marked (early_positions team d first log) log

-- ---- what is delivered

-- of a log only marks are others, and how much of it is passed: not less, and not more than there is
pub record OnlyDelivers (old new : Log) : Type 0 where
  pub base : new.base ≡ old.base
  pub entries : Alike old.entries new.entries
  pub same_length : log_length new ≡ log_length old
  pub more : old.passed ≤ new.passed
  pub within : old.passed ≤ log_length old → new.passed ≤ log_length old

run_delivers : (team : Team) (d : Decision) (log : Log) → OnlyDelivers log (run_passed team d log)
unfolding run_passed
run_delivers team d log = record {
  base = refl;
  entries = refl;
  same_length = refl;
  more = omega arith;
  within = λ low. let most = (run_shape team d log).within in omega (arith, low, most);
}

pub only_delivers : (team : Team) (d : Decision) (log : Log) → OnlyDelivers log (log_delivered team d log)
only_delivers team d log =
    let run = run_delivers team d log in
    let marks = earlies_alike team d (run_passed team d log).passed (run_passed team d log) in
    let entries : Alike log.entries (log_delivered team d log).entries = marks.entries ∙ run.entries in
    let base : (log_delivered team d log).base ≡ log.base = marks.base ∙ run.base in
    record {
      base = base;
      entries = entries;
      same_length = ap (λ n. n + length (log_delivered team d log).entries) base ∙ ap (λ n. log.base + n) (length_alike log.entries (log_delivered team d log).entries entries);
      more = rw marks.passed run.more;
      within = λ low. rw marks.passed (run.within low);
    }

-- and its cursor is behind the run
pub cursor_delivers : (team : Team) (d : Decision) (log : Log) → (log_delivered team d log).passed ≡ (run_passed team d log).passed
cursor_delivers team d log = (earlies_alike team d (run_passed team d log).passed (run_passed team d log)).passed

-- what is pending gets marks only
pub weaks_alike : (pending : List Kept) → Alike pending (weaks_marked pending)
weaks_alike [] = refl
weaks_alike (k ∷ pending) = ap (λ z. z ∷ map unmarked (weaks_marked pending)) (go (may_be_early k)) ∙ ap (λ ks. unmarked k ∷ ks) (weaks_alike pending)
  where
    go : (b : Bool) → unmarked (cond b (as_early k) k) ≡ unmarked k
    go true = refl
    go false = refl

-- and so do all payloads that are there
pub payloads_alike : (w : Waiting) → Alike (payloads_of w) (payloads_of (waiting_delivered w))
payloads_alike w =
    map-append unmarked (weaks_marked w.pending) (held_payloads w.held)
    ∙ ap (λ ks. ks ++ map unmarked (held_payloads w.held)) (weaks_alike w.pending)
    ∙ sym (map-append unmarked w.pending (held_payloads w.held))
