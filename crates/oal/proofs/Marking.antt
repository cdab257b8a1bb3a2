-- What marks of a log are among the entries that are kept.
use Rattle.std.proofs.Common.{◌≡◌, refl, sym, ◌∙◌, ap, ℕ, ◌+◌, ◌-◌, ◌<◌, ◌≤◌, nat_lt, nat_le, Bool, true, false, ◌&&◌, cond, length, drop, get_or, set, subst, Option, Some, None, ◌⊎◌, inl, inr, arith}
use Rattle.std.specs.Prelude.{slice_get, slice_set}
use Rattle.std.proofs.lemmas.Bool.Decides.{nat_tests}
use Rattle.std.proofs.Math.ListN.{length-set}
use Rattle.std.proofs.lemmas.List.{get_or-drop, drop-set-lt, drop-set-add}
use Rattle.std.proofs.lemmas.Option.{slice_get_within, slice_get-get_or}
use Rattle.tw_types.specs.declared.message.Kept.{Kept}
use Rattle.tw_types.specs.Beliefs.{Log}
use Rattle.tw_types.specs.Logs.{log_at, marked_at}
use Rattle.oal.specs.Recent.{Recent, newest, first_kept, place_of}
use Rattle.oal.specs.StandsFor.{StandsFor}
use Rattle.oal.proofs.Standing.{first_stands}

-- a log that has an entry there, and one that has none
marked_some : (position : ℕ) (log : Log) (k : Kept) → log_at position log ≡ Some k → marked_at position log ≡ record log { entries = slice_set log.entries (position - log.base) (record k { early = true }) }
marked_some position log k is = rw is refl

marked_none : (position : ℕ) (log : Log) → log_at position log ≡ None → marked_at position log ≡ log
marked_none position log is = rw is refl

-- what a place tells of a position, and an entry of a log
place_inside : (position place : ℕ) (o : Recent) → place_of position o ≡ Some place → (first_kept o ≤ position) × (position < o.length) × (place ≡ position - first_kept o)
place_inside position place o is = go (nat_le (first_kept o) position && nat_lt position o.length) refl is
  where
    go : (b : Bool) → (nat_le (first_kept o) position && nat_lt position o.length) ≡ b → cond b (Some (position - first_kept o)) None ≡ Some place → (first_kept o ≤ position) × (position < o.length) × (place ≡ position - first_kept o)
    go true e is = (search (arith, nat_tests), search (arith, nat_tests), cc)
    go false e is = cc

place_outside : (position : ℕ) (o : Recent) → place_of position o ≡ None → (position < first_kept o) ⊎ (o.length ≤ position)
place_outside position o is = go (nat_le (first_kept o) position) (nat_lt position o.length) refl refl is
  where
    go : (a b : Bool) → nat_le (first_kept o) position ≡ a → nat_lt position o.length ≡ b → cond (a && b) (Some (position - first_kept o)) None ≡ None → (position < first_kept o) ⊎ (o.length ≤ position)
    go true true e f is = cc
    go true false e f is = inr (search (arith, nat_tests))
    go false b e f is = inl (search (arith, nat_tests))

entry_inside : (position : ℕ) (log : Log) (k : Kept) → log_at position log ≡ Some k → (log.base ≤ position) × (position - log.base < length log.entries)
entry_inside position log k is = go (nat_le log.base position) refl is
  where
    go : (b : Bool) → nat_le log.base position ≡ b → cond b (slice_get log.entries (position - log.base)) None ≡ Some k → (log.base ≤ position) × (position - log.base < length log.entries)
    go true e is = (search (arith, nat_tests), slice_get_within log.entries (position - log.base) k is)
    go false e is = cc

entry_there : (position : ℕ) (log : Log) (k : Kept) → log.base ≤ position → position - log.base < length log.entries → log_at position log ≡ Some (get_or log.entries (position - log.base) k)
entry_there position log k from within =
    let test : nat_le log.base position ≡ true = search (arith, nat_tests) in
    ap (λ b. cond b (slice_get log.entries (position - log.base)) None) test ∙ slice_get-get_or log.entries (position - log.base) k within

-- a mark of an entry that is kept, and of one that isn't
pub marked_inside : (position place : ℕ) (o : Recent) (log : Log) (k : Kept) → StandsFor o log → place_of position o ≡ Some place → k ≡ get_or o.kept place k → StandsFor (record o { kept = set o.kept place (record k { early = true }) }) (marked_at position log)
marked_inside position place o log k s is there =
    let n : ℕ = length log.entries - 64 in
    let marked : Kept = record k { early = true } in
    let inside : (first_kept o ≤ position) × (position < o.length) × (place ≡ position - first_kept o) = place_inside position place o is in
    let first : first_kept o ≡ log.base + n = first_stands o log s in
    let end : o.length ≡ log.base + length log.entries = s.length in
    let at : position - log.base ≡ n + place = omega arith in
    let same : get_or log.entries (position - log.base) k ≡ k = ap (λ i. get_or log.entries i k) at ∙ sym (get_or-drop n log.entries place k) ∙ ap (λ ks. get_or ks place k) (sym s.kept) ∙ sym there in
    let entry : log_at position log ≡ Some k = entry_there position log k (omega arith) (omega arith) ∙ ap Some same in
    let count : length (set log.entries (position - log.base) marked) ≡ length log.entries = length-set log.entries (position - log.base) marked in
    let kept : newest (set log.entries (position - log.base) marked) ≡ set o.kept place marked =
    ap (λ l. drop (l - 64) (set log.entries (position - log.base) marked)) count ∙ ap (λ i. drop n (set log.entries i marked)) at ∙ drop-set-add n log.entries place marked ∙ ap (λ ks. set ks place marked) (sym s.kept) in
    subst (StandsFor (record o { kept = set o.kept place marked })) (sym (marked_some position log k entry)) (record { length = s.length ∙ ap (λ l. log.base + l) (sym count); passed = s.passed; kept = sym kept })

pub marked_outside : (position : ℕ) (o : Recent) (log : Log) → StandsFor o log → place_of position o ≡ None → StandsFor o (marked_at position log)
marked_outside position o log s none = go (log_at position log) refl
  where
    go : (entry : Option Kept) → log_at position log ≡ entry → StandsFor o (marked_at position log)
    go None is = subst (StandsFor o) (sym (marked_none position log is)) s
    go (Some k) is =
        let n : ℕ = length log.entries - 64 in
        let marked : Kept = record k { early = true } in
        let inside : (log.base ≤ position) × (position - log.base < length log.entries) = entry_inside position log k is in
        let first : first_kept o ≡ log.base + n = first_stands o log s in
        let end : o.length ≡ log.base + length log.entries = s.length in
        let before : position - log.base < n = elim (place_outside position o none) [ inl below ↦ omega arith | inr past ↦ omega arith ] in
        let count : length (set log.entries (position - log.base) marked) ≡ length log.entries = length-set log.entries (position - log.base) marked in
        let kept : newest (set log.entries (position - log.base) marked) ≡ o.kept =
        ap (λ l. drop (l - 64) (set log.entries (position - log.base) marked)) count ∙ drop-set-lt n log.entries (position - log.base) marked before ∙ sym s.kept in
        subst (StandsFor o) (sym (marked_some position log k is)) (record { length = s.length ∙ ap (λ l. log.base + l) (sym count); passed = s.passed; kept = sym kept })
