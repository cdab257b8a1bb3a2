-- Where a binary search ends among entries that ascend.
use Rattle.std.proofs.Common.{◌≡◌, ℕ, zero, suc, ◌<◌, ◌≤◌, List, [], ◌∷◌, length, get_or, Result, Ok, Err, MatchResult, refl, sym, ap, arith}
use Rattle.std.specs.List.{AllByRecursion}
use Rattle.std.specs.List.Sorted.{IsSearchInRange, IsBinarySearchResult, IsNonDecreasingBy}
use Rattle.std.specs.Ordering.{nat_cmp, ordering_index}
use Rattle.std.proofs.lemmas.Cmp.{ranked}
use Rattle.std.proofs.lemmas.List.Sorted.{IsNonDecreasingBy-from_default}
use Rattle.std.proofs.lemmas.Bool.{le-ltb, lt-ltb, eq-eqb}
use Rattle.std.proofs.lemmas.Bool.Decides.{nat_tests}
use Rattle.app_table.specs.Table.{Entry, Ascends}
use Rattle.app_table.specs.Places.{IsPlace, IsGap}
use Rattle.app_table.specs.Entries.{not_equal_below, not_equal_above, all_later, none_below, all_above}

-- the key at a place
abbrev pub key_at : List Entry → ℕ → ℕ
key_at es i = let e = get_or es i (0, 0) in e.0

all_at : (key : ℕ) (es : List Entry) (i : ℕ) → i < length es → AllByRecursion (λ (o : Entry). key < o.0) es → key < key_at es i
all_at key [] i lt h = absurd (omega arith)
all_at key (e ∷ es) zero lt h = h.0
all_at key (e ∷ es) (suc i) lt h = all_at key es i (omega arith) h.1

pub rises : (es : List Entry) → Ascends es → (i j : ℕ) → i < j → j < length es → key_at es i < key_at es j
rises [] up i j lt within = absurd (omega arith)
rises (e ∷ es) up i zero lt within = absurd (omega arith)
rises (e ∷ es) up zero (suc j) lt within = all_at e.0 es j (omega arith) up.0
rises (e ∷ es) up (suc i) (suc j) lt within = rises es up.1 i j (omega arith) (omega arith)

-- ---- from the key at a place to the entries before and behind it

at_place : (key place : ℕ) (es : List Entry) → Ascends es → place < length es → key_at es place ≡ key → IsPlace key es place
at_place key place [] up lt is = absurd (omega arith)
at_place key zero (e ∷ es) up lt is = let later = all_later key e es (omega arith) up.0 in
    record {
      within = lt;
      known = rw (eq-eqb e.0 key is) refl;
      before = rw (le-ltb e.0 key (omega arith)) (sym (none_below key es later));
      behind = rw (le-ltb key e.0 (omega arith)) (sym (all_above key es later));
    }
at_place key (suc p) (e ∷ es) up lt is =
    let rest = at_place key p es up.1 (omega arith) is in
    let under : e.0 < key = omega (arith, all_at e.0 es p (omega arith) up.0) in
    record {
      within = lt;
      known = rw (not_equal_below e.0 key under) rest.known;
      before = rw (lt-ltb e.0 key under) (ap (λ xs. e ∷ xs) rest.before);
      behind = rw (le-ltb key e.0 (omega arith)) rest.behind;
    }

in_gap : (key place : ℕ) (es : List Entry) → place ≤ length es → ((j : ℕ) → j < place → key_at es j < key) → ((j : ℕ) → place ≤ j → j < length es → key < key_at es j) → IsGap key es place
in_gap key zero [] le lower higher = record { within = le; unknown = refl; before = refl; behind = refl }
in_gap key zero (e ∷ es) le lower higher =
    let rest = in_gap key zero es (omega arith) (λ j lt. absurd (omega arith)) (λ j from lt. higher (suc j) (omega arith) (omega arith)) in
    let over : key < e.0 = higher 0 (omega arith) (omega arith) in
    record {
      within = le;
      unknown = rw (not_equal_above e.0 key over) rest.unknown;
      before = rw (le-ltb e.0 key (omega arith)) rest.before;
      behind = rw (lt-ltb key e.0 over) (ap (λ xs. e ∷ xs) rest.behind);
    }
in_gap key (suc p) [] le lower higher = absurd (omega arith)
in_gap key (suc p) (e ∷ es) le lower higher =
    let rest = in_gap key p es (omega arith) (λ j lt. lower (suc j) (omega arith)) (λ j from lt. higher (suc j) (omega arith) (omega arith)) in
    let under : e.0 < key = lower 0 (omega arith) in
    record {
      within = le;
      unknown = rw (not_equal_below e.0 key under) rest.unknown;
      before = rw (lt-ltb e.0 key under) (ap (λ xs. e ∷ xs) rest.before);
      behind = rw (le-ltb key e.0 (omega arith)) rest.behind;
    }

-- ---- a binary search

module _ (es : List Entry) (up : Ascends es) (key : ℕ) where
  -- the comparisons with the key rise along the entries, as a binary search asks
  comparisons_rise : IsNonDecreasingBy (λ (e : Entry). ordering_index (nat_cmp e.0 key)) es
  comparisons_rise = IsNonDecreasingBy-from_default (λ (e : Entry). ordering_index (nat_cmp e.0 key)) es (0, 0) (λ i j le within.
      let keys_rise : key_at es i ≤ key_at es j = grind (arith, rises es up i j, λ (same : i ≡ j). ap (key_at es) same) in
      grind (arith, nat_tests))

  -- it ends at the key, or at the gap for it
  pub found : (r : Result ℕ ℕ) → IsSearchInRange r (length es) → IsBinarySearchResult (λ (e : Entry). nat_cmp e.0 key) es r → MatchResult r (IsPlace key es) (IsGap key es)
  found (Ok place) within equal = at_place key place es up within (ranked _ key _ (sym (equal (0, 0))))
  found (Err place) within parted =
      in_gap key place es within
      (λ j lt. ranked _ key _ (sym ((parted comparisons_rise).0 j (0, 0) (omega arith) lt)))
      (λ j from lt. ranked _ key _ (sym ((parted comparisons_rise).1 j (0, 0) from lt)))
