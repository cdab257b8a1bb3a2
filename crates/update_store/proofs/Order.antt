-- The order in which pending updates wait, as one joins them, as some go and as one is marked.
use Rattle.std.proofs.Common.{◌≡◌, ℕ, ◌<◌, ◌+◌, Bool, true, false, zero, suc, List, [], ◌∷◌, ◌++◌, length, map, take, drop, get_or, Option, Some, None, refl, sym, ap, ◌∙◌, cond, arith, length-append}
use Rattle.std.specs.Prelude.{not, filter, insert, remove, count_by, IfSome}
use Rattle.std.specs.List.{AllByRecursion}
use Rattle.std.proofs.lemmas.Bool.Decides.{nat_tests}
use Rattle.std.proofs.lemmas.List.{set-get_or}
use Rattle.std.proofs.lemmas.List.Edits.{map_over_more}
use Rattle.std.proofs.Math.ListN.{set}
use Rattle.std.proofs.lemmas.List.Filters.{length-filter_both}
use Rattle.std.proofs.lemmas.List.Sums.{length-filter}
use Rattle.tw_types.specs.declared.message.UpdateId.{UpdateId}
use Rattle.tw_types.specs.declared.message.Kept.{Kept}
use Rattle.tw_types.specs.Updates.{waits_before, WaitInOrder, with_pending, is_named, marked, may_be_early, next_weak}
use Rattle.update_store.specs.Stock.{HasNumber}
use Rattle.update_store.proofs.Ids.{all-filter, all-weaker}

before-trans : (a b c : Kept) → waits_before a b ≡ true → waits_before b c ≡ true → waits_before a c ≡ true
before-trans a b c ab bc = grind (arith, nat_tests)

not_itself : (a : Kept) → waits_before a a ≡ false
not_itself a = grind (arith, nat_tests)

not_turned : (a b : Kept) → waits_before a b ≡ true → waits_before b a ≡ false
not_turned a b ab = grind (arith, nat_tests)

not_before_later : (k x y : Kept) → waits_before x k ≡ false → waits_before x y ≡ true → waits_before y k ≡ false
not_before_later k x y xk xy = grind (arith, nat_tests)

before_all : (k x : Kept) (xs : List Kept) → waits_before k x ≡ true → AllByRecursion (λ (y : Kept). waits_before x y ≡ true) xs → AllByRecursion (λ (y : Kept). waits_before k y ≡ true) xs
before_all k x xs kx h = all-weaker (λ (y : Kept). waits_before x y ≡ true) (λ (y : Kept). waits_before k y ≡ true) (λ y xy. before-trans k x y kx xy) xs h

none_before : (k x : Kept) (xs : List Kept) → waits_before x k ≡ false → AllByRecursion (λ (y : Kept). waits_before x y ≡ true) xs → AllByRecursion (λ (y : Kept). waits_before y k ≡ false) xs
none_before k x xs xk h = all-weaker (λ (y : Kept). waits_before x y ≡ true) (λ (y : Kept). waits_before y k ≡ false) (λ y xy. not_before_later k x y xk xy) xs h

-- ---- where no item passes a test

filter_none : {X : Type 0} (p : X → Bool) (xs : List X) → AllByRecursion (λ x. p x ≡ false) xs → filter p xs ≡ []
filter_none p [] h = refl
filter_none p (x ∷ xs) h = rw h.0 (filter_none p xs h.1)

filter_rest : {X : Type 0} (p : X → Bool) (xs : List X) → AllByRecursion (λ x. p x ≡ false) xs → filter (λ x. not (p x)) xs ≡ xs
filter_rest p [] h = refl
filter_rest p (x ∷ xs) h = rw h.0 (ap (λ ys. x ∷ ys) (filter_rest p xs h.1))

-- ---- one update more

with_first : (k x : Kept) (xs : List Kept) → waits_before x k ≡ false → AllByRecursion (λ (y : Kept). waits_before x y ≡ true) xs → with_pending k (x ∷ xs) ≡ k ∷ x ∷ xs
with_first k x xs e h =
    let none = none_before k x xs e h in
    rw (e, filter_none (λ (y : Kept). waits_before y k) xs none, filter_rest (λ (y : Kept). waits_before y k) xs none) refl

with_later : (k x : Kept) (xs : List Kept) → waits_before x k ≡ true → with_pending k (x ∷ xs) ≡ x ∷ with_pending k xs
with_later k x xs e = rw e refl

placed_behind : (k : Kept) (xs : List Kept) → WaitInOrder xs → insert xs (length (filter (λ (y : Kept). waits_before y k) xs)) k ≡ with_pending k xs
placed_behind k [] h = refl
placed_behind k (x ∷ xs) h = go (waits_before x k) refl (placed_behind k xs h.1)
  where
    go : (b : Bool) → waits_before x k ≡ b → insert xs (length (filter (λ (y : Kept). waits_before y k) xs)) k ≡ with_pending k xs →
        insert (x ∷ xs) (length (cond b (x ∷ filter (λ (y : Kept). waits_before y k) xs) (filter (λ (y : Kept). waits_before y k) xs))) k ≡ with_pending k (x ∷ xs)
    go true e rest = ap (λ ys. x ∷ ys) rest ∙ sym (with_later k x xs e)
    go false e rest = ap (λ ys. insert (x ∷ xs) (length ys) k) (filter_none (λ (y : Kept). waits_before y k) xs (none_before k x xs e h.0)) ∙ sym (with_first k x xs e h.0)

pub placed : (k : Kept) (xs : List Kept) → WaitInOrder xs → insert xs (count_by (λ (y : Kept). waits_before y k) xs) k ≡ with_pending k xs
placed k xs h = rw (sym (length-filter (λ (y : Kept). waits_before y k) xs)) (placed_behind k xs h)

pub all_with : (P : Kept → Type 0) (k : Kept) (xs : List Kept) → P k → AllByRecursion P xs → AllByRecursion P (with_pending k xs)
all_with P k xs p h =
    joined (filter (λ (y : Kept). waits_before y k) xs) (k ∷ filter (λ (y : Kept). not (waits_before y k)) xs) (all-filter P (λ (y : Kept). waits_before y k) xs h) (p, all-filter P (λ (y : Kept). not (waits_before y k)) xs h)
  where
    joined : (xs ys : List Kept) → AllByRecursion P xs → AllByRecursion P ys → AllByRecursion P (xs ++ ys)
    joined [] ys a b = b
    joined (x ∷ xs) ys a b = (a.0, joined xs ys a.1 b)

pub order_with : (k : Kept) (xs : List Kept) → WaitInOrder xs → AllByRecursion (λ (y : Kept). waits_before y k ≡ false → waits_before k y ≡ true) xs → WaitInOrder (with_pending k xs)
order_with k [] h o = (tt, tt)
order_with k (x ∷ xs) h o = go (waits_before x k) refl (order_with k xs h.1 o.1)
  where
    go : (b : Bool) → waits_before x k ≡ b → WaitInOrder (with_pending k xs) → WaitInOrder (with_pending k (x ∷ xs))
    go true e rest = rw (with_later k x xs e) (all_with (λ (y : Kept). waits_before x y ≡ true) k xs e h.0, rest)
    go false e rest = let kx = o.0 e in rw (with_first k x xs e h.0) ((kx, before_all k x xs kx h.0), h)

pub length_with : (k : Kept) (xs : List Kept) → length (with_pending k xs) ≡ length xs + 1
length_with k xs =
    omega (
      arith,
      length-append (filter (λ (y : Kept). waits_before y k) xs) (k ∷ filter (λ (y : Kept). not (waits_before y k)) xs),
      length-filter_both (λ (y : Kept). waits_before y k) (λ (y : Kept). not (waits_before y k)) (λ y. refl) xs,
    )

-- ---- some of them

pub order_filter : (p : Kept → Bool) (xs : List Kept) → WaitInOrder xs → WaitInOrder (filter p xs)
order_filter p [] h = tt
order_filter p (x ∷ xs) h = go (p x) (order_filter p xs h.1)
  where
    go : (b : Bool) → WaitInOrder (filter p xs) → WaitInOrder (cond b (x ∷ filter p xs) (filter p xs))
    go true rest = (all-filter (λ (y : Kept). waits_before x y ≡ true) p xs h.0, rest)
    go false rest = rest

-- some front of a list, and behind it those that stay
abbrev pub partly : {X : Type 0} → (X → Bool) → ℕ → List X → List X
partly q p xs = take p xs ++ filter q (drop p xs)

pub partly-at : {X : Type 0} (q : X → Bool) (p : ℕ) (xs : List X) (d : X) → p < length xs → get_or (partly q (suc p) xs) p d ≡ get_or xs p d
partly-at q p [] d lt = absurd (omega arith)
partly-at q zero (x ∷ xs) d lt = refl
partly-at q (suc p) (x ∷ xs) d lt = partly-at q p xs d (omega arith)

pub partly-length : {X : Type 0} (q : X → Bool) (p : ℕ) (xs : List X) → p < length xs → p < length (partly q (suc p) xs)
partly-length q p [] lt = absurd (omega arith)
partly-length q zero (x ∷ xs) lt = omega arith
partly-length q (suc p) (x ∷ xs) lt = let rest = partly-length q p xs (omega arith) in omega arith

pub partly-stays : {X : Type 0} (q : X → Bool) (p : ℕ) (xs : List X) (d : X) → p < length xs → q (get_or xs p d) ≡ true → partly q (suc p) xs ≡ partly q p xs
partly-stays q p [] d lt e = absurd (omega arith)
partly-stays q zero (x ∷ xs) d lt e = rw e refl
partly-stays q (suc p) (x ∷ xs) d lt e = ap (λ ys. x ∷ ys) (partly-stays q p xs d (omega arith) e)

pub partly-goes : {X : Type 0} (q : X → Bool) (p : ℕ) (xs : List X) (d : X) → p < length xs → q (get_or xs p d) ≡ false → remove (partly q (suc p) xs) p ≡ partly q p xs
partly-goes q p [] d lt e = absurd (omega arith)
partly-goes q zero (x ∷ xs) d lt e = rw e refl
partly-goes q (suc p) (x ∷ xs) d lt e = ap (λ ys. x ∷ ys) (partly-goes q p xs d (omega arith) e)

-- ---- a mark

marked_entry : (id : UpdateId) (k : Kept) → (marked id k).entry ≡ k.entry
marked_entry id k = go (is_named id k)
  where
    go : (b : Bool) → (cond b (record k { early = true }) k).entry ≡ k.entry
    go true = refl
    go false = refl

pub order_marked : (id : UpdateId) (xs : List Kept) → WaitInOrder xs → WaitInOrder (map (marked id) xs)
order_marked id [] h = tt
order_marked id (x ∷ xs) h = (all xs h.0, order_marked id xs h.1)
  where
    all : (ys : List Kept) → AllByRecursion (λ (y : Kept). waits_before x y ≡ true) ys → AllByRecursion (λ (y : Kept). waits_before (marked id x) y ≡ true) (map (marked id) ys)
    all [] h = tt
    all (y ∷ ys) h = (rw (marked_entry id x, marked_entry id y) h.0, all ys h.1)

pub numbers_marked : (id : UpdateId) (xs : List Kept) → AllByRecursion HasNumber xs → AllByRecursion HasNumber (map (marked id) xs)
numbers_marked id [] h = tt
numbers_marked id (x ∷ xs) h = (record { first = rw (marked_entry id x) h.0.first; last = rw (marked_entry id x) h.0.last }, numbers_marked id xs h.1)

marked_this : (id : UpdateId) (k : Kept) → is_named id k ≡ true → marked id k ≡ record k { early = true }
marked_this id k e = rw e refl

marked_other : (id : UpdateId) (k : Kept) → is_named id k ≡ false → marked id k ≡ k
marked_other id k e = rw e refl

-- one place more
pub mark_here : (id : UpdateId) (xs ys : List Kept) (i : ℕ) (x : Kept) → i < length xs → ys ≡ map (marked id) (take i xs) ++ drop i xs → x ≡ get_or ys i x → is_named id x ≡ true →
    set ys i (record x { early = true }) ≡ map (marked id) (take (i + 1) xs) ++ drop (i + 1) xs
mark_here id xs ys i x lt e at here = rw (sym (marked_this id x here)) (map_over_more (marked id) xs ys i x lt e at)

pub mark_not_here : (id : UpdateId) (xs ys : List Kept) (i : ℕ) (x : Kept) → i < length xs → ys ≡ map (marked id) (take i xs) ++ drop i xs → x ≡ get_or ys i x → is_named id x ≡ false →
    ys ≡ map (marked id) (take (i + 1) xs) ++ drop (i + 1) xs
mark_not_here id xs ys i x lt e at here =
    let same : set ys i (marked id x) ≡ ys = ap (λ k. set ys i k) (marked_other id x here ∙ at) ∙ set-get_or ys i x in
    sym same ∙ map_over_more (marked id) xs ys i x lt e at

-- ---- the first that may be early

pub least_early : (xs : List Kept) → WaitInOrder xs → IfSome (next_weak xs) (λ k. AllByRecursion (λ (y : Kept). may_be_early y ≡ true → waits_before y k ≡ false) xs)
least_early [] h = tt
least_early (x ∷ xs) h = go (may_be_early x) refl (next_weak xs) (least_early xs h.1)
  where
    go : (b : Bool) → may_be_early x ≡ b → (o : Option Kept) → IfSome o (λ k. AllByRecursion (λ (y : Kept). may_be_early y ≡ true → waits_before y k ≡ false) xs) → IfSome (cond b (Some x) o) (λ k. AllByRecursion (λ (y : Kept). may_be_early y ≡ true → waits_before y k ≡ false) (x ∷ xs))
    go true e o rest = (λ m. not_itself x, all-weaker (λ (y : Kept). waits_before x y ≡ true) (λ (y : Kept). may_be_early y ≡ true → waits_before y x ≡ false) (λ y xy m. not_turned x y xy) xs h.0)
    go false e None rest = tt
    go false e (Some k) rest = (λ m. cc, rest)
