-- Entries below a key, above it and at it, where keys ascend.
use Rattle.std.proofs.Common.{◌≡◌, ℕ, ◌<◌, ◌≤◌, ◌+◌, Bool, true, false, List, [], ◌∷◌, ◌++◌, length, None, refl, ap, cond, arith, length-append}
use Rattle.std.specs.Prelude.{filter, nat_lt, nat_eq}
use Rattle.std.specs.List.{AllByRecursion}
use Rattle.std.proofs.lemmas.Bool.{le-ltb, lt-ltb, eq-eqb}
use Rattle.std.proofs.lemmas.Bool.Decides.{nat_tests}
use Rattle.app_table.specs.Table.{Entry, IsTable, Ascends, value_at, has_key, below, above, with_value, without, is_too_many, after_put, after_payload, table_room, key_of, value_of}

-- ---- tests of two keys

pub not_equal_below : (a b : ℕ) → a < b → nat_eq a b ≡ false
not_equal_below a b h = grind (arith, nat_tests)

pub not_equal_above : (a b : ℕ) → b < a → nat_eq a b ≡ false
not_equal_above a b h = grind (arith, nat_tests)

-- ---- what is said of each entry

pub all_weaker : {X : Type 0} (P Q : X → Type 0) → ((e : X) → P e → Q e) → (es : List X) → AllByRecursion P es → AllByRecursion Q es
all_weaker P Q f [] h = tt
all_weaker P Q f (e ∷ es) h = (f e h.0, all_weaker P Q f es h.1)

pub all_filter : {X : Type 0} (P : X → Type 0) (p : X → Bool) (es : List X) → AllByRecursion P es → AllByRecursion P (filter p es)
all_filter P p [] h = tt
all_filter P p (e ∷ es) h = go (p e) (all_filter P p es h.1)
  where
    go : (b : Bool) → AllByRecursion P (filter p es) → AllByRecursion P (cond b (e ∷ filter p es) (filter p es))
    go true rest = (h.0, rest)
    go false rest = rest

pub all_joined : {X : Type 0} (P : X → Type 0) (xs ys : List X) → AllByRecursion P xs → AllByRecursion P ys → AllByRecursion P (xs ++ ys)
all_joined P [] ys a b = b
all_joined P (x ∷ xs) ys a b = (a.0, all_joined P xs ys a.1 b)

-- what passes a test is as the test says
all_passed : {X : Type 0} (P : X → Type 0) (p : X → Bool) → ((e : X) → p e ≡ true → P e) → (es : List X) → AllByRecursion P (filter p es)
all_passed P p f [] = tt
all_passed P p f (e ∷ es) = go (p e) refl (all_passed P p f es)
  where
    go : (b : Bool) → p e ≡ b → AllByRecursion P (filter p es) → AllByRecursion P (cond b (e ∷ filter p es) (filter p es))
    go true is rest = (f e is, rest)
    go false is rest = rest

below_lower : (key : ℕ) (es : List Entry) → AllByRecursion (λ (e : Entry). e.0 < key) (below key es)
below_lower key es = all_passed (λ (e : Entry). e.0 < key) (λ (e : Entry). nat_lt e.0 key) (λ e is. grind (arith, nat_tests)) es

above_higher : (key : ℕ) (es : List Entry) → AllByRecursion (λ (e : Entry). key < e.0) (above key es)
above_higher key es = all_passed (λ (e : Entry). key < e.0) (λ (e : Entry). nat_lt key e.0) (λ e is. grind (arith, nat_tests)) es

-- what follows a higher key is higher
pub all_later : (key : ℕ) (e : Entry) (es : List Entry) → key ≤ e.0 → AllByRecursion (λ (o : Entry). e.0 < o.0) es → AllByRecursion (λ (o : Entry). key < o.0) es
all_later key e es le h = all_weaker (λ (o : Entry). e.0 < o.0) (λ (o : Entry). key < o.0) (λ o lt. omega arith) es h

-- ---- where every key is higher

pub none_below : (key : ℕ) (es : List Entry) → AllByRecursion (λ (o : Entry). key < o.0) es → below key es ≡ []
none_below key [] h = refl
none_below key (e ∷ es) h = rw (le-ltb e.0 key (omega (arith, h.0))) (none_below key es h.1)

pub all_above : (key : ℕ) (es : List Entry) → AllByRecursion (λ (o : Entry). key < o.0) es → above key es ≡ es
all_above key [] h = refl
all_above key (e ∷ es) h = rw (lt-ltb key e.0 h.0) (ap (λ xs. e ∷ xs) (all_above key es h.1))

pub unknown_below : (key : ℕ) (es : List Entry) → AllByRecursion (λ (o : Entry). key < o.0) es → value_at key es ≡ None
unknown_below key [] h = refl
unknown_below key (e ∷ es) h = rw (not_equal_above e.0 key h.0) (unknown_below key es h.1)

-- ---- keys ascend

ascends_filter : (p : Entry → Bool) (es : List Entry) → Ascends es → Ascends (filter p es)
ascends_filter p [] up = tt
ascends_filter p (e ∷ es) up = go (p e) (ascends_filter p es up.1)
  where
    go : (b : Bool) → Ascends (filter p es) → Ascends (cond b (e ∷ filter p es) (filter p es))
    go true rest = (all_filter (λ (o : Entry). e.0 < o.0) p es up.0, rest)
    go false rest = rest

ascends_joined : (key : ℕ) (xs ys : List Entry) → Ascends xs → Ascends ys → AllByRecursion (λ (e : Entry). e.0 < key) xs → AllByRecursion (λ (e : Entry). key ≤ e.0) ys → Ascends (xs ++ ys)
ascends_joined key [] ys a b lower higher = b
ascends_joined key (x ∷ xs) ys a b lower higher = let under = lower.0 in (
  all_joined (λ (o : Entry). x.0 < o.0) xs ys a.0 (all_weaker (λ (e : Entry). key ≤ e.0) (λ (e : Entry). x.0 < e.0) (λ e le. omega arith) ys higher),
  ascends_joined key xs ys a.1 b lower.1 higher,
)

not_under : (key : ℕ) (es : List Entry) → AllByRecursion (λ (e : Entry). key ≤ e.0) (above key es)
not_under key es = all_weaker (λ (e : Entry). key < e.0) (λ (e : Entry). key ≤ e.0) (λ e lt. omega arith) (above key es) (above_higher key es)

ascends_with : (key value : ℕ) (es : List Entry) → Ascends es → Ascends (with_value key value es)
ascends_with key value es up =
    ascends_joined key (below key es) ((key, value) ∷ above key es) (ascends_filter (λ (e : Entry). nat_lt e.0 key) es up)
    (above_higher key es, ascends_filter (λ (e : Entry). nat_lt key e.0) es up)
    (below_lower key es)
    (omega arith, not_under key es)

ascends_without : (key : ℕ) (es : List Entry) → Ascends es → Ascends (without key es)
ascends_without key es up =
    ascends_joined key (below key es) (above key es) (ascends_filter (λ (e : Entry). nat_lt e.0 key) es up)
    (ascends_filter (λ (e : Entry). nat_lt key e.0) es up)
    (below_lower key es)
    (not_under key es)

-- ---- how many there are

counted : (key : ℕ) (es : List Entry) → Ascends es → length (below key es) + length (above key es) + cond (has_key key es) 1 0 ≡ length es
counted key [] up = refl
counted key (e ∷ es) up = go (nat_lt e.0 key) refl (nat_lt key e.0) refl (counted key es up.1)
  where
    go : (l : Bool) → nat_lt e.0 key ≡ l → (h : Bool) → nat_lt key e.0 ≡ h → length (below key es) + length (above key es) + cond (has_key key es) 1 0 ≡ length es →
        length (cond l (e ∷ below key es) (below key es)) + length (cond h (e ∷ above key es) (above key es)) + cond (has_key key (e ∷ es)) 1 0 ≡ length (e ∷ es)
    go true is true nh rest = absurd (grind (arith, nat_tests))
    go true is false nh rest = rw (not_equal_below e.0 key (grind (arith, nat_tests))) (omega (arith, rest))
    go false is true nh rest = rw (not_equal_above e.0 key (grind (arith, nat_tests))) (omega (arith, rest))
    go false is false nh rest =
        let same : e.0 ≡ key = grind (arith, nat_tests) in
        let alone = unknown_below key es (all_later key e es (omega arith) up.0) in
        rw (eq-eqb e.0 key same) (omega (arith, the_rest alone))
      where
        the_rest : value_at key es ≡ None → length (below key es) + length (above key es) + 0 ≡ length es
        the_rest none = rw none at rest

pub table_with : (key value : ℕ) (es : List Entry) → IsTable es → is_too_many key es ≡ false → IsTable (with_value key value es)
table_with key value es is room = record {
  ascending = ascends_with key value es is.ascending;
  few = go (has_key key es) refl (counted key es is.ascending) room;
}
  where
    go : (b : Bool) → has_key key es ≡ b → length (below key es) + length (above key es) + cond b 1 0 ≡ length es → is_too_many key es ≡ false → length (with_value key value es) ≤ table_room
    go true k count room = omega (arith, length-append (below key es) ((key, value) ∷ above key es), is.few)
    go false k count room = let left : length es < 256 = grind (arith, nat_tests) in omega (arith, length-append (below key es) ((key, value) ∷ above key es))

pub table_without : (key : ℕ) (es : List Entry) → IsTable es → IsTable (without key es)
table_without key es is = record {
  ascending = ascends_without key es is.ascending;
  few = omega (arith, length-append (below key es) (above key es), counted key es is.ascending, is.few);
}

pub table_after_put : (key value : ℕ) (es : List Entry) → IsTable es → IsTable (after_put key value es)
table_after_put key value es is = go (is_too_many key es) refl
  where
    go : (b : Bool) → is_too_many key es ≡ b → IsTable (cond b es (with_value key value es))
    go true many = is
    go false many = table_with key value es is many

-- a table stays one, whatever comes
pub table_after : (es : List Entry) (payload : List ℕ) → IsTable es → IsTable (after_payload es payload)
table_after es payload is = go (nat_eq (length payload) 12) (nat_eq (length payload) 4)
  where
    go : (twelve four : Bool) → IsTable (cond twelve (after_put (key_of payload) (value_of payload) es) (cond four (without (key_of payload) es) es))
    go true four = table_after_put (key_of payload) (value_of payload) es is
    go false true = table_without (key_of payload) es is
    go false false = is
