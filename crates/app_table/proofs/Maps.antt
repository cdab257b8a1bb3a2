-- A table is a map from keys to values.
use Rattle.std.proofs.Common.{◌≡◌, ℕ, ◌<◌, Bool, true, false, List, [], ◌∷◌, ◌++◌, Option, Some, None, refl, sym, ap, ◌∙◌, cond, arith}
use Rattle.std.specs.Prelude.{filter, nat_lt, nat_eq}
use Rattle.std.specs.Option.{option_or}
use Rattle.std.proofs.lemmas.Bool.{eq-eqb}
use Rattle.std.proofs.lemmas.Bool.Decides.{nat_tests}
use Rattle.app_table.specs.Table.{Entry, Ascends, value_at, below, above, with_value, without}
use Rattle.app_table.specs.Entries.{not_equal_below, not_equal_above, all_later, none_below, all_above, unknown_below}

-- ---- the value of a key among some of the entries

value_joined : (key : ℕ) (xs ys : List Entry) → value_at key (xs ++ ys) ≡ option_or (value_at key xs) (value_at key ys)
value_joined key [] ys = refl
value_joined key (x ∷ xs) ys = go (nat_eq x.0 key) (value_joined key xs ys)
  where
    go : (b : Bool) → value_at key (xs ++ ys) ≡ option_or (value_at key xs) (value_at key ys) →
        cond b (Some x.1) (value_at key (xs ++ ys)) ≡ option_or (cond b (Some x.1) (value_at key xs)) (value_at key ys)
    go true rest = refl
    go false rest = rest

-- a filter that looks at keys alone
value_filtered : (p : ℕ → Bool) (key : ℕ) (es : List Entry) → value_at key (filter (λ (e : Entry). p e.0) es) ≡ cond (p key) (value_at key es) None
value_filtered p key [] = grind arith
value_filtered p key (e ∷ es) = go (nat_eq e.0 key) refl (p e.0) refl (p key) refl (value_filtered p key es)
  where
    go : (same : Bool) → nat_eq e.0 key ≡ same → (passes : Bool) → p e.0 ≡ passes → (b : Bool) → p key ≡ b → value_at key (filter (λ (o : Entry). p o.0) es) ≡ cond b (value_at key es) None →
        value_at key (cond passes (e ∷ filter (λ (o : Entry). p o.0) es) (filter (λ (o : Entry). p o.0) es)) ≡ cond b (cond same (Some e.1) (value_at key es)) None
    go true is true passed true q rest = rw is refl
    go true is true passed false q rest = absurd (differ passed q)
      where
        differ : p e.0 ≡ true → p key ≡ false → ⊥
        differ a b = let equal : e.0 ≡ key = grind (arith, nat_tests) in cc
    go true is false passed true q rest = absurd (differ passed q)
      where
        differ : p e.0 ≡ false → p key ≡ true → ⊥
        differ a b = let equal : e.0 ≡ key = grind (arith, nat_tests) in cc
    go true is false passed false q rest = rest
    go false is true passed true q rest = rw is rest
    go false is true passed false q rest = rw is rest
    go false is false passed true q rest = rest
    go false is false passed false q rest = rest

value_below : (key other : ℕ) (es : List Entry) → value_at other (below key es) ≡ cond (nat_lt other key) (value_at other es) None
value_below key other es = value_filtered (λ n. nat_lt n key) other es

value_above : (key other : ℕ) (es : List Entry) → value_at other (above key es) ≡ cond (nat_lt key other) (value_at other es) None
value_above key other es = value_filtered (λ n. nat_lt key n) other es

-- ---- a key that was put, one that was removed, and every other

-- the key put has the value, every other key what it had
pub value_after_put : (key value other : ℕ) (es : List Entry) → value_at other (with_value key value es) ≡ cond (nat_eq other key) (Some value) (value_at other es)
value_after_put key value other es =
    rw (value_joined other (below key es) ((key, value) ∷ above key es), value_below key other es, value_above key other es) (go (nat_lt other key) refl (nat_lt key other) refl (value_at other es))
  where
    go : (l : Bool) → nat_lt other key ≡ l → (h : Bool) → nat_lt key other ≡ h → (v : Option ℕ) →
        option_or (cond l v None) (cond (nat_eq key other) (Some value) (cond h v None)) ≡ cond (nat_eq other key) (Some value) v
    go true is true nh v = absurd (grind (arith, nat_tests))
    go true is false nh None = rw (not_equal_below other key (grind (arith, nat_tests)), not_equal_above key other (grind (arith, nat_tests))) refl
    go true is false nh (Some v) = rw (not_equal_below other key (grind (arith, nat_tests))) refl
    go false is true nh v = rw (not_equal_above other key (grind (arith, nat_tests)), not_equal_below key other (grind (arith, nat_tests))) refl
    go false is false nh v = let same : other ≡ key = grind (arith, nat_tests) in rw (eq-eqb other key same, eq-eqb key other (sym same)) refl

-- the key removed has none, every other key what it had
pub value_after_removal : (key other : ℕ) (es : List Entry) → value_at other (without key es) ≡ cond (nat_eq other key) None (value_at other es)
value_after_removal key other es =
    rw (value_joined other (below key es) (above key es), value_below key other es, value_above key other es) (go (nat_lt other key) refl (nat_lt key other) refl (value_at other es))
  where
    go : (l : Bool) → nat_lt other key ≡ l → (h : Bool) → nat_lt key other ≡ h → (v : Option ℕ) → option_or (cond l v None) (cond h v None) ≡ cond (nat_eq other key) None v
    go true is true nh v = absurd (grind (arith, nat_tests))
    go true is false nh None = rw (not_equal_below other key (grind (arith, nat_tests))) refl
    go true is false nh (Some v) = rw (not_equal_below other key (grind (arith, nat_tests))) refl
    go false is true nh v = rw (not_equal_above other key (grind (arith, nat_tests))) refl
    go false is false nh v = rw (eq-eqb other key (grind (arith, nat_tests))) refl

-- ---- nothing to remove

pub nothing_removed : (key : ℕ) (es : List Entry) → Ascends es → value_at key es ≡ None → without key es ≡ es
nothing_removed key [] up none = refl
nothing_removed key (e ∷ es) up none = go (nat_lt e.0 key) refl (nat_lt key e.0) refl (nothing_removed key es up.1)
  where
    lower : e.0 < key → value_at key es ≡ None
    lower lt = rw (not_equal_below e.0 key lt) at none

    go : (l : Bool) → nat_lt e.0 key ≡ l → (h : Bool) → nat_lt key e.0 ≡ h → (value_at key es ≡ None → without key es ≡ es) →
        (cond l (e ∷ below key es) (below key es)) ++ (cond h (e ∷ above key es) (above key es)) ≡ e ∷ es
    go true is true nh rest = absurd (grind (arith, nat_tests))
    go true is false nh rest = ap (λ xs. e ∷ xs) (rest (lower (grind (arith, nat_tests))))
    go false is true nh rest = let later = all_later key e es (grind (arith, nat_tests)) up.0 in rw (none_below key es later, all_above key es later) refl
    go false is false nh rest = absurd (there (rw (eq-eqb e.0 key (grind (arith, nat_tests))) at none))
      where
        there : Some e.1 ≡ None → ⊥
        there h = cc

-- ---- one list for one map

first_known : (e : Entry) (es : List Entry) → value_at e.0 (e ∷ es) ≡ Some e.1
first_known e es = rw (eq-eqb e.0 e.0 refl) refl

-- no entry has a key below the first one
not_below_first : (key : ℕ) (e : Entry) (es : List Entry) → Ascends (e ∷ es) → key < e.0 → value_at key (e ∷ es) ≡ None
not_below_first key e es up lt = unknown_below key (e ∷ es) (lt, all_later key e es (omega arith) up.0)

-- where the first keys differ, one of them has a value in one table alone
same_first : (x y : Entry) (xs ys : List Entry) → Ascends (x ∷ xs) → Ascends (y ∷ ys) → value_at x.0 (x ∷ xs) ≡ value_at x.0 (y ∷ ys) → x.0 < y.0 → ⊥
same_first x y xs ys ux uy same lt = differ (first_known x xs) (not_below_first x.0 y ys uy lt)
  where
    differ : value_at x.0 (x ∷ xs) ≡ Some x.1 → value_at x.0 (y ∷ ys) ≡ None → ⊥
    differ a b = cc

pub one_list : (xs ys : List Entry) → Ascends xs → Ascends ys → ((key : ℕ) → value_at key xs ≡ value_at key ys) → xs ≡ ys
one_list [] [] ux uy same = refl
one_list [] (y ∷ ys) ux uy same = let at = same y.0 in let there = first_known y ys in absurd cc
one_list (x ∷ xs) [] ux uy same = let at = same x.0 in let there = first_known x xs in absurd cc
one_list (x ∷ xs) (y ∷ ys) ux uy same = joined key value (one_list xs ys ux.1 uy.1 rest)
  where
    key : x.0 ≡ y.0
    key =
        let nh = same_first x y xs ys ux uy (same x.0) in
        let nor = same_first y x ys xs uy ux (sym (same y.0)) in
        grind (arith, nat_tests)

    value : x.1 ≡ y.1
    value = let a = first_known x xs in let b = first_known y ys in let at = same x.0 in let k = key in grind arith

    rest : (k : ℕ) → value_at k xs ≡ value_at k ys
    rest k = go (nat_eq x.0 k) refl (nat_eq y.0 k) refl (same k)
      where
        go : (a : Bool) → nat_eq x.0 k ≡ a → (b : Bool) → nat_eq y.0 k ≡ b → cond a (Some x.1) (value_at k xs) ≡ cond b (Some y.1) (value_at k ys) → value_at k xs ≡ value_at k ys
        go true is b isb s =
            let x_is : x.0 ≡ k = grind (arith, nat_tests) in
            let e = key in
            unknown_below k xs (all_later k x xs (omega arith) ux.0) ∙ sym (unknown_below k ys (all_later k y ys (omega arith) uy.0))
        go false is true isb s = let e = key in absurd (grind (arith, nat_tests))
        go false is false isb s = s

    joined : x.0 ≡ y.0 → x.1 ≡ y.1 → xs ≡ ys → x ∷ xs ≡ y ∷ ys
    joined a b c = ap (λ (p : Entry). p ∷ xs) (pair a b) ∙ ap (λ zs. y ∷ zs) c
      where
        pair : x.0 ≡ y.0 → x.1 ≡ y.1 → x ≡ y
        pair a b = rw (a, b) refl
