-- Lists of which each item is spoken of, items that stand in one, and what is found among them.
use Rattle.std.proofs.Common.{◌≡◌, refl, sym, subst, inl, inr, ◌⊎◌, ℕ, zero, suc, Bool, true, false, cond, ◌||◌, List, [], ◌∷◌, ◌++◌, drop, find, Some, None, filter_map, Option, ap, ◌∙◌, ◌+◌, ◌≤◌, ◌<◌, arith}
use Rattle.std.specs.List.{AllByRecursion, list_any, cons_option, list_all, range_with_len}
use Rattle.std.proofs.lemmas.Bool.{and_parts}
use Rattle.tw_types.specs.Items.{In}
use Rattle.tw_types.proofs.Appended.{in_left, in_right}
use Rattle.tw_types.proofs.Appended as items
-- what holds of each holds of one that stands there
pub use Rattle.tw_types.proofs.Appended.{of_each}

-- what follows for each item follows for all
pub each_weaker : {X : Type 0} (P Q : X → Type 0) (xs : List X) → ((x : X) → P x → Q x) → AllByRecursion P xs → AllByRecursion Q xs
each_weaker P Q [] f all = tt
each_weaker P Q (x ∷ xs) f all = (f x all.0, each_weaker P Q xs f all.1)

-- what holds of each that stands there holds of all
pub each_from : {X : Type 0} (P : X → Type 0) (xs : List X) → ((x : X) → In x xs → P x) → AllByRecursion P xs
each_from P [] f = tt
each_from P (x ∷ xs) f = (f x (inl refl), each_from P xs (λ y i. f y (inr i)))

-- of two lists of what holds of each
pub each_both : {X : Type 0} (P Q R : X → Type 0) (xs : List X) → ((x : X) → P x → Q x → R x) → AllByRecursion P xs → AllByRecursion Q xs → AllByRecursion R xs
each_both P Q R [] f a b = tt
each_both P Q R (x ∷ xs) f a b = (f x a.0 b.0, each_both P Q R xs f a.1 b.1)

-- ---- items that stand in lists made of others

pub in_first : {X : Type 0} (x : X) (xs ys : List X) → In x xs → In x (xs ++ ys)
in_first x xs ys = in_left xs ys x

pub in_last : {X : Type 0} (x : X) (xs ys : List X) → In x ys → In x (xs ++ ys)
in_last x xs ys = in_right xs ys x

pub of_append : {X : Type 0} (x : X) (xs ys : List X) → In x (xs ++ ys) → In x xs ⊎ In x ys
of_append x xs ys = items.in_either xs ys x

pub in_either : {X : Type 0} (x : X) (xs zs ys : List X) → (In x xs → In x zs) → In x (xs ++ ys) → In x (zs ++ ys)
in_either x xs zs ys f i = go (of_append x xs ys i)
  where
    go : In x xs ⊎ In x ys → In x (zs ++ ys)
    go (inl j) = in_first x zs ys (f j)
    go (inr j) = in_last x zs ys j

pub in_drop : {X : Type 0} (n : ℕ) (xs : List X) (x : X) → In x (drop n xs) → In x xs
in_drop zero xs x i = i
in_drop (suc n) [] x i = i
in_drop (suc n) (y ∷ xs) x i = inr (in_drop n xs x i)

-- what is found passes the test
pub found_in : {X : Type 0} (test : X → Bool) (xs : List X) (x : X) → find test xs ≡ Some x → In x xs × (test x ≡ true)
found_in test [] x e = absurd (cc)
found_in test (y ∷ xs) x e = go (test y) refl (found_in test xs x) e
  where
    go : (b : Bool) → test y ≡ b → (find test xs ≡ Some x → In x xs × (test x ≡ true)) → cond b (Some y) (find test xs) ≡ Some x → In x (y ∷ xs) × (test x ≡ true)
    go true is rest f = let same : y ≡ x = cc in (inl (sym same), subst (λ z. test z ≡ true) same is)
    go false is rest f = let k = rest f in (inr k.0, k.1)

-- where some item passes the test one is found
pub any_found : {X : Type 0} (test : X → Bool) (xs : List X) → list_any test xs ≡ true → find test xs ≡ None → ⊥
any_found test [] e f = absurd (cc)
any_found test (x ∷ xs) e f = go (test x) e f (any_found test xs)
  where
    go : (b : Bool) → (b || list_any test xs) ≡ true → cond b (Some x) (find test xs) ≡ None → (list_any test xs ≡ true → find test xs ≡ None → ⊥) → ⊥
    go true e f rest = absurd (cc)
    go false e f rest = rest e f

-- where one passes the test one is found
pub finds : {X : Type 0} (test : X → Bool) (xs : List X) (x : X) → In x xs → test x ≡ true → (y : X) × (find test xs ≡ Some y)
finds {X = X} test [] x i e = absurd i
finds {X = X} test (z ∷ xs) x (inl same) e = (z, ap (λ b. cond b (Some z) (find test xs)) (subst (λ w. test w ≡ true) same e))
finds {X = X} test (z ∷ xs) x (inr i) e = go (test z) (finds test xs x i e)
  where
    go : (b : Bool) → (y : X) × (find test xs ≡ Some y) → (y : X) × (cond b (Some z) (find test xs) ≡ Some y)
    go true k = (z, refl)
    go false k = k

-- what is got of some items is of one of them
pub of_filter_map : {X Y : Type 0} (f : X → Option Y) (xs : List X) (y : Y) → In y (filter_map f xs) → (x : X) × In x xs × (f x ≡ Some y)
of_filter_map f [] y i = absurd i
of_filter_map {X} {Y} f (x ∷ xs) y i = go (f x) refl (of_filter_map f xs y) i
  where
    go : (o : Option Y) → f x ≡ o → (In y (filter_map f xs) → (z : X) × In z xs × (f z ≡ Some y)) → In y (cons_option o (filter_map f xs)) → (z : X) × In z (x ∷ xs) × (f z ≡ Some y)
    go None is rest i = let k = rest i in (k.0, inr k.1, k.2)
    go (Some w) is rest (inl e) = (x, inl refl, is ∙ ap Some (sym e))
    go (Some w) is rest (inr i) = let k = rest i in (k.0, inr k.1, k.2)

-- and what is got of one is among all that is got
pub in_filter_map : {X Y : Type 0} (f : X → Option Y) (xs : List X) (x : X) (y : Y) → In x xs → f x ≡ Some y → In y (filter_map f xs)
in_filter_map f [] x y i is = absurd i
in_filter_map {X} {Y} f (z ∷ xs) x y i is = go (f z) refl i (λ j. in_filter_map f xs x y j is)
  where
    go : (o : Option Y) → f z ≡ o → In x (z ∷ xs) → (In x xs → In y (filter_map f xs)) → In y (cons_option o (filter_map f xs))
    go None e (inl same) rest = absurd (let no : f x ≡ None = ap f same ∙ e in cc)
    go (Some w) e (inl same) rest = let found : f x ≡ Some w = ap f same ∙ e in inl (cc)
    go None e (inr j) rest = rest j
    go (Some w) e (inr j) rest = inr (rest j)

-- where all pass each passes
pub each_passes : {X : Type 0} (test : X → Bool) (xs : List X) → list_all test xs ≡ true → AllByRecursion (λ x. test x ≡ true) xs
each_passes test [] e = tt
each_passes test (x ∷ xs) e = let both = and_parts (test x) (list_all test xs) e in (both.0, each_passes test xs both.1)

-- numbers from a on are not below a, and below the end
pub in_range : (a n x : ℕ) → In x (range_with_len a n) → (a ≤ x) × (x < a + n)
in_range a zero x i = absurd i
in_range a (suc n) x (inl e) = (omega (arith, e), omega (arith, e))
in_range a (suc n) x (inr i) = let k = in_range (a + 1) n x i in let low = k.0 in let high = k.1 in (omega (arith, low), omega (arith, high))
