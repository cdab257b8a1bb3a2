-- Lists of which something is said of each item.
use Rattle.std.proofs.Common.{◌≡◌, refl, sym, ap, ◌∙◌, ℕ, zero, suc, ◌+◌, ◌<◌, ◌≤◌, min, Bool, true, false, cond, List, [], ◌∷◌, ◌++◌, drop, Option, Some, None, IfSome, find, filter, filter_map, slice_get, arith}
use Rattle.std.specs.Prelude.{Contains, ◌||◌}
use Rattle.std.specs.List.{AllByRecursion, list_any, fold, cons_option}
use Rattle.std.proofs.lemmas.List.Folds.{list_any-append}
use Rattle.tw_types.specs.Turns.{least}

pub all_dropped : {X : Type 0} (P : X → Type 0) (k : ℕ) (xs : List X) → AllByRecursion P xs → AllByRecursion P (drop k xs)
all_dropped P zero xs all = all
all_dropped P (suc k) [] all = tt
all_dropped P (suc k) (x ∷ xs) all = all_dropped P k xs all.1

pub all_filtered : {X : Type 0} (P : X → Type 0) (p : X → Bool) (xs : List X) → AllByRecursion P xs → AllByRecursion P (filter p xs)
all_filtered P p [] all = tt
all_filtered P p (x ∷ xs) all = let rest = all_filtered P p xs all.1 in elim (p x) as (λ b. AllByRecursion P (cond b (x ∷ filter p xs) (filter p xs))) [ true ↦ (all.0, rest) | false ↦ rest ]

-- what is left passes the test
pub filtered_all : {X : Type 0} (p : X → Bool) (xs : List X) → AllByRecursion (λ x. p x ≡ true) (filter p xs)
filtered_all p [] = tt
filtered_all p (x ∷ xs) = go (p x) refl (filtered_all p xs)
  where
    go : (b : Bool) → p x ≡ b → AllByRecursion (λ x. p x ≡ true) (filter p xs) → AllByRecursion (λ x. p x ≡ true) (cond b (x ∷ filter p xs) (filter p xs))
    go true e rest = (e, rest)
    go false e rest = rest

pub all_weaker : {X : Type 0} (P Q : X → Type 0) → ((x : X) → P x → Q x) → (xs : List X) → AllByRecursion P xs → AllByRecursion Q xs
all_weaker P Q weaker [] all = tt
all_weaker P Q weaker (x ∷ xs) all = (weaker x all.0, all_weaker P Q weaker xs all.1)

-- what is found is one of the items
pub found_one : {X : Type 0} (P : X → Type 0) (p : X → Bool) (xs : List X) → AllByRecursion P xs → IfSome (find p xs) P
found_one P p [] all = tt
found_one P p (x ∷ xs) all = let rest = found_one P p xs all.1 in elim (p x) as (λ b. IfSome (cond b (Some x) (find p xs)) P) [ true ↦ all.0 | false ↦ rest ]

-- what is gathered by a call that gives only such
pub all_gathered : {X Y : Type 0} (P : Y → Type 0) (f : X → Option Y) → ((x : X) → IfSome (f x) P) → (xs : List X) → AllByRecursion P (filter_map f xs)
all_gathered P f each [] = tt
all_gathered P f each (x ∷ xs) = let rest = all_gathered P f each xs in (elim (f x) as (λ o. IfSome o P → AllByRecursion P (cons_option o (filter_map f xs))) [ None ↦ (λ h. rest) | Some y ↦ (λ h. (h, rest)) ]) (each x)

pub first_one : {X : Type 0} (P : X → Type 0) (xs : List X) → AllByRecursion P xs → IfSome (slice_get xs 0) P
first_one P [] all = tt
first_one P (x ∷ xs) all = all.0

-- an item that passes a test is in the list
pub any_of : {X : Type 0} (p : X → Bool) (xs : List X) (x : X) → Contains xs x → p x ≡ true → list_any p xs ≡ true
any_of p [] x c e = absurd (omega (arith, c.1))
any_of p (y ∷ ys) x (zero, b, same) e = let h : p y ≡ true = ap p same ∙ e in rw h refl
any_of p (y ∷ ys) x (suc k, b, same) e = let h : list_any p ys ≡ true = any_of p ys x (k, omega arith, same) e in go (p y) (list_any p ys) h
  where
    go : (a b : Bool) → b ≡ true → (a || b) ≡ true
    go true b h = refl
    go false b h = h

pub any_front : {X : Type 0} (p : X → Bool) (xs ys : List X) → list_any p xs ≡ true → list_any p (xs ++ ys) ≡ true
any_front p xs ys e = list_any-append p xs ys ∙ rw e refl

-- ---- dropping

drop_none : {X : Type 0} (k : ℕ) (xs : List X) → xs ≡ [] → drop k xs ≡ xs
drop_none zero xs e = refl
drop_none (suc k) [] e = refl
drop_none (suc k) (x ∷ xs) e = absurd (cc)

pub drop_both : {X : Type 0} (j k : ℕ) (xs : List X) → drop j (drop k xs) ≡ drop (k + j) xs
drop_both j zero xs = let e : j ≡ zero + j = omega arith in ap (λ (n : ℕ). drop n xs) e
drop_both j (suc k) [] = drop_none j [] refl ∙ sym (drop_none (suc k + j) [] refl)
drop_both j (suc k) (x ∷ xs) = let next : suc k + j ≡ suc (k + j) = omega arith in drop_both j k xs ∙ ap (λ (n : ℕ). drop n (x ∷ xs)) (sym next)

-- ---- the least of some numbers

pub fold_min : (a : ℕ) (xs : List ℕ) → fold min a xs ≤ a
fold_min a [] = omega arith
fold_min a (x ∷ xs) = let h : fold min (min a x) xs ≤ min a x = fold_min (min a x) xs in omega arith

pub least_first : (a : ℕ) (xs : List ℕ) → least (a ∷ xs) ≤ a
least_first a xs = fold_min a xs

pub least_second : (a b : ℕ) (xs : List ℕ) → least (a ∷ b ∷ xs) ≤ b
least_second a b xs = let h : fold min (min a b) xs ≤ min a b = fold_min (min a b) xs in omega arith

-- of numbers below a bound the least one is, also where there is none
pub least_below : (n : ℕ) → 0 < n → (xs : List ℕ) → AllByRecursion (λ x. x < n) xs → least xs < n
least_below n some [] all = some
least_below n some (x ∷ xs) all = let h : fold min x xs ≤ x = fold_min x xs in let below : x < n = all.0 in omega arith
