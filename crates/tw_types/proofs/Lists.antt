-- What holds of each item of two lists, and of both lists joined; and the first items of a list out of which one is taken.
use Rattle.std.proofs.Common.{◌≡◌, ◌<◌, ◌≤◌, ◌-◌, refl, ap, ◌∙◌, ℕ, zero, suc, List, [], ◌∷◌, ◌++◌, length, arith}
use Rattle.std.specs.Prelude.{take, remove}
use Rattle.std.specs.List.{AllByRecursion}

pub all_joined : {X : Type 0} (P : X → Type 0) (xs ys : List X) → AllByRecursion P xs → AllByRecursion P ys → AllByRecursion P (xs ++ ys)
all_joined P [] ys a b = b
all_joined P (x ∷ xs) ys a b = (a.0, all_joined P xs ys a.1 b)

pub all_parted : {X : Type 0} (P : X → Type 0) (xs ys : List X) → AllByRecursion P (xs ++ ys) → AllByRecursion P xs × AllByRecursion P ys
all_parted P [] ys h = (tt, h)
all_parted P (x ∷ xs) ys h = let z = all_parted P xs ys h.1 in ((h.0, z.0), z.1)

removed : {X : Type 0} (m i : ℕ) (xs : List X) → i ≤ m → suc m ≤ length xs → take m (remove xs i) ≡ remove (take (suc m) xs) i
removed m i [] le few = absurd (omega (arith, few))
removed m zero (x ∷ xs) le few = refl
removed zero (suc i) (x ∷ xs) le few = absurd (omega (arith, le))
removed (suc m) (suc i) (x ∷ xs) le few = ap (λ l. x ∷ l) (removed m i xs (omega (arith, le)) (omega (arith, few)))

one_less : (m : ℕ) → suc m - 1 ≡ m
one_less m = omega arith

pub removed_kept : {X : Type 0} (n i : ℕ) (xs : List X) → i < n → n ≤ length xs → take (n - 1) (remove xs i) ≡ remove (take n xs) i
removed_kept zero i xs lt few = absurd (omega (arith, lt))
removed_kept (suc m) i xs lt few = ap (λ k. take k (remove xs i)) (one_less m) ∙ removed m i xs (omega (arith, lt)) few
