-- Lists whose items are counted, joined or mapped, and numbers that are compared.
use Rattle.std.proofs.Common.{◌≡◌, ◌≢◌, subst, ℕ, zero, suc, true, false, nat_eq, List, [], ◌∷◌, ◌++◌, map, Some, arith}
use Rattle.std.specs.List.{AllByRecursion}
use Rattle.std.proofs.lemmas.Option.{same_Some}
use Rattle.tw_types.specs.Numbered.{numbered}

pub all_push : {X : Type 0} (P : X → Type 0) (xs : List X) (x : X) → AllByRecursion P xs → P x → AllByRecursion P (xs ++ x ∷ [])
all_push P [] x all new = (new, tt)
all_push P (y ∷ xs) x all new = (all.0, all_push P xs x all.1 new)

pub all_mapped : {X Y : Type 0} (P : Y → Type 0) (f : X → Y) (xs : List X) → AllByRecursion (λ x. P (f x)) xs → AllByRecursion P (map f xs)
all_mapped P f [] all = tt
all_mapped P f (x ∷ xs) all = (all.0, all_mapped P f xs all.1)

pub all_of : {X : Type 0} (P : X → Type 0) (xs : List X) → ((x : X) → P x) → AllByRecursion P xs
all_of P [] each = tt
all_of P (x ∷ xs) each = (each x, all_of P xs each)

-- what holds of each holds of the one of a number
pub at_number : {X : Type 0} (P : X → Type 0) (xs : List X) (number : ℕ) (x : X) → AllByRecursion P xs → numbered number xs ≡ Some x → P x
at_number P xs zero x all e = absurd (cc)
at_number P [] (suc i) x all e = absurd (cc)
at_number P (y ∷ xs) (suc zero) x all e = subst P (same_Some y x e) all.0
at_number P (y ∷ xs) (suc (suc i)) x all e = at_number P xs (suc i) x all.1 e

pub same_number : (n : ℕ) → nat_eq n n ≡ true
same_number n = grind arith

pub equal_numbers : (m n : ℕ) → nat_eq m n ≡ true → m ≡ n
equal_numbers m n e = grind arith

pub other_number : (m n : ℕ) → m ≢ n → nat_eq m n ≡ false
other_number m n e = grind arith
