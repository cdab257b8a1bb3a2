-- What is in a list, item by item.
use Rattle.std.proofs.Common.{◌≡◌, refl, ℕ, ◌<◌, Bool, true, false, List, [], ◌∷◌, length, inl, inr, ◌⊎◌, arith, ap, ◌∙◌, zero, suc, get_or, ◌||◌, ◌&&◌}
use Rattle.std.specs.List.{AllByRecursion, Contains, list_any}
use Rattle.std.proofs.lemmas.List.Elements.{All-from_recursion, All-contains, Contains-append_right, Contains-append_cases}

pub first_in : {X : Type 0} (x : X) (xs : List X) → Contains (x ∷ xs) x
first_in x xs = (0, omega arith, refl)

pub later_in : {X : Type 0} (y : X) (xs : List X) (x : X) → Contains xs x → Contains (y ∷ xs) x
later_in y xs x c = Contains-append_right (y ∷ []) xs x c

pub in_one : {X : Type 0} (y x : X) → Contains (y ∷ []) x → y ≡ x
in_one y x c = go c.0 c.1 c.2
  where
    go : (k : ℕ) → k < length (y ∷ []) → get_or (y ∷ []) k x ≡ x → y ≡ x
    go zero l e = e
    go (suc k) l e = absurd (omega arith)

pub in_cases : {X : Type 0} (y : X) (xs : List X) (x : X) → Contains (y ∷ xs) x → (y ≡ x) ⊎ Contains xs x
in_cases y xs x c = elim (Contains-append_cases (y ∷ []) xs x c) [ inl one ↦ inl (in_one y x one) | inr more ↦ inr more ]

-- what holds of each item holds of one that is in the list, and the other way round
pub holds_of : {X : Type 0} (P : X → Type 0) (xs : List X) (x : X) → AllByRecursion P xs → Contains xs x → P x
holds_of P xs x all c = All-contains P xs x (All-from_recursion P xs all) c

pub holds_of_each : {X : Type 0} (P : X → Type 0) (xs : List X) → ((x : X) → Contains xs x → P x) → AllByRecursion P xs
holds_of_each P [] f = tt
holds_of_each P (x ∷ xs) f = (f x (first_in x xs), holds_of_each P xs (λ y c. f y (later_in x xs y c)))

-- an item that passes, where one does
pub passing : {X : Type 0} (p : X → Bool) (xs : List X) → list_any p xs ≡ true → (x : X) × Contains xs x × (p x ≡ true)
passing p [] h = cc
passing {X} p (x ∷ xs) h = go (p x) refl h (λ e. passing p xs e)
  where
    go : (b : Bool) → p x ≡ b → (b || list_any p xs) ≡ true → (list_any p xs ≡ true → (y : X) × Contains xs y × (p y ≡ true)) → (y : X) × Contains (x ∷ xs) y × (p y ≡ true)
    go true e h later = (x, first_in x xs, e)
    go false e h later = let z = later h in (z.0, later_in x xs z.0 z.1, z.2)

pub passes : {X : Type 0} (p : X → Bool) (xs : List X) (x : X) → Contains xs x → p x ≡ true → list_any p xs ≡ true
passes p [] x c h = absurd (omega (arith, c.1))
passes p (y ∷ xs) x c h = go (p y) refl (in_cases y xs x c) (λ more. passes p xs x more h)
  where
    go : (b : Bool) → p y ≡ b → (y ≡ x) ⊎ Contains xs x → (Contains xs x → list_any p xs ≡ true) → (b || list_any p xs) ≡ true
    go true e i later = refl
    go false e (inl same) later = (let q : p y ≡ true = ap p same ∙ h in cc)
    go false e (inr more) later = later more

pub both : (a b : Bool) → (a && b) ≡ true → (a ≡ true) × (b ≡ true)
both true b h = (refl, h)
both false b h = cc
