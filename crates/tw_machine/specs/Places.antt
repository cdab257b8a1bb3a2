-- Words on the places of a list, counted from 0.
use Rattle.std.specs.Prelude.{ℕ, ◌≡◌, ◌<◌, ◌⊎◌, List, [], ◌∷◌, Some, slice_get}

-- P holds of each place of a list and of what stands there
abbrev pub Each : {X : Type 0} → List X → (ℕ → X → Type 0) → Type 0
Each {X} xs P = (i : ℕ) (x : X) → slice_get xs i ≡ Some x → P i x

-- P holds of some place of a list and of what stands there
abbrev pub Exists : {X : Type 0} → List X → (ℕ → X → Type 0) → Type 0
Exists {X} xs P = (i : ℕ) × (x : X) × (slice_get xs i ≡ Some x) × P i x

-- the first number in which two rows of numbers differ is less in this one
abbrev pub Below : List ℕ → List ℕ → Type 0
Below (x ∷ xs) (y ∷ ys) = (x < y) ⊎ ((x ≡ y) × Below xs ys)
Below [] ys = ⊥
Below (x ∷ xs) [] = ⊥
