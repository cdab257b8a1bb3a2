-- The words of a command.
use Rattle.std.proofs.Common.{◌≡◌, ◌<◌, ◌≤◌, sym, ap, ◌∙◌, ℕ, List, [], ◌∷◌, length, map, get_or, arith}

-- a list with one item, seen by f
pub only_one : {X : Type 0} (f : X → List ℕ) (xs : List X) (x : X) (word : List ℕ) → 1 ≤ length xs → length xs < 2 → x ≡ get_or xs 0 x → (f x ≡ word → map f xs ≡ word ∷ []) × (map f xs ≡ word ∷ [] → f x ≡ word)
only_one f [] x word some few e = absurd (omega arith)
only_one f (y ∷ []) x word some few e = (λ h. ap (λ t. t ∷ []) (sym (ap f e) ∙ h), λ h. ap f e ∙ (cc))
only_one f (y ∷ z ∷ xs) x word some few e = absurd (omega arith)
