-- Stamps that are kept in range.
use Rattle.std.proofs.Common.{◌≡◌, refl, ℕ, zero, suc, Bool, true, false, ◌&&◌, List, [], ◌∷◌, Option, slice_set}
use Rattle.tw_types.specs.declared.datagram.Echo.{Echo}
use Rattle.node_core.specs.Echoes.{is_in_range, are_in_range}
use Rattle.std.proofs.lemmas.Bool.{and_parts, and_from}

pub range_set : (heard : List (Option Echo)) (i : ℕ) (e : Option Echo) → are_in_range heard ≡ true → is_in_range e ≡ true → are_in_range (slice_set heard i e) ≡ true
range_set [] i e all one = refl
range_set (x ∷ xs) zero e all one = and_from (is_in_range e) (are_in_range xs) one (and_parts (is_in_range x) (are_in_range xs) all).1
range_set (x ∷ xs) (suc i) e all one = and_from (is_in_range x) (are_in_range (slice_set xs i e)) (and_parts (is_in_range x) (are_in_range xs) all).0 (range_set xs i e (and_parts (is_in_range x) (are_in_range xs) all).1 one)
