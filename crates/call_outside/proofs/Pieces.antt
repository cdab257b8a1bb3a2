-- A copy by pieces.
use Rattle.std.proofs.Common.{◌≡◌, ℕ, List, [], ◌++◌, take, drop, Option, Some, refl, append_assoc, append-nil}
use Rattle.std.proofs.Math.Seq.{drop-nil}
use Rattle.std.proofs.lemmas.List.{take-append-drop}

-- nothing is left of nothing
pub left_of_none : (left : Option (List ℕ)) (rest : List ℕ) (n : ℕ) → left ≡ Some (drop n rest) → rest ≡ [] → left ≡ Some []
left_of_none left rest n e none = rw (e, none, drop-nil n) refl

-- all is done where nothing is left
pub all_done : (taken : Option (List ℕ)) (all before done rest : List ℕ) → taken ≡ Some (before ++ done) → done ++ rest ≡ all → rest ≡ [] → taken ≡ Some (before ++ all)
all_done taken all before done rest e sum none = rw (e, ← sum, none, append-nil) refl

-- one more piece is written
pub moved_on : (taken : Option (List ℕ)) (before done piece : List ℕ) (n : ℕ) → taken ≡ Some ((before ++ done) ++ take n piece) → taken ≡ Some (before ++ (done ++ take n piece))
moved_on taken before done piece n e = rw e (rw append_assoc refl)

-- and that is what was read
pub still_all : (all done rest piece : List ℕ) (n m : ℕ) → done ++ rest ≡ all → n ≡ m → take n piece ≡ take n rest → (done ++ take m piece) ++ drop n rest ≡ all
still_all all done rest piece n m e same given = rw (← same, given, append_assoc, take-append-drop n rest) e
