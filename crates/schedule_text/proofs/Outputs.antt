-- Bytes that are written piece by piece, and counts that rise on the way.
use Rattle.std.proofs.Common.{◌≡◌, inl, inr, ◌≤◌, ◌-◌, refl, sym, ap, ◌∙◌, ℕ, List, [], ◌∷◌, ◌++◌, length, take, drop, Option, Some, arith, append_assoc}
use Rattle.std.proofs.lemmas.List.{append-nil, take-append-drop, take_all, length-drop}
use Rattle.tw_io.specs.Faults.{IsRisen}

-- a front of the bytes was taken, the rest wasn't
pub record Progress (before now : Option (List ℕ)) (bytes rest : List ℕ) : Type 0 where
  pub front : List ℕ
  pub split : bytes ≡ front ++ rest
  pub taken : (had : List ℕ) → before ≡ Some had → now ≡ Some (had ++ front)

pub rest_is_whole : (bytes : List ℕ) (n : ℕ) → take (length bytes - n) (drop n bytes) ≡ drop n bytes
rest_is_whole bytes n = take_all (length bytes - n) (drop n bytes) (omega (arith, length-drop n bytes))

pub no_progress : (before : Option (List ℕ)) (bytes : List ℕ) → Progress before before bytes bytes
no_progress before bytes = record { front = []; split = refl; taken = λ had e. rw append-nil e }

pub more_progress : (before now later : Option (List ℕ)) (bytes rest : List ℕ) (n : ℕ) → Progress before now bytes rest
    → ((had : List ℕ) → now ≡ Some had → later ≡ Some (had ++ take n rest)) → Progress before later bytes (drop n rest)
more_progress before now later bytes rest n p takes = record {
  front = p.front ++ take n rest;
  split = p.split ∙ ap (λ x. p.front ++ x) (sym (parts n rest)) ∙ sym (append_assoc p.front (take n rest) (drop n rest));
  taken = λ had e. rw (← append_assoc) (takes (had ++ p.front) (p.taken had e));
}
  where
    parts : (n : ℕ) (xs : List ℕ) → take n xs ++ drop n xs ≡ xs
    parts n xs = take-append-drop n xs

front_of : (front rest : List ℕ) → take (length front) (front ++ rest) ≡ front
front_of [] rest = refl
front_of (b ∷ front) rest = ap (λ x. b ∷ x) (front_of front rest)

-- what was taken when the sink failed
pub cut_off : (before now : Option (List ℕ)) (bytes rest : List ℕ) → Progress before now bytes rest → (had : List ℕ) → before ≡ Some had → (n : ℕ) × (now ≡ Some (had ++ take n bytes))
cut_off before now bytes rest p had e = (length p.front, rw (p.split, front_of) (p.taken had e))

pub all_taken : (before now : Option (List ℕ)) (bytes rest : List ℕ) → Progress before now bytes rest → length rest ≡ 0 → (had : List ℕ) → before ≡ Some had → now ≡ Some (had ++ bytes)
all_taken before now bytes [] p none had e = rw (p.split, append-nil) (p.taken had e)
all_taken before now bytes (b ∷ rest) p none had e = absurd (omega arith)

pub risen_later : (before mid now : ℕ) → before ≤ mid → IsRisen mid now → IsRisen before now
risen_later before mid now low (inl rose) = inl (omega arith)
risen_later before mid now low (inr last) = inr last
