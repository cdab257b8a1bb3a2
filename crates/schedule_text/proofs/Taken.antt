-- The numbers that stand before the fields that are left.
use Rattle.std.proofs.Common.{Result, ◌≡◌, ℕ, ◌+◌, ◌<◌, ◌≤◌, ◌^◌, zero, suc, refl, ap, sym, ◌∙◌, List, [], ◌∷◌, ◌++◌, length, get_or, take, drop, set, map, arith, subst, drop-cons}
use Rattle.std.specs.Fmt.{decimal}
use Rattle.std.specs.List.{All}
use Rattle.std.proofs.lemmas.List.Elements.{All-nil, All-push}
use Rattle.std.proofs.lemmas.Result.{MatchResult-from_err}
use Rattle.std.specs.Result.{OnErr, IsErr}
use Rattle.std.proofs.lemmas.Grind.{common_steps}
use Rattle.tw_machine.proofs.LineNumbers.{IsSmall}

last_written : (xs : List ℕ) (i v : ℕ) → i < length xs → take (i + 1) (set xs i v) ≡ take i xs ++ v ∷ []
last_written xs i v l = grind (arith, common_steps)

map_push : (f : ℕ → List ℕ) (xs : List ℕ) (v : ℕ) (next : List (List ℕ)) → map f (xs ++ v ∷ []) ++ next ≡ map f xs ++ (f v ∷ next)
map_push f [] v next = refl
map_push f (x ∷ xs) v next = ap (λ l. f x ∷ l) (map_push f xs v next)

pub record IsTaken (fields left : List (List ℕ)) (numbers : List ℕ) : Type 0 where
  pub small : All IsSmall numbers
  pub text : fields ≡ map decimal numbers ++ left

pub one_taken : (fields left next : List (List ℕ)) (xs : List ℕ) (i v : ℕ) → i < length xs → v < 2 ^ 60 → IsTaken fields left (take i xs) → left ≡ decimal v ∷ next → IsTaken fields next (take (i + 1) (set xs i v))
one_taken fields left next xs i v l small h e = subst (IsTaken fields next) (sym (last_written xs i v l)) (record {
  small = All-push IsSmall (take i xs) v h.small small;
  text = h.text ∙ ap (λ r. map decimal (take i xs) ++ r) e ∙ sym (map_push decimal (take i xs) v next);
})

pub none_taken : (fields : List (List ℕ)) → IsTaken fields fields []
none_taken fields = record { small = All-nil IsSmall; text = refl }

pub all_taken : (fields left : List (List ℕ)) (xs : List ℕ) (i : ℕ) → length xs ≤ i → IsTaken fields left (take i xs) → All IsSmall xs × (fields ≡ map decimal xs ++ left)
all_taken fields left xs i l h =
    let whole : take i xs ≡ xs = grind (arith, common_steps) in
    (subst (All IsSmall) whole h.small, h.text ∙ ap (λ r. map decimal r ++ left) whole)

-- what stands behind the first numbers of two equal rows
strip : (xs ns : List ℕ) (i : ℕ) (left more : List (List ℕ)) → i < length xs → i < length ns → map decimal (take i xs) ++ left ≡ map decimal ns ++ more → left ≡ map decimal (drop i ns) ++ more
strip xs ns zero left more l m e = e
strip [] ns (suc i) left more l m e = absurd (omega arith)
strip (x ∷ xs) [] (suc i) left more l m e = absurd (omega arith)
strip (x ∷ xs) (n ∷ ns) (suc i) left more l m e =
    let rest : map decimal (take i xs) ++ left ≡ map decimal ns ++ more = cc in
    strip xs ns i left more (omega arith) (omega arith) rest

pub none_next : (fields left : List (List ℕ)) (xs : List ℕ) (i : ℕ) → i < length xs → IsTaken fields left (take i xs) → ((n : ℕ) (more : List (List ℕ)) → n < 2 ^ 60 → left ≡ decimal n ∷ more → ⊥) →
    (ns : List ℕ) (more : List (List ℕ)) → length ns ≡ length xs → All IsSmall ns → fields ≡ map decimal ns ++ more → ⊥
none_next fields left xs i l h none ns more same small e =
    let behind = strip xs ns i left more l (omega arith) (sym h.text ∙ e) in
    let cell = drop-cons ns i 0 (omega arith) in
    none (get_or ns i 0) (map decimal (drop (suc i) ns) ++ more) (small i 0 (omega arith)) (behind ∙ ap (λ r. map decimal r ++ more) cell)

pub on_err : {T E Q : Type 0} (r : Result T E) → IsErr r → Q → OnErr r Q
on_err {T} {E} {Q} r e q = MatchResult-from_err r (λ _. Unit {0}) (λ _. Q) e (λ _. q)
