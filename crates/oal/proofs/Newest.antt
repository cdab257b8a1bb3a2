-- The last entries of a list, as entries join it.
use Rattle.std.proofs.Common.{◌≡◌, sym, ◌∙◌, ap, ℕ, ◌+◌, ◌-◌, ◌≤◌, List, ◌++◌, length, drop, arith, length-append, length-drop, append_assoc}
use Rattle.std.proofs.lemmas.List.{drop-drop, drop-append-le}
use Rattle.tw_types.specs.declared.message.Kept.{Kept}
use Rattle.oal.specs.Recent.{Recent, newest, grown}

drop_joined : (n m : ℕ) (xs ys : List Kept) → n ≤ length xs → drop m (drop n xs ++ ys) ≡ drop (n + m) (xs ++ ys)
drop_joined n m xs ys h = ap (drop m) (sym (drop-append-le n xs ys h)) ∙ drop-drop m n (xs ++ ys)

-- which of the first ones were left out before doesn't count
pub newest_joined : (xs ys : List Kept) → newest (newest xs ++ ys) ≡ newest (xs ++ ys)
newest_joined xs ys =
    let n : ℕ = length xs - 64 in
    let left : length (drop n xs ++ ys) ≡ (length xs - n) + length ys = length-append (drop n xs) ys ∙ ap (λ k. k + length ys) (length-drop n xs) in
    let all : length (xs ++ ys) ≡ length xs + length ys = length-append xs ys in
    let same : n + (length (drop n xs ++ ys) - 64) ≡ length (xs ++ ys) - 64 = omega arith in
    drop_joined n (length (drop n xs ++ ys) - 64) xs ys (omega arith) ∙ ap (λ k. drop k (xs ++ ys)) same

-- growing twice
pub grown_twice : (xs ys : List Kept) (o : Recent) → grown ys (grown xs o) ≡ grown (xs ++ ys) o
grown_twice xs ys o =
    let kept : newest (newest (o.kept ++ xs) ++ ys) ≡ newest (o.kept ++ (xs ++ ys)) = newest_joined (o.kept ++ xs) ys ∙ ap newest (append_assoc o.kept xs ys) in
    let more : o.length + length xs + length ys ≡ o.length + length (xs ++ ys) = omega (arith, length-append xs ys) in
    cc
