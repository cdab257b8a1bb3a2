-- A ballot has room for the report of each process that didn't report yet.
use Rattle.std.proofs.Common.{◌≡◌, ℕ, ◌<◌, ◌≤◌, Bool, true, false, List, [], ◌∷◌, length, map, refl, eqb, arith}
use Rattle.std.proofs.lemmas.List.{length-map}
use Rattle.std.specs.Prelude.{◌||◌, ◌==◌}
use Rattle.std.specs.List.{list_any, AllByRecursion, IsDistinct}
use Rattle.std.proofs.lemmas.Bool.Decides.{nat_tests}
use Rattle.std.proofs.lemmas.Map.Steps.{length-le_from_distinct_below}
use Rattle.tw_types.specs.declared.message.Report.{Report}
use Rattle.tw_types.specs.Ranges.{Distinct, ReportFits}

abbrev pub whos : List Report → List ℕ
whos reports = map (λ (r : Report). r.member.who) reports

pub or_false : (a b : Bool) → (a || b) ≡ false → (a ≡ false) × (b ≡ false)
or_false true b h = cc
or_false false b h = (refl, h)

-- no report of this process is among them
pub others : (who : ℕ) (xs : List Report) → list_any (λ (r : Report). r.member.who == who) xs ≡ false → AllByRecursion (λ (r : Report). (who ≡ r.member.who) → ⊥) xs
others who [] h = tt
others who (r ∷ xs) h =
    let e = or_false (r.member.who == who) (list_any (λ (r : Report). r.member.who == who) xs) h in
    let first = e.0 in
    (λ same. grind (arith, nat_tests), others who xs e.1)

others_apart : (who : ℕ) (xs : List Report) → AllByRecursion (λ (r : Report). (who ≡ r.member.who) → ⊥) xs → AllByRecursion (λ q. eqb who q ≡ false) (whos xs)
others_apart who [] h = tt
others_apart who (r ∷ xs) h = let first = h.0 in (grind (arith, nat_tests), others_apart who xs h.1)

numbers_apart : (xs : List Report) → Distinct xs → IsDistinct eqb (whos xs)
unfolding IsDistinct
numbers_apart [] h = tt
numbers_apart (r ∷ xs) h = (others_apart r.member.who xs h.0, numbers_apart xs h.1)

numbers_below : (n : ℕ) (xs : List Report) → AllByRecursion (ReportFits n) xs → (q : ℕ) → list_any (eqb q) (whos xs) ≡ true → q < n
numbers_below n [] h q e = cc
numbers_below n (r ∷ xs) h q e = go (eqb q r.member.who) refl (numbers_below n xs h.1 q)
  where
    go : (b : Bool) → eqb q r.member.who ≡ b → (list_any (eqb q) (whos xs) ≡ true → q < n) → q < n
    go true same rest = let fits = h.0.who in grind (arith, nat_tests)
    go false other rest = rest (rw other at e)

whos_length : (xs : List Report) → length (whos xs) ≡ length xs
whos_length xs = simp length-map

all_apart : (n who : ℕ) (xs : List Report) → Distinct xs → list_any (λ (r : Report). r.member.who == who) xs ≡ false → IsDistinct eqb (who ∷ whos xs)
unfolding IsDistinct
all_apart n who xs apart none = (others_apart who xs (others who xs none), numbers_apart xs apart)

-- of different processes there are n at most
pub at_most : (n : ℕ) (xs : List Report) → Distinct xs → AllByRecursion (ReportFits n) xs → length xs ≤ n
at_most n xs apart fit = omega (arith, length-le_from_distinct_below (whos xs) n (numbers_apart xs apart) (numbers_below n xs fit), whos_length xs)

-- and fewer than n where one of the n is left
pub few_reports : (n who : ℕ) (xs : List Report) → who < n → Distinct xs → AllByRecursion (ReportFits n) xs → list_any (λ (r : Report). r.member.who == who) xs ≡ false → length xs < n
few_reports n who xs lt apart fit none =
    let all : IsDistinct eqb (who ∷ whos xs) = all_apart n who xs apart none in
    let low : (q : ℕ) → list_any (eqb q) (who ∷ whos xs) ≡ true → q < n = λ q e. go q (eqb q who) refl e in
    omega (arith, length-le_from_distinct_below (who ∷ whos xs) n all low, whos_length xs)
  where
    go : (q : ℕ) (b : Bool) → eqb q who ≡ b → list_any (eqb q) (who ∷ whos xs) ≡ true → q < n
    go q true same e = grind (arith, nat_tests)
    go q false other e = numbers_below n xs fit q (rw other at e)
