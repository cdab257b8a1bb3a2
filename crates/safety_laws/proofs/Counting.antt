-- Two majorities of a team share a process.
use Rattle.std.proofs.Common.{◌≡◌, refl, sym, ◌∙◌, ◌⊎◌, inl, inr, ℕ, ◌+◌, ◌/◌, ◌≤◌, ◌<◌, nat_eq, Bool, true, false, cond, ◌||◌, List, [], ◌∷◌, ◌++◌, map, length, filter, count_by, arith, length-append}
use Rattle.std.specs.List.{AllByRecursion, IsDistinct, list_any}
use Rattle.std.proofs.lemmas.Bool.{cases_Bool, or_cases}
use Rattle.std.proofs.lemmas.List.{length-map}
use Rattle.std.proofs.lemmas.List.Sums.{length-filter}
use Rattle.std.proofs.lemmas.Map.Steps.{length-le_from_distinct_below}
use Rattle.tw_machine.proofs.Tables.{equal_numbers}
use Rattle.tw_types.proofs.Lists.{all_joined}
use Rattle.tw_types.specs.Items.{In}
use Rattle.safety_laws.proofs.Lists.{of_each}

-- ---- two lists of numbers

-- a number that is found in a list stands there
found : (q : ℕ) (xs : List ℕ) → list_any (nat_eq q) xs ≡ true → In q xs
found q [] e = absurd (cc)
found q (x ∷ xs) e = elim (or_cases (nat_eq q x) (list_any (nat_eq q) xs) e) [ inl t ↦ inl (equal_numbers q x t) | inr t ↦ inr (found q xs t) ]

neither : (a b : Bool) → (a || b) ≡ false → (a ≡ false) × (b ≡ false)
neither true b e = absurd (cc)
neither false b e = (refl, e)

-- one that isn't found differs from each
differs : (q : ℕ) (xs : List ℕ) → list_any (nat_eq q) xs ≡ false → AllByRecursion (λ y. nat_eq q y ≡ false) xs
differs q [] e = tt
differs q (x ∷ xs) e = let none = neither (nat_eq q x) (list_any (nat_eq q) xs) e in (none.0, differs q xs none.1)

-- two lists share a number, or all numbers of both differ
parted : (xs ys : List ℕ) → IsDistinct nat_eq xs → IsDistinct nat_eq ys → ((q : ℕ) × In q xs × In q ys) ⊎ IsDistinct nat_eq (xs ++ ys)
unfolding IsDistinct
parted [] ys a b = inr b
parted (x ∷ xs) ys a b =
    elim (cases_Bool (list_any (nat_eq x) ys)) [
      | inl there ↦ inl (x, inl refl, found x ys there)
      | inr none ↦ elim (parted xs ys a.1 b) [ inl s ↦ inl (s.0, inr s.1, s.2) | inr d ↦ inr (all_joined (λ y. nat_eq x y ≡ false) xs ys a.0 (differs x ys none), d) ]
    ]

-- two lists of different numbers below n, of more than n together, share one
shared : (n : ℕ) (xs ys : List ℕ) → IsDistinct nat_eq xs → IsDistinct nat_eq ys → AllByRecursion (λ q. q < n) xs → AllByRecursion (λ q. q < n) ys → n < length xs + length ys → (q : ℕ) × In q xs × In q ys
shared n xs ys a b low high many = elim (parted xs ys a b) [ inl s ↦ s | inr d ↦ absurd (full d) ]
  where
    full : IsDistinct nat_eq (xs ++ ys) → ⊥
    full d =
        let few = length-le_from_distinct_below (xs ++ ys) n d (λ q there. of_each (λ q. q < n) (xs ++ ys) q (all_joined (λ q. q < n) xs ys low high) (found q (xs ++ ys) there)) in
        let both = length-append xs ys in
        omega arith

-- ---- majorities

-- more than half of n processes, each once
pub record IsMajority (n : ℕ) (processes : List ℕ) : Type 0 where
  pub distinct : IsDistinct nat_eq processes
  pub below : AllByRecursion (λ q. q < n) processes
  pub enough : n / 2 + 1 ≤ length processes

shared_process : (n : ℕ) (xs ys : List ℕ) → IsMajority n xs → IsMajority n ys → (q : ℕ) × In q xs × In q ys
shared_process n xs ys a b =
    let one = a.enough in
    let other = b.enough in
    let many : n < length xs + length ys = omega arith in
    shared n xs ys a.distinct b.distinct a.below b.below many

-- ---- the processes of the items that pass a test

abbrev pub processes_by : {X : Type 0} → (X → ℕ) → (X → Bool) → List X → List ℕ
processes_by who test xs = map who (filter test xs)

-- what holds of both choices holds of the chosen one
either_way : {A : Type 0} (P : A → Type 0) (b : Bool) (x y : A) → (b ≡ true → P x) → (b ≡ false → P y) → P (cond b x y)
either_way P true x y f g = f refl
either_way P false x y f g = g refl

-- what holds of each process holds of those
kept_by : {X : Type 0} (P : ℕ → Type 0) (who : X → ℕ) (test : X → Bool) (xs : List X) → AllByRecursion P (map who xs) → AllByRecursion P (processes_by who test xs)
kept_by P who test [] all = tt
kept_by P who test (x ∷ xs) all =
    let rest = kept_by P who test xs all.1 in
    either_way (λ ys. AllByRecursion P (map who ys)) (test x) (x ∷ filter test xs) (filter test xs) (λ e. (all.0, rest)) (λ e. rest)

distinct_by : {X : Type 0} (who : X → ℕ) (test : X → Bool) (xs : List X) → IsDistinct nat_eq (map who xs) → IsDistinct nat_eq (processes_by who test xs)
unfolding IsDistinct
distinct_by who test [] d = tt
distinct_by who test (x ∷ xs) d =
    let rest = distinct_by who test xs d.1 in
    either_way (λ ys. IsDistinct nat_eq (map who ys)) (test x) (x ∷ filter test xs) (filter test xs) (λ e. (kept_by (λ q. nat_eq (who x) q ≡ false) who test xs d.0, rest)) (λ e. rest)

-- they are as many as pass
length_by : {X : Type 0} (who : X → ℕ) (test : X → Bool) (xs : List X) → length (processes_by who test xs) ≡ count_by test xs
length_by who test xs = length-map (filter test xs) who ∙ length-filter test xs

-- where they are a majority
pub majority_by : {X : Type 0} (n : ℕ) (who : X → ℕ) (test : X → Bool) (xs : List X) → IsDistinct nat_eq (map who xs) → AllByRecursion (λ q. q < n) (map who xs) → n / 2 + 1 ≤ count_by test xs → IsMajority n (processes_by who test xs)
majority_by n who test xs distinct below enough = record {
  distinct = distinct_by who test xs distinct;
  below = kept_by (λ q. q < n) who test xs below;
  enough = rw (length_by who test xs) enough;
}

-- each of them is the process of an item that passes
pub passes : {X : Type 0} (who : X → ℕ) (test : X → Bool) (xs : List X) (q : ℕ) → In q (processes_by who test xs) → (x : X) × In x xs × (test x ≡ true) × (who x ≡ q)
passes who test [] q i = absurd i
passes who test (x ∷ xs) q i =
    let older : In q (processes_by who test xs) → (y : _) × In y (x ∷ xs) × (test y ≡ true) × (who y ≡ q) = λ j. (let r = passes who test xs q j in (r.0, inr r.1, r.2, r.3)) in
    either_way (λ ys. In q (map who ys) → (y : _) × In y (x ∷ xs) × (test y ≡ true) × (who y ≡ q)) (test x) (x ∷ filter test xs) (filter test xs)
    (λ e j. elim j [ inl same ↦ (x, inl refl, e, sym same) | inr more ↦ older more ]) (λ e j. older j) i

-- two majorities of items share a process
pub shared_by : {X Y : Type 0} (n : ℕ) (who : X → ℕ) (test : X → Bool) (xs : List X) (who' : Y → ℕ) (test' : Y → Bool) (ys : List Y) → IsMajority n (processes_by who test xs) → IsMajority n (processes_by who' test' ys)
    → (x : X) × (y : Y) × In x xs × In y ys × (test x ≡ true) × (test' y ≡ true) × (who x ≡ who' y)
shared_by n who test xs who' test' ys a b =
    let s = shared_process n (processes_by who test xs) (processes_by who' test' ys) a b in
    let x = passes who test xs s.0 s.1 in
    let y = passes who' test' ys s.0 s.2 in
    (x.0, y.0, x.1, y.1, x.2, y.2, x.3 ∙ sym y.3)
