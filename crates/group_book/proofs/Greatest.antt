-- The greatest of pairs, and that of two lists of reports joined.
use Rattle.std.proofs.Common.{◌≡◌, ℕ, ◌<◌, ◌≤◌, ◌⊎◌, Bool, true, false, List, [], ◌∷◌, ◌++◌, map, Some, None, refl, sym, ap, subst, inl, inr, ◌∙◌, arith}
use Rattle.std.specs.Prelude.{filter, fold}
use Rattle.std.specs.List.{reduce, AllByRecursion}
use Rattle.std.proofs.lemmas.List.{map-append}
use Rattle.std.proofs.lemmas.List.Elements.{filter-append}
use Rattle.std.proofs.lemmas.Bool.Decides.{nat_tests}
use Rattle.tw_types.specs.declared.message.Kind.TheVariants.{Informed}
use Rattle.tw_types.specs.declared.message.Report.{Report}
use Rattle.tw_types.specs.Ranges.{IsNotBelow}
use Rattle.tw_types.specs.Items.{In}
use Rattle.tw_types.specs.Decisions.{is_older}
use Rattle.tw_types.specs.Reports.{is_by_informed, greater_pair}

-- the first pair isn't below the second
abbrev pub Reaches : ℕ × ℕ → ℕ × ℕ → Type 0
Reaches m p = (p.0 < m.0) ⊎ ((p.0 ≡ m.0) × (p.1 ≤ m.1))

pub over : (m a b : ℕ × ℕ) → Reaches m a → Reaches a b → Reaches m b
over m a b x y = grind arith

-- ---- the greater of two

greater_reaches : (a p : ℕ × ℕ) → Reaches (greater_pair a p) a × Reaches (greater_pair a p) p
greater_reaches a p = (grind (arith, nat_tests), grind (arith, nat_tests))

reached : (m a p : ℕ × ℕ) → Reaches m a → Reaches m p → Reaches m (greater_pair a p)
reached m a p x y = go (is_older a.0 a.1 p.0 p.1) refl
  where
    go : (t : Bool) → is_older a.0 a.1 p.0 p.1 ≡ t → Reaches m (greater_pair a p)
    go true e = rw e y
    go false e = rw e x

greater_is : (a p : ℕ × ℕ) → (greater_pair a p ≡ a) ⊎ (greater_pair a p ≡ p)
greater_is a p = go (is_older a.0 a.1 p.0 p.1) refl
  where
    go : (t : Bool) → is_older a.0 a.1 p.0 p.1 ≡ t → (greater_pair a p ≡ a) ⊎ (greater_pair a p ≡ p)
    go true e = inr (rw e refl)
    go false e = inl (rw e refl)

-- two pairs that reach each other are one
same_pair : (m a : ℕ × ℕ) → Reaches m a → Reaches a m → a ≡ m
same_pair m a x y = grind arith

-- ---- the greatest of a list

fold_is : (a : ℕ × ℕ) (ps : List (ℕ × ℕ)) → Reaches (fold greater_pair a ps) a × AllByRecursion (Reaches (fold greater_pair a ps)) ps × ((a ≡ fold greater_pair a ps) ⊎ In (fold greater_pair a ps) ps)
fold_is a [] = (inr (refl, omega arith), tt, inl refl)
fold_is a (p ∷ ps) =
    let rest = fold_is (greater_pair a p) ps in
    let both = greater_reaches a p in
    let m : ℕ × ℕ = fold greater_pair (greater_pair a p) ps in
    (over m (greater_pair a p) a rest.0 both.0, (over m (greater_pair a p) p rest.0 both.1, rest.1), from m (greater_is a p) rest.2)
  where
    from : (m : ℕ × ℕ) → (greater_pair a p ≡ a) ⊎ (greater_pair a p ≡ p) → (greater_pair a p ≡ m) ⊎ In m ps → (a ≡ m) ⊎ ((m ≡ p) ⊎ In m ps)
    from m (inl e) (inl i) = inl (sym e ∙ i)
    from m (inr e) (inl i) = inr (inl (sym i ∙ e))
    from m e (inr i) = inr (inr i)

pub of_all : {X : Type 0} (P : X → Type 0) (xs : List X) (x : X) → AllByRecursion P xs → In x xs → P x
of_all P [] x h i = absurd i
of_all P (y ∷ xs) x h (inl e) = subst P (sym e) h.0
of_all P (y ∷ xs) x h (inr i) = of_all P xs x h.1 i

-- one that is among them, and reaches all, is the greatest
pub greatest_is : (ps : List (ℕ × ℕ)) (m : ℕ × ℕ) → AllByRecursion (Reaches m) ps → In m ps → reduce greater_pair ps ≡ Some m
greatest_is [] m all i = absurd i
greatest_is (p ∷ ps) m all i =
    let f = fold_is p ps in
    let top : ℕ × ℕ = fold greater_pair p ps in
    let up : Reaches top m = of_all (Reaches top) (p ∷ ps) m (f.0, f.1) i in
    let down : Reaches m top = of_all (Reaches m) (p ∷ ps) top all (from top f.2) in
    ap Some (same_pair m top down up)
  where
    from : (top : ℕ × ℕ) → (p ≡ top) ⊎ In top ps → In top (p ∷ ps)
    from top (inl e) = inl (sym e)
    from top (inr j) = inr j

pub greatest_reaches : (ps : List (ℕ × ℕ)) (m : ℕ × ℕ) → reduce greater_pair ps ≡ Some m → AllByRecursion (Reaches m) ps × In m ps
greatest_reaches [] m e = cc
greatest_reaches (p ∷ ps) m e =
    let f = fold_is p ps in
    let same : fold greater_pair p ps ≡ m = cc in
    subst (λ (x : ℕ × ℕ). AllByRecursion (Reaches x) (p ∷ ps) × In x (p ∷ ps)) same ((f.0, f.1), from (fold greater_pair p ps) f.2)
  where
    from : (top : ℕ × ℕ) → (p ≡ top) ⊎ In top ps → In top (p ∷ ps)
    from top (inl s) = inl (sym s)
    from top (inr j) = inr j

-- there is none of an empty list alone
pub none_of : (ps : List (ℕ × ℕ)) → reduce greater_pair ps ≡ None → ps ≡ []
none_of [] e = refl
none_of (p ∷ ps) e = cc

-- ---- the pairs of informed reports

abbrev pub pairs : List Report → List (ℕ × ℕ)
pairs xs = map (λ (r : Report). (r.group, r.turn)) (filter is_by_informed xs)

pub pairs_joined : (xs ys : List Report) → pairs (xs ++ ys) ≡ pairs xs ++ pairs ys
pairs_joined xs ys = ap (map (λ (r : Report). (r.group, r.turn))) (filter-append is_by_informed xs ys) ∙ map-append (λ (r : Report). (r.group, r.turn)) (filter is_by_informed xs) (filter is_by_informed ys)

pub pair_in : (r : Report) (xs : List Report) → r.kind ≡ Informed → In r xs → In (r.group, r.turn) (pairs xs)
pair_in r [] k i = i
pair_in r (x ∷ xs) k (inl e) = rw (ap (λ (z : Report). z.kind) (sym e) ∙ k) (inl (ap (λ (z : Report). (z.group, z.turn)) e))
pair_in r (x ∷ xs) k (inr i) = go (is_by_informed x) refl (pair_in r xs k i)
  where
    go : (t : Bool) → is_by_informed x ≡ t → In (r.group, r.turn) (pairs xs) → In (r.group, r.turn) (pairs (x ∷ xs))
    go true e j = rw e (inr j)
    go false e j = rw e j

pub pairs_reached : (m : ℕ × ℕ) (xs : List Report) → AllByRecursion (IsNotBelow m.0 m.1) xs → AllByRecursion (Reaches m) (pairs xs)
pairs_reached m [] h = tt
pairs_reached m (x ∷ xs) h = go (is_by_informed x) refl (pairs_reached m xs h.1)
  where
    go : (t : Bool) → is_by_informed x ≡ t → AllByRecursion (Reaches m) (pairs xs) → AllByRecursion (Reaches m) (pairs (x ∷ xs))
    go true e rest = rw e (h.0, rest)
    go false e rest = rw e rest
