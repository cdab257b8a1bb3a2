-- Facts on concrete lists, decided by computation.
use Rattle.std.proofs.Common.{sym, inl, inr, ◌≡◌, refl, subst, ℕ, zero, suc, ◌≤◌, ◌<◌, ◌==◌, ◌↔◌, ◌⊎◌, arith, Bool, true, false, List, [], ◌∷◌, Some, None, slice_get, leb, ltb, Decides}
use Rattle.std.proofs.lemmas.Bool.Decides.{Decides-eqb, Decides-ltb, nat_tests}
use Rattle.std.proofs.lemmas.Option.{same_Some}
use Rattle.tw_machine.specs.Places.{Each, Exists, Below}

-- a decision's answer, and what it proves
abbrev pub says : {P : Type 0} → Dec P → Bool
says (yes p) = true
says (no h) = false

pub holds : {P : Type 0} (d : Dec P) → says d ≡ true → P
holds (yes p) e = p
holds (no h) e = cc

pub fails : {P : Type 0} (d : Dec P) → says d ≡ false → P → ⊥
fails (yes p) e q = cc
fails (no h) e q = h q

pub not_true : false ≡ true → ⊥
not_true e = cc

abbrev pub by_test : {P : Type 0} (b : Bool) → Decides b P → Dec P
by_test true d = yes (d.0 refl)
by_test false d = no (λ p. not_true (d.1 p))

pub leb_decides : (a b : ℕ) → Decides (leb a b) (a ≤ b)
leb_decides a b = grind (arith, nat_tests)

abbrev pub dec_same : (a b : ℕ) → Dec (a ≡ b)
dec_same a b = by_test (a == b) (Decides-eqb a b)

abbrev pub dec_le : (a b : ℕ) → Dec (a ≤ b)
dec_le a b = by_test (leb a b) (leb_decides a b)

abbrev pub dec_lt : (a b : ℕ) → Dec (a < b)
dec_lt a b = by_test (ltb a b) (Decides-ltb a b)

abbrev pub dec_like : {P Q : Type 0} → (P → Q) → (Q → P) → Dec P → Dec Q
dec_like f g (yes p) = yes (f p)
dec_like f g (no h) = no (λ q. h (g q))

abbrev pub dec_not : {P : Type 0} → Dec P → Dec (P → ⊥)
dec_not (yes p) = no (λ h. h p)
dec_not (no h) = yes h

-- the second decision is made only where the first holds
abbrev also : {P Q : Type 0} → P → Dec Q → Dec (P × Q)
also p (yes q) = yes (p, q)
also p (no h) = no (λ t. h t.1)

abbrev pub dec_both : {P Q : Type 0} → Dec P → (P → Dec Q) → Dec (P × Q)
dec_both (yes p) f = also p (f p)
dec_both (no h) f = no (λ t. h t.0)

abbrev given : {P Q : Type 0} → P → Dec Q → Dec (P → Q)
given p (yes q) = yes (λ a. q)
given p (no h) = no (λ f. h (f p))

abbrev pub dec_if : {P Q : Type 0} → Dec P → (P → Dec Q) → Dec (P → Q)
dec_if (yes p) f = given p (f p)
dec_if (no h) f = yes (λ p. absurd (h p))

abbrev pub dec_iff : {P Q : Type 0} → Dec P → Dec Q → Dec (P ↔ Q)
dec_iff (yes p) (yes q) = yes (λ a. q, λ b. p)
dec_iff (yes p) (no k) = no (λ t. k (t.0 p))
dec_iff (no h) (yes q) = no (λ t. h (t.1 q))
dec_iff (no h) (no k) = yes (λ p. absurd (h p), λ q. absurd (k q))

abbrev otherwise : {P Q : Type 0} → (P → ⊥) → Dec Q → Dec (P ⊎ Q)
otherwise h (yes q) = yes (inr q)
otherwise h (no k) = no (λ s. elim s [ inl p ↦ h p | inr q ↦ k q ])

abbrev pub dec_or : {P Q : Type 0} → Dec P → (Unit {0} → Dec Q) → Dec (P ⊎ Q)
dec_or (yes p) f = yes (inl p)
dec_or (no h) f = otherwise h (f tt)

pub each_none : {X : Type 0} (P : ℕ → X → Type 0) → Each [] P
each_none P i x e = cc

pub each_cons : {X : Type 0} (P : ℕ → X → Type 0) (x : X) (xs : List X) → P 0 x → Each xs (λ i y. P (suc i) y) → Each (x ∷ xs) P
each_cons P x xs p q zero y e = subst (P 0) (same_Some x y e) p
each_cons P x xs p q (suc i) y e = q i y e

abbrev each_rest : {X : Type 0} (P : ℕ → X → Type 0) (x : X) (xs : List X) → P 0 x → Dec (Each xs (λ i y. P (suc i) y)) → Dec (Each (x ∷ xs) P)
each_rest P x xs p (yes q) = yes (each_cons P x xs p q)
each_rest P x xs p (no h) = no (λ all. h (λ i y e. all (suc i) y e))

abbrev each_first : {X : Type 0} (P : ℕ → X → Type 0) (x : X) (xs : List X) → Dec (P 0 x) → (Unit {0} → Dec (Each xs (λ i y. P (suc i) y))) → Dec (Each (x ∷ xs) P)
each_first P x xs (yes p) f = each_rest P x xs p (f tt)
each_first P x xs (no h) f = no (λ all. h (all 0 x refl))

abbrev pub dec_each : {X : Type 0} (xs : List X) {P : ℕ → X → Type 0} → ((i : ℕ) (x : X) → Dec (P i x)) → Dec (Each xs P)
dec_each [] {P} d = yes (each_none P)
dec_each (x ∷ xs) {P} d = each_first P x xs (d 0 x) (λ u. dec_each xs {P = λ i y. P (suc i) y} (λ i y. d (suc i) y))

pub none_exists : {X : Type 0} (P : ℕ → X → Type 0) → Exists [] P → ⊥
none_exists P t = let e : None ≡ Some t.1 = t.2 in cc

exists_cases : {X : Type 0} (P : ℕ → X → Type 0) (x : X) (xs : List X) → (P 0 x → ⊥) → (Exists xs (λ i y. P (suc i) y) → ⊥) → (i : ℕ) (y : X) → slice_get (x ∷ xs) i ≡ Some y → P i y → ⊥
exists_cases P x xs h k zero y e p = h (subst (P 0) (sym (same_Some x y e)) p)
exists_cases P x xs h k (suc i) y e p = k (i, y, e, p)

pub not_exists : {X : Type 0} (P : ℕ → X → Type 0) (x : X) (xs : List X) → (P 0 x → ⊥) → (Exists xs (λ i y. P (suc i) y) → ⊥) → Exists (x ∷ xs) P → ⊥
not_exists P x xs h k t = exists_cases P x xs h k t.0 t.1 t.2 t.3

abbrev exists_rest : {X : Type 0} (P : ℕ → X → Type 0) (x : X) (xs : List X) → (P 0 x → ⊥) → Dec (Exists xs (λ i y. P (suc i) y)) → Dec (Exists (x ∷ xs) P)
exists_rest P x xs h (yes t) = yes (suc t.0, t.1, t.2, t.3)
exists_rest P x xs h (no k) = no (not_exists P x xs h k)

abbrev exists_first : {X : Type 0} (P : ℕ → X → Type 0) (x : X) (xs : List X) → Dec (P 0 x) → (Unit {0} → Dec (Exists xs (λ i y. P (suc i) y))) → Dec (Exists (x ∷ xs) P)
exists_first P x xs (yes p) f = yes (0, x, refl, p)
exists_first P x xs (no h) f = exists_rest P x xs h (f tt)

abbrev pub dec_exists : {X : Type 0} (xs : List X) {P : ℕ → X → Type 0} → ((i : ℕ) (x : X) → Dec (P i x)) → Dec (Exists xs P)
dec_exists [] {P} d = no (none_exists P)
dec_exists (x ∷ xs) {P} d = exists_first P x xs (d 0 x) (λ u. dec_exists xs {P = λ i y. P (suc i) y} (λ i y. d (suc i) y))

abbrev pub dec_below : (xs ys : List ℕ) → Dec (Below xs ys)
dec_below (x ∷ xs) (y ∷ ys) = dec_or (dec_lt x y) (λ u. dec_both (dec_same x y) (λ e. dec_below xs ys))
dec_below [] ys = no (λ h. h)
dec_below (x ∷ xs) [] = no (λ h. h)

-- P, or its contrary
abbrev pub As : Bool → Type 0 → Type 0
As true P = P
As false P = P → ⊥

pub told : {P : Type 0} (d : Dec P) (b : Bool) → says d ≡ b → As b P
told d true e = holds d e
told d false e = fails d e
