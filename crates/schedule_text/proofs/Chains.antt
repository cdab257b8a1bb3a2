-- One write after the other.
use Rattle.std.proofs.Common.{◌≡◌, refl, sym, ap, ℕ, zero, suc, ◌+◌, ◌<◌, List, [], ◌∷◌, ◌++◌, length, take, drop, get_or, Option, arith, append_assoc, subst}
use Rattle.std.proofs.lemmas.List.{append-nil, take_more, flat_map_more}
use Rattle.std.specs.List.{flat_map}
use Rattle.std.proofs.Common.{Result, Ok, Err}
use Rattle.schedule_text.specs.Puts.{Written, Cut, Puts}
use Rattle.std.specs.Result.{IsErr}
use Rattle.schedule_text.proofs.Outputs.{risen_later}

-- a front of the first part is one of the whole
front_of_first : (s t : List ℕ) (n : ℕ) → (m : ℕ) × (take m (s ++ t) ≡ take n s)
front_of_first [] t n = (0, sym (take-nil n))
  where
    take-nil : (n : ℕ) → let none : List ℕ = [] in take n none ≡ none
    take-nil zero = refl
    take-nil (suc n) = refl
front_of_first (b ∷ s) t zero = (0, refl)
front_of_first (b ∷ s) t (suc n) = let r = front_of_first s t n in (suc r.0, ap (λ x. b ∷ x) r.1)

-- the first part and a front of the second
front_of_second : (s t : List ℕ) (n : ℕ) → take (length s + n) (s ++ t) ≡ s ++ take n t
front_of_second [] t n = ap (λ k. take k t) (omega arith)
front_of_second (b ∷ s) t n = rw (more (length s) n) (ap (λ x. b ∷ x) (front_of_second s t n))
  where
    more : (k n : ℕ) → suc k + n ≡ suc (k + n)
    more k n = omega arith

pub nothing_written : (a : Option (List ℕ)) (f : ℕ) → Written a a f f []
nothing_written a f = record { taken = λ had e. rw append-nil e; monotone = omega arith }

pub written_more : (a b c : Option (List ℕ)) (f g h : ℕ) (s t : List ℕ) → Written a b f g s → Written b c g h t → Written a c f h (s ++ t)
written_more a b c f g h s t p q = record {
  taken = λ had e. rw (← append_assoc) (q.taken (had ++ s) (p.taken had e));
  monotone = omega (arith, p.monotone, q.monotone);
}

pub cut_more : (a b c : Option (List ℕ)) (f g h : ℕ) (s t : List ℕ) → Written a b f g s → Cut b c g h t → Cut a c f h (s ++ t)
cut_more a b c f g h s t p q = record {
  front = λ had e. let r = q.front (had ++ s) (p.taken had e) in (length s + r.0, rw (front_of_second, ← append_assoc) r.1);
  monotone = omega (arith, p.monotone, q.monotone);
  risen = risen_later f g h p.monotone q.risen;
}

pub cut_early : (a b : Option (List ℕ)) (f g : ℕ) (s t : List ℕ) → Cut a b f g s → Cut a b f g (s ++ t)
cut_early a b f g s t p = record {
  front = λ had e. let r = p.front had e in let m = front_of_first s t r.0 in (m.0, rw m.1 r.1);
  monotone = p.monotone;
  risen = p.risen;
}

-- a write behind another, whatever it answers
pub puts_more : {A E : Type 0} {a b c : Option (List ℕ)} {f g h : ℕ} {r : Result A E} {s t : List ℕ} → Written a b f g s → Puts b c g h r t → Puts a c f h r (s ++ t)
puts_more {a = a} {b = b} {c = c} {f = f} {g = g} {h = h} {r = Ok x} {s = s} {t = t} p q = record { written = written_more a b c f g h s t p q.written; cut = tt }
puts_more {a = a} {b = b} {c = c} {f = f} {g = g} {h = h} {r = Err e} {s = s} {t = t} p q = record { written = tt; cut = cut_more a b c f g h s t p q.cut }

-- nothing is written behind a write that failed
pub puts_stop : {A E : Type 0} {a b : Option (List ℕ)} {f g : ℕ} (r : Result A E) {s : List ℕ} (t : List ℕ) → IsErr r → Cut a b f g s → Puts a b f g r (s ++ t)
puts_stop (Ok x) t is p = absurd (cc (is))
puts_stop {a = a} {b = b} {f = f} {g = g} (Err x) {s = s} t is p = record { written = tt; cut = cut_early a b f g s t p }

pub puts_next : {A E : Type 0} {a b c : Option (List ℕ)} {f g h : ℕ} (r : Result A E) {s t : List ℕ} (u : List ℕ) → Written a b f g s → IsErr r → Cut b c g h t → Puts a c f h r (s ++ (t ++ u))
puts_next r u p is q = puts_more p (puts_stop r u is q)

-- The texts of a list's items are written one after the other.
items_so_far : {X : Type 0} (text : X → List ℕ) (xs : List X) (i : ℕ) (d : X) → i < length xs → flat_map text (take (i + 1) xs) ≡ flat_map text (take i xs) ++ text (get_or xs i d)
items_so_far text xs i d l = rw (take_more xs i d l, ← flat_map_more text [] (take i xs) (get_or xs i d)) refl

items_split : {X : Type 0} (text : X → List ℕ) (xs : List X) (i : ℕ) (d : X) → i < length xs → flat_map text xs ≡ flat_map text (take i xs) ++ (text (get_or xs i d) ++ flat_map text (drop (i + 1) xs))
items_split text [] i d l = absurd (omega arith)
items_split text (x ∷ xs) zero d l = refl
items_split text (x ∷ xs) (suc i) d l =
    let e : suc i + 1 ≡ suc (i + 1) = omega arith in
    rw e (rw (items_split text xs i d (omega arith)) (sym (append_assoc (text x) (flat_map text (take i xs)) _)))

pub written_item : {X : Type 0} {a b c : Option (List ℕ)} {f g h : ℕ} (text : X → List ℕ) (xs : List X) (i : ℕ) (d : X) → i < length xs
    → Written a b f g (flat_map text (take i xs)) → Written b c g h (text (get_or xs i d)) → Written a c f h (flat_map text (take (i + 1) xs))
written_item {a = a} {b = b} {c = c} {f = f} {g = g} {h = h} text xs i d l p q = rw (items_so_far text xs i d l) (written_more a b c f g h _ _ p q)

pub puts_item : {X A E : Type 0} {a b c : Option (List ℕ)} {f g h : ℕ} (r : Result A E) (text : X → List ℕ) (xs : List X) (i : ℕ) (d : X) → i < length xs
    → Written a b f g (flat_map text (take i xs)) → IsErr r → Cut b c g h (text (get_or xs i d)) → Puts a c f h r (flat_map text xs)
puts_item r text xs i d l p is q = rw (items_split text xs i d l) (puts_next r _ p is q)

-- the same for an item that is lent
pub written_lent : {X : Type 0} {a b c : Option (List ℕ)} {f g h : ℕ} (text : X → List ℕ) (xs : List X) (i : ℕ) (x : X) → i < length xs → x ≡ get_or xs i x
    → Written a b f g (flat_map text (take i xs)) → Written b c g h (text x) → Written a c f h (flat_map text (take (i + 1) xs))
written_lent {b = b} {c = c} {g = g} {h = h} text xs i x l e p q = written_item text xs i x l p (subst (λ y. Written b c g h (text y)) e q)

pub puts_lent : {X A E : Type 0} {a b c : Option (List ℕ)} {f g h : ℕ} (r : Result A E) (text : X → List ℕ) (xs : List X) (i : ℕ) (x : X) → i < length xs → x ≡ get_or xs i x
    → Written a b f g (flat_map text (take i xs)) → IsErr r → Cut b c g h (text x) → Puts a c f h r (flat_map text xs)
puts_lent {b = b} {c = c} {g = g} {h = h} r text xs i x l e p is q = puts_item r text xs i x l p is (subst (λ y. Cut b c g h (text y)) e q)
