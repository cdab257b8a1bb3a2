-- Bytes that are kept one behind the other.
use Rattle.std.proofs.Common.{◌≡◌, ◌≤◌, ◌<◌, refl, sym, ap, ◌∙◌, ℕ, zero, suc, ◌+◌, ◌-◌, Bool, true, false, cond, ◌&&◌, List, [], ◌∷◌, ◌++◌, map, length, take, drop, get_or, append_assoc, Option, Some, None, Result, Ok, Err, arith}
use Rattle.std.specs.Prelude.{is_ok, IsOk, nat_le, slice_get, slice_range}
use Rattle.std.specs.Option.{option_map}
use Rattle.std.proofs.lemmas.Bool.Decides.{nat_tests}
use Rattle.std.proofs.lemmas.List.{drop-append-le, take-append-le, take_all, take_at, length-append, length-drop}
use Rattle.std.proofs.Math.Seq.{drop-append_seam, take-suc}
use Rattle.std.proofs.lemmas.List.{map-append}
use Rattle.std.proofs.lemmas.Option.{slice_get-map}
use Rattle.tw_types.specs.Numbered.{numbered}
use Rattle.tw_machine.specs.Types.{Act, Step}
use Rattle.tw_types.specs.declared.step.Act.TheVariants.{Recv}
use Rattle.tw_machine.specs.Admissible.{was_sent_to, may_receive}
use Rattle.tw_machine.specs.Dispatches.{Dispatch}
use Rattle.world.specs.declared.sent.Place.{Place}
use Rattle.world.specs.Places.{is_within, are_within}
use Rattle.world.specs.Datagrams.{at_place, is_to, kept_as}
use Rattle.std.proofs.lemmas.Bool.{and_parts, and_from}

-- what was written at the front
pub written_first : (new text rest : List ℕ) (n : ℕ) → new ≡ text ++ rest → n ≡ length text → take n new ≡ text
written_first new text rest n e l = ap (take n) e ∙ take_at text rest n (sym l)

-- what a call that has room appends
pub appended : {X E : Type 0} (r : Result (Unit {0}) E) (old more new : List X) → IsOk r → new ≡ cond (is_ok r) (old ++ more) old → new ≡ old ++ more
appended (Ok u) old more new ok e = e
appended (Err x) old more new ok e = absurd (cc)

wider : (size more : ℕ) (p : Place) → size ≤ more → is_within size p ≡ true → is_within more p ≡ true
wider size more p low e = let a = (and_parts (nat_le p.start p.end) _ e).0 in let b = (and_parts (nat_le p.start p.end) _ e).1 in and_from _ _ a (go b)
  where
    go : nat_le p.end size ≡ true → nat_le p.end more ≡ true
    go b = grind (arith, nat_tests)

-- a place more among more bytes
pub within_push : (size more : ℕ) (places : List Place) (p : Place) → size ≤ more → are_within size places ≡ true → is_within more p ≡ true → are_within more (places ++ p ∷ []) ≡ true
within_push size more [] p low all one = and_from _ _ one refl
within_push size more (q ∷ places) p low all one = and_from _ _ (wider size more q low (and_parts (is_within size q) _ all).0) (within_push size more places p low (and_parts (is_within size q) _ all).1 one)

pub is_place : (start end size : ℕ) (p : Place) → p.start ≡ start → p.end ≡ end → start ≤ end → end ≤ size → is_within size p ≡ true
is_place start end size p s e low high = and_from (nat_le p.start p.end) (nat_le p.end size) (let l : p.start ≤ p.end = omega arith in grind (arith, nat_tests)) (let h : p.end ≤ size = omega arith in grind (arith, nat_tests))

-- bytes that come later change nothing at a place
same_bytes : (bytes more : List ℕ) (a b : ℕ) → a ≤ b → b ≤ length bytes → slice_range (bytes ++ more) a b ≡ slice_range bytes a b
same_bytes bytes more a b low high =
    ap (take (b - a)) (drop-append-le a bytes more (omega arith)) ∙ take-append-le (b - a) (drop a bytes) more (omega (arith, length-drop a bytes))

new_bytes : (bytes more : List ℕ) → slice_range (bytes ++ more) (length bytes) (length (bytes ++ more)) ≡ more
new_bytes bytes more = ap (take (length (bytes ++ more) - length bytes)) (drop-append_seam bytes more) ∙ take_all _ more (omega (arith, length-append bytes more))

cons_alike : {X : Type 0} (x y : X) (xs ys : List X) → x ≡ y → xs ≡ ys → x ∷ xs ≡ y ∷ ys
cons_alike x y xs ys p q = cc

-- a datagram more
pub kept_push : (bytes more : List ℕ) (places : List Place) (p : Place) → are_within (length bytes) places ≡ true → p.start ≡ length bytes → p.end ≡ length (bytes ++ more)
    → map (at_place (bytes ++ more)) (places ++ p ∷ []) ≡ map (at_place bytes) places ++ (p.to, more) ∷ []
kept_push bytes more [] p all s e = ap (λ (xs : List ℕ). (p.to, xs) ∷ []) (rw (s, e) (new_bytes bytes more))
kept_push bytes more (q ∷ places) p all s e =
    let here = (and_parts (is_within (length bytes) q) _ all).0 in
    let low = (and_parts (nat_le q.start q.end) _ here).0 in
    let high = (and_parts (nat_le q.start q.end) _ here).1 in
    let l : q.start ≤ q.end = starts low in
    let h : q.end ≤ length bytes = ends high in
    cons_alike _ _ _ _ (ap (λ (xs : List ℕ). (q.to, xs)) (same_bytes bytes more q.start q.end l h)) (kept_push bytes more places p (and_parts (is_within (length bytes) q) _ all).1 s e)
  where
    starts : nat_le q.start q.end ≡ true → q.start ≤ q.end
    starts x = grind (arith, nat_tests)

    ends : nat_le q.end (length bytes) ≡ true → q.end ≤ length bytes
    ends x = grind (arith, nat_tests)

-- ---- the datagram of a number

pub numbered-map : {X Y : Type 0} (f : X → Y) (k : ℕ) (xs : List X) → numbered k (map f xs) ≡ option_map f (numbered k xs)
numbered-map f zero xs = refl
numbered-map f (suc i) xs = slice_get-map f xs i

pub numbered_none : {X : Type 0} (k : ℕ) (xs : List X) → k < 1 → numbered k xs ≡ None
numbered_none zero xs low = refl
numbered_none (suc i) xs low = absurd (omega arith)

pub numbered_next : {X : Type 0} (k i : ℕ) (xs : List X) → k ≡ i + 1 → numbered k xs ≡ slice_get xs i
numbered_next zero i xs e = absurd (omega arith)
numbered_next (suc j) i xs e = let same : j ≡ i = omega arith in rw same refl

pub all_get : (size : ℕ) (places : List Place) (i : ℕ) (p : Place) → are_within size places ≡ true → slice_get places i ≡ Some p → is_within size p ≡ true
all_get size [] i p all e = absurd (cc)
all_get size (q ∷ places) zero p all e = let same : q ≡ p = cc in rw (← same) (and_parts (is_within size q) _ all).0
all_get size (q ∷ places) (suc i) p all e = all_get size places i p (and_parts (is_within size q) _ all).1 e

abbrev receiver_of : Option (ℕ × List ℕ) → ℕ
receiver_of None = 0
receiver_of (Some d) = d.0

same_receiver : (who line : ℕ) (bytes : List ℕ) (o : Option Place) (d : Option Dispatch) → option_map (at_place bytes) o ≡ option_map (kept_as line) d → is_to who o ≡ was_sent_to who d
same_receiver who line bytes None None e = refl
same_receiver who line bytes (Some p) (Some d) e = let same : p.to ≡ d.to = ap (λ (o : Option (ℕ × List ℕ)). receiver_of o) e in rw same refl
same_receiver who line bytes None (Some d) e = absurd (cc)
same_receiver who line bytes (Some p) None e = absurd (cc)

-- the receiver of a kept datagram is that of the one that was sent
pub receiver_kept : (who line k : ℕ) (bytes : List ℕ) (places : List Place) (sent : List Dispatch) → map (at_place bytes) places ≡ map (kept_as line) sent
    → is_to who (numbered k places) ≡ was_sent_to who (numbered k sent)
receiver_kept who line k bytes places sent e =
    same_receiver who line bytes _ _ (sym (numbered-map (at_place bytes) k places) ∙ ap (numbered k) e ∙ numbered-map (kept_as line) k sent)

-- what a step may receive, by what is kept
pub receives : (line : ℕ) (bytes : List ℕ) (places : List Place) (sent : List Dispatch) (s : Step) (act : Act) (k : ℕ) (received : Bool) → map (at_place bytes) places ≡ map (kept_as line) sent
    → act ≡ Recv k → received ≡ is_to s.who (numbered k places) → received ≡ may_receive sent s act
receives line bytes places sent s act k received e is r = rw is (r ∙ receiver_kept s.who line k bytes places sent e)

-- ---- datagrams that are kept one after the other

pub push_next : {X Y : Type 0} (f : X → Y) (xs : List X) (i : ℕ) (x : X) (old now new : List Y) → i < length xs → x ≡ get_or xs i x → now ≡ old ++ map f (take i xs) → new ≡ now ++ f x ∷ []
    → new ≡ old ++ map f (take (i + 1) xs)
push_next f xs i x old now new low is before after =
    let next : i + 1 ≡ suc i = omega arith in
    let taken : take (suc i) xs ≡ take i xs ++ x ∷ [] = take-suc xs i x low ∙ ap (λ y. take i xs ++ y ∷ []) (sym is) in
    after ∙ ap (λ ys. ys ++ f x ∷ []) before ∙ append_assoc old (map f (take i xs)) (f x ∷ []) ∙ ap (λ ys. old ++ ys) (sym (rw (next, taken) (map-append f (take i xs) (x ∷ []))))
