-- What holds of each two lines of the history, the earlier and the later, holds of each two deliveries that rows show.
use Rattle.std.proofs.Common.{◌≡◌, sym, subst, inl, inr, ℕ, zero, suc, ◌<◌, List, [], ◌∷◌, ◌++◌, map, reverse, Some, slice_get, arith}
use Rattle.std.proofs.lemmas.List.{reverse-append}
use Rattle.std.proofs.lemmas.List.Concat.{flat_map-cons}
use Rattle.std.proofs.lemmas.Option.{same_Some}
use Rattle.std.specs.List.{AllByRecursion, flat_map}
use Rattle.tw_machine.specs.Types.{Step, Team}
use Rattle.tw_types.specs.Items.{In}
use Rattle.tw_types.specs.Row.{Row}
use Rattle.tw_types.specs.Team.{IsSound}
use Rattle.tw_types.proofs.Lists.{all_parted}
use Rattle.tw_machine.specs.Applied.{Meaning}
use Rattle.tw_machine.specs.History.{Line, history}
use Rattle.tw_machine.specs.Rows.{rows_of}
use Rattle.tw_machine.specs.World.{Admissible}
use Rattle.tw_machine.proofs.Tables.{all_push, all_mapped}
use Rattle.safety_laws.specs.Seen.{Shown, shown_in, shown_of}
use Rattle.safety_laws.proofs.LinesSeen.{lines_in_order}
use Rattle.safety_laws.proofs.Lists.{of_each, in_first, in_last}

-- each item of a list is in this relation to each that stands behind it
abbrev pub InTurn : {X : Type 0} → (X → X → Type 0) → List X → Type 0
InTurn R [] = Unit {0}
InTurn R (x ∷ xs) = AllByRecursion (R x) xs × InTurn R xs

-- ---- from the newest first to the oldest first

turn_pushed : {X : Type 0} (R : X → X → Type 0) (xs : List X) (x : X) → AllByRecursion (λ y. R y x) xs → InTurn R xs → InTurn R (xs ++ x ∷ [])
turn_pushed R [] x all turn = (tt, tt)
turn_pushed R (y ∷ xs) x all turn = (all_push (R y) xs x turn.0 all.0, turn_pushed R xs x all.1 turn.1)

all_reversed : {X : Type 0} (P : X → Type 0) (xs : List X) → AllByRecursion P xs → AllByRecursion P (reverse xs)
all_reversed P [] all = tt
all_reversed P (x ∷ xs) all = subst (AllByRecursion P) (sym (reverse-append (x ∷ []) xs)) (all_push P (reverse xs) x (all_reversed P xs all.1) all.0)

turn_reversed : {X : Type 0} (R : X → X → Type 0) (xs : List X) → InTurn (λ later earlier. R earlier later) xs → InTurn R (reverse xs)
turn_reversed R [] turn = tt
turn_reversed R (x ∷ xs) turn = subst (InTurn R) (sym (reverse-append (x ∷ []) xs)) (turn_pushed R (reverse xs) x (all_reversed (λ y. R y x) xs turn.0) (turn_reversed R xs turn.1))

turn_mapped : {X Y : Type 0} (R : Y → Y → Type 0) (f : X → Y) (xs : List X) → InTurn (λ a b. R (f a) (f b)) xs → InTurn R (map f xs)
turn_mapped R f [] turn = tt
turn_mapped R f (x ∷ xs) turn = (all_mapped (R (f x)) f xs turn.0, turn_mapped R f xs turn.1)

-- ---- parts of a list

pub turn_first : {X : Type 0} (R : X → X → Type 0) (xs ys : List X) → InTurn R (xs ++ ys) → InTurn R xs
turn_first R [] ys turn = tt
turn_first R (x ∷ xs) ys turn = ((all_parted (R x) xs ys turn.0).0, turn_first R xs ys turn.1)

turn_rest : {X : Type 0} (R : X → X → Type 0) (xs ys : List X) → InTurn R (xs ++ ys) → InTurn R ys
turn_rest R [] ys turn = turn
turn_rest R (x ∷ xs) ys turn = turn_rest R xs ys turn.1

pub turn_across : {X : Type 0} (R : X → X → Type 0) (xs ys : List X) (a b : X) → InTurn R (xs ++ ys) → In a xs → In b ys → R a b
turn_across R [] ys a b turn i j = absurd i
turn_across R (x ∷ xs) ys a b turn (inl e) j = subst (λ y. R y b) (sym e) (of_each (R x) (xs ++ ys) b turn.0 (in_last b xs ys j))
turn_across R (x ∷ xs) ys a b turn (inr i) j = turn_across R xs ys a b turn.1 i j

in_flat : {X Y : Type 0} (f : X → List Y) (rows : List X) (i : ℕ) (r : X) (y : Y) → slice_get rows i ≡ Some r → In y (f r) → In y (flat_map f rows)
in_flat f [] i r y e j = absurd (cc)
in_flat f (q ∷ rows) zero r y e j = rw (flat_map-cons f q rows) (in_first y (f q) (flat_map f rows) (subst (λ z. In y (f z)) (sym (same_Some q r e)) j))
in_flat f (q ∷ rows) (suc i) r y e j = rw (flat_map-cons f q rows) (in_last y (f q) (flat_map f rows) (in_flat f rows i r y e j))

turn_within : {X Y : Type 0} (R : Y → Y → Type 0) (f : X → List Y) (rows : List X) (i : ℕ) (r : X) → InTurn R (flat_map f rows) → slice_get rows i ≡ Some r → InTurn R (f r)
turn_within R f [] i r turn e = absurd (cc)
turn_within R f (q ∷ rows) zero r turn e = subst (λ z. InTurn R (f z)) (same_Some q r e) (turn_first R (f q) (flat_map f rows) (subst (InTurn R) (flat_map-cons f q rows) turn))
turn_within R f (q ∷ rows) (suc i) r turn e = turn_within R f rows i r (turn_rest R (f q) (flat_map f rows) (subst (InTurn R) (flat_map-cons f q rows) turn)) e

turn_between : {X Y : Type 0} (R : Y → Y → Type 0) (f : X → List Y) (rows : List X) (i j : ℕ) (a b : X) (x y : Y) → InTurn R (flat_map f rows) → i < j → slice_get rows i ≡ Some a → slice_get rows j ≡ Some b
    → In x (f a) → In y (f b) → R x y
turn_between R f [] i j a b x y turn less e e' m n = absurd (cc)
turn_between R f (q ∷ rows) i zero a b x y turn less e e' m n = absurd (omega (arith, less))
turn_between R f (q ∷ rows) zero (suc j) a b x y turn less e e' m n =
    turn_across R (f q) (flat_map f rows) x y (subst (InTurn R) (flat_map-cons f q rows) turn) (subst (λ z. In x (f z)) (sym (same_Some q a e)) m) (in_flat f rows j b y e' n)
turn_between R f (q ∷ rows) (suc i) (suc j) a b x y turn less e e' m n =
    turn_between R f rows i j a b x y (turn_rest R (f q) (flat_map f rows) (subst (InTurn R) (flat_map-cons f q rows) turn)) (omega (arith, less)) e e' m n

-- ---- rows

-- What each two deliveries that rows show are to each other: in one row the earlier and the later, and in two rows any of the earlier
-- row and any of the later.
pub record RowsInTurn (R : Shown → Shown → Type 0) (rows : List Row) : Type 0 where
  pub within : (i : ℕ) (r : Row) → slice_get rows i ≡ Some r → InTurn R (shown_in r)
  pub between : (i j : ℕ) (a b : Row) (x y : Shown) → i < j → slice_get rows i ≡ Some a → slice_get rows j ≡ Some b → In x (shown_in a) → In y (shown_in b) → R x y

pub rows_in_turn : {Content : Type 0} (meaning : Meaning Content) (team : Team) (past : List Step) (R : Shown → Shown → Type 0) → IsSound team → Admissible team past
    → InTurn (λ (later earlier : Line). R (shown_of earlier) (shown_of later)) (history team past).lines → RowsInTurn R (rows_of meaning team past)
rows_in_turn meaning team past R sound ok turn =
    let all : InTurn R (flat_map shown_in (rows_of meaning team past)) =
    subst (InTurn R) (lines_in_order meaning team past sound ok) (turn_mapped R shown_of (reverse (history team past).lines) (turn_reversed (λ a b. R (shown_of a) (shown_of b)) (history team past).lines turn)) in
    record {
      within = λ i r at. turn_within R shown_in (rows_of meaning team past) i r all at;
      between = λ i j a b x y less at then m n. turn_between R shown_in (rows_of meaning team past) i j a b x y all less at then m n;
    }
