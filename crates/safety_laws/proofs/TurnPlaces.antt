-- What each two items of a list are to each other, the earlier and the later, holds of what passes a test, and of each two places.
use Rattle.std.proofs.Common.{◌≡◌, subst, ℕ, zero, suc, ◌<◌, Bool, true, false, cond, List, [], ◌∷◌, map, filter, Some, slice_get, arith}
use Rattle.std.specs.List.{AllByRecursion}
use Rattle.std.proofs.lemmas.Option.{same_Some}
use Rattle.tw_types.specs.Items.{In}
use Rattle.tw_types.proofs.Appended.{of_filter}
use Rattle.safety_laws.proofs.FirstDecisions.{all_mapped_from}
use Rattle.safety_laws.proofs.Lists.{of_each, each_from}
use Rattle.safety_laws.proofs.Places.{at_in, mapped_at}
use Rattle.safety_laws.proofs.RowsInTurn.{InTurn}

-- ---- parts of a list

-- from images to what they are of
pub turn_unmapped : {X Y : Type 0} (R : Y → Y → Type 0) (f : X → Y) (xs : List X) → InTurn R (map f xs) → InTurn (λ a b. R (f a) (f b)) xs
turn_unmapped R f [] turn = tt
turn_unmapped R f (x ∷ xs) turn = (all_mapped_from (R (f x)) f xs turn.0, turn_unmapped R f xs turn.1)

all_filtered : {X : Type 0} (P : X → Type 0) (test : X → Bool) (xs : List X) → AllByRecursion P xs → AllByRecursion P (filter test xs)
all_filtered P test xs all = each_from P (filter test xs) (λ x i. of_each P xs x all (of_filter test xs x i).0)

turn_filtered : {X : Type 0} (R : X → X → Type 0) (test : X → Bool) (xs : List X) → InTurn R xs → InTurn R (filter test xs)
turn_filtered R test [] turn = tt
turn_filtered R test (x ∷ xs) turn = go (test x) (turn_filtered R test xs turn.1)
  where
    go : (b : Bool) → InTurn R (filter test xs) → InTurn R (cond b (x ∷ filter test xs) (filter test xs))
    go true rest = (all_filtered (R x) test xs turn.0, rest)
    go false rest = rest

-- ---- two places

turn_at : {X : Type 0} (R : X → X → Type 0) (xs : List X) (k l : ℕ) (a b : X) → InTurn R xs → k < l → slice_get xs k ≡ Some a → slice_get xs l ≡ Some b → R a b
turn_at R [] k l a b turn less at then = absurd (cc)
turn_at R (x ∷ xs) k zero a b turn less at then = absurd (omega (arith, less))
turn_at R (x ∷ xs) zero (suc l) a b turn less at then = subst (λ z. R z b) (same_Some x a at) (of_each (R x) xs b turn.0 (at_in xs l b then))
turn_at R (x ∷ xs) (suc k) (suc l) a b turn less at then = turn_at R xs k l a b turn.1 (omega (arith, less)) at then

-- ---- what passes a test, and its images

-- an item of a list that passes a test, of which this is the image
pub record IsPicked {X Y : Type 0} (test : X → Bool) (f : X → Y) (xs : List X) (y : Y) : Type 0 where
  pub item : X
  pub there : In item xs
  pub passes : test item ≡ true
  pub is : f item ≡ y

-- What stands at a place of what was picked is the image of an item.
pub picked_at : {X Y : Type 0} (test : X → Bool) (f : X → Y) (xs : List X) (k : ℕ) (y : Y) → slice_get (map f (filter test xs)) k ≡ Some y → IsPicked test f xs y
picked_at test f xs k y at =
    let a = mapped_at f (filter test xs) k y at in
    let i = of_filter test xs a.0 (at_in (filter test xs) k a.0 a.1) in
    record { item = a.0; there = i.0; passes = i.1; is = a.2 }

-- Of two places of what was picked, the items are to each other what the earlier and the later are.
pub record ArePicked {X Y : Type 0} (R : X → X → Type 0) (test : X → Bool) (f : X → Y) (u v : Y) : Type 0 where
  pub earlier : X
  pub later : X
  pub passes : test earlier ≡ true
  pub passes_later : test later ≡ true
  pub is : f earlier ≡ u
  pub is_later : f later ≡ v
  pub related : R earlier later

pub turn_picked : {X Y : Type 0} (R : X → X → Type 0) (test : X → Bool) (f : X → Y) (xs : List X) (k l : ℕ) (u v : Y) → InTurn R xs → k < l → slice_get (map f (filter test xs)) k ≡ Some u → slice_get (map f (filter test xs)) l ≡ Some v
    → ArePicked R test f u v
turn_picked R test f xs k l u v turn less at then =
    let a = mapped_at f (filter test xs) k u at in
    let b = mapped_at f (filter test xs) l v then in
    record {
      earlier = a.0;
      later = b.0;
      passes = (of_filter test xs a.0 (at_in (filter test xs) k a.0 a.1)).1;
      passes_later = (of_filter test xs b.0 (at_in (filter test xs) l b.0 b.1)).1;
      is = a.2;
      is_later = b.2;
      related = turn_at R (filter test xs) k l a.0 b.0 (turn_filtered R test xs turn) less a.1 b.1;
    }
