-- At most 8 updates of each seat wait: each has a place of its own among 8 for each seat.
use Rattle.std.proofs.Common.{◌≡◌, ℕ, ◌<◌, ◌≤◌, ◌+◌, ◌-◌, ◌*◌, Bool, true, false, List, [], ◌∷◌, length, Some, refl, cond, arith}
use Rattle.std.specs.Prelude.{◌||◌, find}
use Rattle.std.specs.List.{AllByRecursion}
use Rattle.std.specs.Option.{option_map_or}
use Rattle.std.proofs.lemmas.Bool.Decides.{nat_tests}
use Rattle.tw_types.specs.declared.message.UpdateId.{UpdateId}
use Rattle.tw_types.specs.declared.message.Kept.{Kept}
use Rattle.tw_types.specs.declared.message.Seat.{Seat}
use Rattle.tw_types.specs.Ranges.{Ascends}
use Rattle.tw_types.specs.Decisions.{is_seat_of}
use Rattle.tw_types.specs.Updates.{is_same_id, sender, has_update, waits_before, WaitInOrder, is_awaited}
use Rattle.update_store.proofs.Ids.{all-weaker}

-- it is awaited at its sender's seat
abbrev pub is_seated : List Seat → Kept → Bool
is_seated seats k = option_map_or (λ (s : Seat). is_awaited s.next k.entry.id.seq) (find (is_seat_of (sender k.entry.id)) seats) false

abbrev place : List Seat → UpdateId → ℕ
place [] id = 0
place (s ∷ seats) id = cond (is_seat_of (sender id) s) (id.seq - s.next) (8 + place seats id)

place_within : (seats : List Seat) (k : Kept) → is_seated seats k ≡ true → place seats k.entry.id < 8 * length seats
place_within [] k h = cc
place_within (s ∷ seats) k h = go (is_seat_of (sender k.entry.id) s) h (place_within seats k)
  where
    go : (b : Bool) → option_map_or (λ (s : Seat). is_awaited s.next k.entry.id.seq) (cond b (Some s) (find (is_seat_of (sender k.entry.id)) seats)) false ≡ true → (is_seated seats k ≡ true → place seats k.entry.id < 8 * length seats) → cond b (k.entry.id.seq - s.next) (8 + place seats k.entry.id) < 8 * length (s ∷ seats)
    go true h rest = grind (arith, nat_tests)
    go false h rest = omega (arith, rest h)

-- its sender is above all that are below the seats
sender_above : (who : ℕ) (seats : List Seat) (k : Kept) → AllByRecursion (λ (t : Seat). who < t.member.who) seats → is_seated seats k ≡ true → who < k.entry.id.who
sender_above who [] k a h = cc
sender_above who (s ∷ seats) k a h = go (is_seat_of (sender k.entry.id) s) refl h (sender_above who seats k a.1)
  where
    go : (b : Bool) → is_seat_of (sender k.entry.id) s ≡ b → option_map_or (λ (s : Seat). is_awaited s.next k.entry.id.seq) (cond b (Some s) (find (is_seat_of (sender k.entry.id)) seats)) false ≡ true → (is_seated seats k ≡ true → who < k.entry.id.who) → who < k.entry.id.who
    go true e h rest = let above = a.0 in grind (arith, nat_tests)
    go false e h rest = rest h

place_rises : (seats : List Seat) (a b : Kept) → Ascends seats → is_seated seats a ≡ true → is_seated seats b ≡ true → waits_before a b ≡ true → place seats a.entry.id < place seats b.entry.id
place_rises [] a b asc ha hb ab = cc
place_rises (s ∷ seats) a b asc ha hb ab = go (is_seat_of (sender a.entry.id) s) refl ha (is_seat_of (sender b.entry.id) s) refl hb (place_rises seats a b asc.1)
  where
    go : (x : Bool) → is_seat_of (sender a.entry.id) s ≡ x → option_map_or (λ (s : Seat). is_awaited s.next a.entry.id.seq) (cond x (Some s) (find (is_seat_of (sender a.entry.id)) seats)) false ≡ true →
        (y : Bool) → is_seat_of (sender b.entry.id) s ≡ y → option_map_or (λ (s : Seat). is_awaited s.next b.entry.id.seq) (cond y (Some s) (find (is_seat_of (sender b.entry.id)) seats)) false ≡ true →
        (is_seated seats a ≡ true → is_seated seats b ≡ true → waits_before a b ≡ true → place seats a.entry.id < place seats b.entry.id) →
        cond x (a.entry.id.seq - s.next) (8 + place seats a.entry.id) < cond y (b.entry.id.seq - s.next) (8 + place seats b.entry.id)
    go true ea ha true eb hb rest = grind (arith, nat_tests)
    go true ea ha false eb hb rest = grind (arith, nat_tests)
    go false ea ha true eb hb rest = let above = sender_above s.member.who seats a asc.0 ha in grind (arith, nat_tests)
    go false ea ha false eb hb rest = let r = rest ha hb ab in omega arith

-- from a place on there are no more of them than places
few_from : (seats : List Seat) (from : ℕ) (xs : List Kept) → Ascends seats → from ≤ 8 * length seats → WaitInOrder xs → AllByRecursion (λ (k : Kept). is_seated seats k ≡ true) xs → AllByRecursion (λ (k : Kept). from ≤ place seats k.entry.id) xs → from + length xs ≤ 8 * length seats
few_from seats from [] asc le order all above = omega arith
few_from seats from (k ∷ xs) asc le order all above =
    let within = place_within seats k all.0 in
    let first = above.0 in
    let rest = few_from seats (place seats k.entry.id + 1) xs asc (omega arith) order.1 all.1 (later xs order.0 all.1) in
    omega arith
  where
    later : (xs : List Kept) → AllByRecursion (λ (y : Kept). waits_before k y ≡ true) xs → AllByRecursion (λ (y : Kept). is_seated seats y ≡ true) xs → AllByRecursion (λ (y : Kept). place seats k.entry.id + 1 ≤ place seats y.entry.id) xs
    later [] o a = tt
    later (y ∷ xs) o a = (let rises = place_rises seats k y asc all.0 a.0 o.0 in omega arith, later xs o.1 a.1)

pub few_seated : (seats : List Seat) (xs : List Kept) → Ascends seats → WaitInOrder xs → AllByRecursion (λ (k : Kept). is_seated seats k ≡ true) xs → length xs ≤ 8 * length seats
few_seated seats xs asc order all = omega (arith, few_from seats 0 xs asc (omega arith) order all (all-weaker (λ (k : Kept). is_seated seats k ≡ true) (λ (k : Kept). 0 ≤ place seats k.entry.id) (λ k h. omega arith) xs all))

-- ---- seats are of different processes, so a process that has one has it in one life

one_life : (seats : List Seat) (a b : Kept) → Ascends seats → is_seated seats a ≡ true → is_seated seats b ≡ true → a.entry.id.who ≡ b.entry.id.who → a.entry.id.incarnation ≡ b.entry.id.incarnation
one_life [] a b asc ha hb same = cc
one_life (s ∷ seats) a b asc ha hb same = go (is_seat_of (sender a.entry.id) s) refl ha (is_seat_of (sender b.entry.id) s) refl hb (one_life seats a b asc.1)
  where
    go : (x : Bool) → is_seat_of (sender a.entry.id) s ≡ x → option_map_or (λ (s : Seat). is_awaited s.next a.entry.id.seq) (cond x (Some s) (find (is_seat_of (sender a.entry.id)) seats)) false ≡ true →
        (y : Bool) → is_seat_of (sender b.entry.id) s ≡ y → option_map_or (λ (s : Seat). is_awaited s.next b.entry.id.seq) (cond y (Some s) (find (is_seat_of (sender b.entry.id)) seats)) false ≡ true →
        (is_seated seats a ≡ true → is_seated seats b ≡ true → a.entry.id.who ≡ b.entry.id.who → a.entry.id.incarnation ≡ b.entry.id.incarnation) →
        a.entry.id.incarnation ≡ b.entry.id.incarnation
    go true ea ha true eb hb rest = grind (arith, nat_tests)
    go true ea ha false eb hb rest = let above = sender_above s.member.who seats b asc.0 hb in grind (arith, nat_tests)
    go false ea ha true eb hb rest = let above = sender_above s.member.who seats a asc.0 ha in grind (arith, nat_tests)
    go false ea ha false eb hb rest = rest ha hb same

-- so of two with different ids one waits before the other
pub one_before : (seats : List Seat) (k : Kept) (xs : List Kept) → Ascends seats → is_seated seats k ≡ true → AllByRecursion (λ (y : Kept). is_seated seats y ≡ true) xs → has_update k.entry.id xs ≡ false →
    AllByRecursion (λ (y : Kept). waits_before y k ≡ false → waits_before k y ≡ true) xs
one_before seats k [] asc hk all none = tt
one_before seats k (y ∷ xs) asc hk all none = go (is_same_id y.entry.id k.entry.id) refl none (one_before seats k xs asc hk all.1)
  where
    go : (b : Bool) → is_same_id y.entry.id k.entry.id ≡ b → (b || has_update k.entry.id xs) ≡ false →
        (has_update k.entry.id xs ≡ false → AllByRecursion (λ (y : Kept). waits_before y k ≡ false → waits_before k y ≡ true) xs) →
        AllByRecursion (λ (y : Kept). waits_before y k ≡ false → waits_before k y ≡ true) (y ∷ xs)
    go true e n rest = cc
    go false e n rest = (λ yk. let life = one_life seats y k asc all.0 hk in grind (arith, nat_tests), rest n)
