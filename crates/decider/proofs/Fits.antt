-- What the next decision's seats and window are is in the ranges of the wire where the last one's are.
use Rattle.std.proofs.Common.{◌≡◌, refl, ◌∙◌, ℕ, ◌+◌, ◌-◌, ◌<◌, ◌≤◌, ◌^◌, nat_eq, min, max, Bool, true, false, cond, List, [], ◌∷◌, length, map, drop, Option, Some, None, IfSome, IsSome, inl, inr, arith, find, slice_get, zero, suc, nat_lt, length-drop, filter_map, is_some, eq-eqb}
use Rattle.std.specs.List.{AllByRecursion, list_all, fold, cons_option}
use Rattle.std.specs.Option.{option_or, option_map_or}
use Rattle.std.proofs.lemmas.List.{length-map}
use Rattle.std.proofs.lemmas.Bool.Decides.{nat_tests}
use Rattle.tw_types.specs.declared.team.Team.{Team}
use Rattle.tw_types.specs.declared.message.Member.{Member}
use Rattle.tw_types.specs.declared.message.Support.{Support}
use Rattle.tw_types.specs.declared.message.Seat.{Seat}
use Rattle.tw_types.specs.declared.message.Decision.{Decision}
use Rattle.tw_types.specs.Bytes.{IsCount}
use Rattle.tw_types.specs.Ranges.{SupportFits, SeatFits, Ascends, IsMadeBy, EntryFits, DecisionFits}
use Rattle.tw_types.specs.Decisions.{decision_length, is_same_member}
use Rattle.tw_types.specs.Slots.{seat_after}
use Rattle.tw_types.specs.Turns.{is_next, is_turn, next_draft, supported, acks, least, raised_low, cut_to, with_own_support, finished, DraftFits}

-- ---- seats, of which one has a new support

-- what holds of a seat with the support and of one without holds of it
one_supported : (Q : Seat → Type 0) (who : ℕ) (support : Support) (s : Seat) → Q (record s { support = Some support }) → Q s → Q (supported who support s)
one_supported Q who support s given left = elim (nat_eq s.member.who who) as (λ b. Q (cond b (record s { support = Some support }) s)) [ true ↦ given | false ↦ left ]

all_supported : (P Q : Seat → Type 0) (who : ℕ) (support : Support) → ((s : Seat) → P s → Q (record s { support = Some support })) → ((s : Seat) → P s → Q s) → (seats : List Seat) → AllByRecursion P seats → AllByRecursion Q (map (supported who support) seats)
all_supported P Q who support given left [] all = tt
all_supported P Q who support given left (s ∷ seats) all = (one_supported Q who support s (given s all.0) (left s all.0), all_supported P Q who support given left seats all.1)

seats_fit : (n who : ℕ) (support : Support) → SupportFits support → (seats : List Seat) → AllByRecursion (SeatFits n) seats → AllByRecursion (SeatFits n) (map (supported who support) seats)
seats_fit n who support fits seats all =
    all_supported (SeatFits n) (SeatFits n) who support
    (λ s h. record { who = h.who; incarnation = h.incarnation; next_above = h.next_above; next = h.next; support = fits })
    (λ s h. h) seats all

-- each seat says at most so much
abbrev IsWithin : ℕ → Seat → Type 0
IsWithin end s = IfSome s.support (λ (support : Support). support.ack ≤ end)

acks_within : (end who : ℕ) (support : Support) → support.ack ≤ end → (seats : List Seat) → AllByRecursion (IsWithin end) seats → AllByRecursion (IsWithin end) (map (supported who support) seats)
acks_within end who support fits seats all = all_supported (IsWithin end) (IsWithin end) who support (λ s h. fits) (λ s h. h) seats all

ascends : (who : ℕ) (support : Support) (seats : List Seat) → Ascends seats → Ascends (map (supported who support) seats)
ascends who support [] all = tt
ascends who support (s ∷ seats) all = (
  all_supported
      (λ t. s.member.who < t.member.who)
      (λ t. (supported who support s).member.who < t.member.who)
      who
      support
      (λ t below. below_it t below)
      (λ t below. below_it t below)
      seats
      all.0,
  ascends who support seats all.1,
)
  where
    below_it : (t : Seat) → s.member.who < t.member.who → (supported who support s).member.who < t.member.who
    below_it t below = one_supported (λ (x : Seat). x.member.who < t.member.who) who support s below below

-- ---- the maker's seat

abbrev IsHis : (who at : ℕ) → Seat → Type 0
IsHis who at s = (s.member.who ≡ who) × IsSome s.support × IfSome s.support (λ (support : Support). support.at ≡ at)

his : (who ack at : ℕ) (s : Seat) → s.member.who ≡ who → IsHis who at (supported who (record { ack = ack; at = at }) s)
his who ack at s same = let e : nat_eq s.member.who who ≡ true = eq-eqb s.member.who who same in rw e (same, refl, refl)

found : (who ack at : ℕ) (p : Seat → Bool) (seats : List Seat) (s : Seat) → find p seats ≡ Some s → s.member.who ≡ who → IsMadeBy who at (map (supported who (record { ack = ack; at = at })) seats)
found who ack at p [] s is same = cc
found who ack at p (x ∷ xs) s is same =
    let IsMade : List Seat → Type 0 = λ seats. IsMadeBy who at (map (supported who (record { ack = ack; at = at })) seats) in
    let later : find p xs ≡ Some s → IsMade (x ∷ xs) = λ e. inr (found who ack at p xs s e same) in
    let now : Some x ≡ Some s → IsMade (x ∷ xs) = λ e. (let h : x.member.who ≡ who = cc in inl (his who ack at x h)) in
    (elim (p x) as (λ b. cond b (Some x) (find p xs) ≡ Some s → IsMade (x ∷ xs)) [ true ↦ now | false ↦ later ]) is

first : (who ack at : ℕ) (seats : List Seat) (s : Seat) → slice_get seats 0 ≡ Some s → s.member.who ≡ who → IsMadeBy who at (map (supported who (record { ack = ack; at = at })) seats)
first who ack at [] s is same = cc
first who ack at (x ∷ xs) s is same = let h : x.member.who ≡ who = cc in inl (his who ack at x h)

next_makes : (who ack at maker : ℕ) (seats : List Seat) (s : Seat) → seat_after maker seats ≡ Some s → s.member.who ≡ who → IsMadeBy who at (map (supported who (record { ack = ack; at = at })) seats)
next_makes who ack at maker seats s is same = go (find above seats) refl is
  where
    above : Seat → Bool
    above x = nat_lt maker x.member.who

    go : (o : Option Seat) → find above seats ≡ o → option_or o (slice_get seats 0) ≡ Some s → IsMadeBy who at (map (supported who (record { ack = ack; at = at })) seats)
    go None e is = first who ack at seats s is same
    go (Some x) e is = found who ack at above seats s (e ∙ is) same

next_seat : (me : Member) (d : Decision) → is_next me d ≡ true → (s : Seat) × (seat_after d.maker d.seats.items ≡ Some s) × (s.member.who ≡ me.who)
next_seat me d next = go (seat_after d.maker d.seats.items) refl next
  where
    go : (o : Option Seat) → seat_after d.maker d.seats.items ≡ o → option_map_or (λ (s : Seat). is_same_member s.member me) o false ≡ true → (s : Seat) × (seat_after d.maker d.seats.items ≡ Some s) × (s.member.who ≡ me.who)
    go None e next = cc
    go (Some s) e next = (s, e, search (arith, nat_tests))

due_makes : (who ack at : ℕ) (me : Member) (d : Decision) → is_next me d ≡ true → me.who ≡ who → IsMadeBy who at (map (supported who (record { ack = ack; at = at })) d.seats.items)
due_makes who ack at me d turn same =
    let next : (s : Seat) × (seat_after d.maker d.seats.items ≡ Some s) × (s.member.who ≡ me.who) = next_seat me d turn in
    next_makes who ack at d.maker d.seats.items next.0 next.1 (next.2 ∙ same)

-- ---- the window

fold_min : (a : ℕ) (xs : List ℕ) → fold min a xs ≤ a
fold_min a [] = omega arith
fold_min a (x ∷ xs) = let h : fold min (min a x) xs ≤ min a x = fold_min (min a x) xs in omega arith

least_within : (end : ℕ) (seats : List Seat) → AllByRecursion (IsWithin end) seats → least (acks seats) ≤ end
least_within end [] all = omega arith
least_within end (s ∷ seats) all =
    let ack_of : Support → ℕ = λ (support : Support). support.ack in
    let others : List Support = filter_map (λ (s : Seat). s.support) seats in
    (elim s.support as (λ o. IfSome o (λ (support : Support). support.ack ≤ end) → least (map ack_of (cons_option o others)) ≤ end) [
      | None ↦ λ h. least_within end seats all.1
      | Some support ↦ λ h. (let below : fold min support.ack (map ack_of others) ≤ support.ack = fold_min support.ack (map ack_of others) in omega arith)
    ]) all.0

raised : (end low : ℕ) (seats : List Seat) → low ≤ end → AllByRecursion (IsWithin end) seats → (low ≤ raised_low low seats) × (raised_low low seats ≤ end)
raised end low seats below all =
    let least_one : least (acks seats) ≤ end = least_within end seats all in
    let P : ℕ → Type 0 = λ x. (low ≤ x) × (x ≤ end) in
    elim (list_all (λ (s : Seat). is_some s.support) seats) as (λ b. P (cond b (max low (least (acks seats))) low)) [
      | true ↦ (omega arith, omega arith)
      | false ↦ (omega arith, below)
    ]

all_dropped : {X : Type 0} (P : X → Type 0) (k : ℕ) (xs : List X) → AllByRecursion P xs → AllByRecursion P (drop k xs)
all_dropped P zero xs all = all
all_dropped P (suc k) [] all = tt
all_dropped P (suc k) (x ∷ xs) all = all_dropped P k xs all.1

-- ---- decisions

cut_fits : (n low : ℕ) (d : Decision) → d.low ≤ low → low ≤ d.low + length d.window.items → DecisionFits n d → DecisionFits n (cut_to low d)
cut_fits n low d above within fits =
    let left : length (drop (low - d.low) d.window.items) ≡ length d.window.items - (low - d.low) = length-drop (low - d.low) d.window.items in
    let end : low + length (drop (low - d.low) d.window.items) ≡ d.low + length d.window.items = omega arith in
    let count : IsCount (d.low + length d.window.items) = fits.end in
    let few : length d.window.items ≤ 32 = fits.entry_count in
    record {
      group = fits.group;
      turn = fits.turn;
      made = fits.made;
      start = fits.start;
      low = omega arith;
      mark_stamp = fits.mark_stamp;
      mark_who = fits.mark_who;
      mark_seq = fits.mark_seq;
      majority = fits.majority;
      seat_count = fits.seat_count;
      seats = fits.seats;
      ascending = fits.ascending;
      maker = fits.maker;
      entry_count = omega arith;
      end = omega arith;
      acks = rw end fits.acks;
      window = all_dropped (EntryFits n) (low - d.low) d.window.items fits.window;
    }

pub finished_fits : (n : ℕ) (draft : Decision) → DraftFits n draft → DecisionFits n (finished draft)
finished_fits n draft fits =
    let d : Decision = with_own_support draft in
    let bounds : (d.low ≤ raised_low d.low d.seats.items) × (raised_low d.low d.seats.items ≤ d.low + length d.window.items) = raised (d.low + length d.window.items) d.low d.seats.items (omega arith) fits.acks in
    cut_fits n (raised_low d.low d.seats.items) d bounds.0 bounds.1 fits

pub draft_fits : (n promised t who : ℕ) (team : Team) (me : Member) (d : Decision) → DecisionFits n d → me.who ≡ who → is_turn team me (Some d) promised t ≡ true → t < 2 ^ 60 → DraftFits n (next_draft d t who)
draft_fits n promised t who team me d fits same turn time =
    let support : Support = record { ack = decision_length d; at = t } in
    let below : d.turn < 2 ^ 60 - 1 = search (arith, nat_tests) in
    let mine : is_next me d ≡ true = search (arith, nat_tests) in
    let count : length (map (supported who support) d.seats.items) ≡ length d.seats.items = length-map d.seats.items (supported who support) in
    record {
      group = fits.group;
      turn = omega arith;
      made = time;
      start = fits.start;
      low = fits.low;
      mark_stamp = fits.mark_stamp;
      mark_who = fits.mark_who;
      mark_seq = fits.mark_seq;
      majority = rw count fits.majority;
      seat_count = rw count fits.seat_count;
      seats = seats_fit n who support (record { ack = fits.end; at = time }) d.seats.items fits.seats;
      ascending = ascends who support d.seats.items fits.ascending;
      maker = due_makes who (decision_length d) t me d mine same;
      entry_count = fits.entry_count;
      end = fits.end;
      acks = acks_within (decision_length d) who support (omega arith) d.seats.items fits.acks;
      window = fits.window;
    }
