-- With an entry more a draft stays in the ranges of the wire.
use Rattle.std.proofs.Common.{◌≡◌, refl, ℕ, ◌+◌, ◌-◌, ◌<◌, ◌≤◌, ◌^◌, nat_eq, Bool, true, false, cond, List, [], ◌∷◌, ◌++◌, length, map, Option, Some, None, IfSome, IsSome, inl, inr, arith, sym, ◌∙◌, subst, length-append}
use Rattle.std.specs.Prelude.{◌&&◌}
use Rattle.std.specs.List.{AllByRecursion}
use Rattle.std.specs.Option.{option_map_or}
use Rattle.std.proofs.lemmas.List.{length-map}
use Rattle.std.proofs.lemmas.Bool.Decides.{nat_tests}
use Rattle.tw_types.specs.declared.team.Team.{Team}
use Rattle.tw_types.specs.declared.message.Order.{Order}
use Rattle.tw_types.specs.declared.message.Order.TheVariants.{Unordered, Total, Timed}
use Rattle.tw_types.specs.declared.message.Entry.{Entry}
use Rattle.tw_types.specs.declared.message.Kept.{Kept}
use Rattle.tw_types.specs.declared.message.Support.{Support}
use Rattle.tw_types.specs.declared.message.Seat.{Seat}
use Rattle.tw_types.specs.declared.message.TimeMark.{TimeMark}
use Rattle.tw_types.specs.declared.message.Decision.{Decision}
use Rattle.tw_types.specs.Bytes.{IsCount}
use Rattle.tw_types.specs.Ranges.{EntryFits, SentFits, SupportFits, SeatFits, Ascends, IsMadeBy}
use Rattle.tw_types.specs.Decisions.{decision_length, is_seat_of, is_same_member}
use Rattle.tw_types.specs.Turns.{supported, DraftFits}
use Rattle.tw_types.specs.Updates.{sender, is_timed}
use Rattle.tw_types.specs.Appending.{count_of, mark_of, moves_mark, added_entry, raised, mark_after, with_appended}
use Rattle.tw_types.proofs.Lists.{all_joined}
use Rattle.order_rules.specs.Next.{GoesOn}
use Rattle.order_rules.proofs.Lists.{holds_of}

-- ---- the entry

is_timed_one : (order : Order) (b : Bool) → (is_timed order && b) ≡ true → order ≡ Timed
is_timed_one Unordered b h = cc
is_timed_one Total b h = cc
is_timed_one Timed b h = refl

entry_fits : (n : ℕ) (d : Decision) (k : Kept) → SentFits n k.entry → EntryFits n (added_entry d [] k)
entry_fits n d k h = record { id = h.id; late = λ late. is_timed_one k.entry.order _ late; stamp = h.stamp }

-- ---- the mark

abbrev MarkFits : ℕ → TimeMark → Type 0
MarkFits n mark = IsCount mark.stamp × (mark.who < n) × (mark.seq < 2 ^ 32)

mark_fits : (n : ℕ) (e : Entry) (mark : TimeMark) → EntryFits n e → MarkFits n mark → MarkFits n (mark_after (e ∷ []) mark)
mark_fits n e mark fits old =
    let last : e.id.seq ≤ 4294967294 = fits.id.last in
    elim (moves_mark e) as (λ b. MarkFits n (option_map_or mark_of (cond b (Some e) None) mark)) [
      | true ↦ (fits.stamp, fits.id.who, omega arith)
      | false ↦ old
    ]

-- ---- the seats

-- what holds of each seat with its old support holds of it raised and with its new one
all_raised : (P Q R : Seat → Type 0) (who : ℕ) (old new : Support) (e : Entry) → ((s : Seat) → R s → P (supported who old s) → Q (supported who new (raised (e ∷ []) s))) → (seats : List Seat) → AllByRecursion R seats → AllByRecursion P (map (supported who old) seats) → AllByRecursion Q (map (supported who new) (map (raised (e ∷ [])) seats))
all_raised P Q R who old new e each [] r p = tt
all_raised P Q R who old new e each (s ∷ seats) r p = (each s r.0 p.0, all_raised P Q R who old new e each seats r.1 p.1)

abbrev HasLeft : Entry → Seat → Type 0
HasLeft e s = is_seat_of (sender e.id) s ≡ true → s.next < 4294967295

next_fits : (e : Entry) (s : Seat) → HasLeft e s → s.next < 2 ^ 32 → s.next + count_of s.member (e ∷ []) < 2 ^ 32
next_fits e s left below = by (is_same_member (sender e.id) s.member) (λ is. left (grind (arith, nat_tests)))
  where
    by : (b : Bool) → (b ≡ true → s.next < 4294967295) → s.next + (0 + cond b 1 0) < 2 ^ 32
    by true h = let l = h refl in omega arith
    by false h = omega arith

seat_fits : (n who : ℕ) (old new : Support) (e : Entry) → SupportFits new → (s : Seat) → HasLeft e s → SeatFits n (supported who old s) → SeatFits n (supported who new (raised (e ∷ []) s))
seat_fits n who old new e fits s left h = by (nat_eq s.member.who who) h
  where
    by : (b : Bool) → SeatFits n (cond b (record s { support = Some old }) s) → SeatFits n (cond b (record (raised (e ∷ []) s) { support = Some new }) (raised (e ∷ []) s))
    by true h = let above : 1 ≤ s.next = h.next_above in record { who = h.who; incarnation = h.incarnation; next_above = omega arith; next = next_fits e s left h.next; support = fits }
    by false h = let above : 1 ≤ s.next = h.next_above in record { who = h.who; incarnation = h.incarnation; next_above = omega arith; next = next_fits e s left h.next; support = h.support }

abbrev IsWithin : ℕ → Seat → Type 0
IsWithin end s = IfSome s.support (λ (support : Support). support.ack ≤ end)

ack_within : (end later who : ℕ) (old new : Support) (e : Entry) → end ≤ later → new.ack ≤ later → (s : Seat) → IsWithin end (supported who old s) → IsWithin later (supported who new (raised (e ∷ []) s))
ack_within end later who old new e longer fits s h = by (nat_eq s.member.who who) h
  where
    same : (o : Option Support) → IfSome o (λ (support : Support). support.ack ≤ end) → IfSome o (λ (support : Support). support.ack ≤ later)
    same None h = tt
    same (Some x) h = omega arith

    by : (b : Bool) → IsWithin end (cond b (record s { support = Some old }) s) → IsWithin later (cond b (record (raised (e ∷ []) s) { support = Some new }) (raised (e ∷ []) s))
    by true h = fits
    by false h = same s.support h

still_made : (who made : ℕ) (old new : Support) (e : Entry) → new.at ≡ made → (seats : List Seat) → IsMadeBy who made (map (supported who old) seats) → IsMadeBy who made (map (supported who new) (map (raised (e ∷ [])) seats))
still_made who made old new e at [] h = h
still_made who made old new e at (s ∷ seats) (inr h) = inr (still_made who made old new e at seats h)
still_made who made old new e at (s ∷ seats) (inl h) = inl (by (nat_eq s.member.who who) h)
  where
    IsHis : Seat → Type 0
    IsHis s = (s.member.who ≡ who) × IsSome s.support × IfSome s.support (λ (support : Support). support.at ≡ made)

    by : (b : Bool) → IsHis (cond b (record s { support = Some old }) s) → IsHis (cond b (record (raised (e ∷ []) s) { support = Some new }) (raised (e ∷ []) s))
    by true h = (h.0, refl, at)
    by false h = h

all_held : (seats : List Seat) → AllByRecursion (λ (s : Seat). Unit {0}) seats
all_held [] = tt
all_held (s ∷ seats) = (tt, all_held seats)

ascends_by : (f : Seat → Seat) → ((s : Seat) → (f s).member ≡ s.member) → (seats : List Seat) → Ascends seats → Ascends (map f seats)
ascends_by f keeps [] up = tt
ascends_by f keeps (s ∷ seats) up = (above seats up.0, ascends_by f keeps seats up.1)
  where
    above : (others : List Seat) → AllByRecursion (λ (t : Seat). s.member.who < t.member.who) others → AllByRecursion (λ (t : Seat). (f s).member.who < t.member.who) (map f others)
    above [] all = tt
    above (o ∷ others) all = (rw (keeps s, keeps o) all.0, above others all.1)

pub still_ascends : (entries : List Entry) (d : Decision) → Ascends d.seats.items → Ascends (with_appended entries d).seats.items
still_ascends entries d up = ascends_by (raised entries) (λ s. refl) d.seats.items up

keeps_member : (who : ℕ) (new : Support) (s : Seat) → (supported who new s).member ≡ s.member
keeps_member who new s = elim (nat_eq s.member.who who) as (λ b. (cond b (record s { support = Some new }) s).member ≡ s.member) [ true ↦ refl | false ↦ refl ]

-- ---- the decision

pub one_more_fits : (n : ℕ) (team : Team) (t passed : ℕ) (d : Decision) (pending : List Kept) (e : Entry) → Ascends d.seats.items → AllByRecursion (HasLeft e) d.seats.items → GoesOn team t passed d pending e → AllByRecursion (λ (k : Kept). SentFits n k.entry) pending → DraftFits n d → DraftFits n (with_appended (e ∷ []) d)
one_more_fits n team t passed d pending e up left on sent fits =
    let old : Support = record { ack = decision_length d; at = d.made } in
    let new : Support = record { ack = decision_length (with_appended (e ∷ []) d); at = d.made } in
    let count : length (d.window.items ++ e ∷ []) ≡ length d.window.items + 1 = length-append d.window.items (e ∷ []) in
    let few : length d.window.items + 1 ≤ 32 = grind (arith, nat_tests) in
    let last : decision_length d + 1 ≤ 2 ^ 60 - 1 = grind (arith, nat_tests) in
    let end : IsCount (d.low + length (d.window.items ++ e ∷ [])) = omega arith in
    let one : EntryFits n e = subst (EntryFits n) (sym on.next.entry) (entry_fits n d on.next.update (holds_of (λ (k : Kept). SentFits n k.entry) pending on.next.update sent on.next.waits)) in
    let mark : MarkFits n (mark_after (e ∷ []) d.mark) = mark_fits n e d.mark one (fits.mark_stamp, fits.mark_who, fits.mark_seq) in
    let seats_old : length (map (supported d.maker old) d.seats.items) ≡ length d.seats.items = length-map d.seats.items (supported d.maker old) in
    let seats_new : length (map (supported d.maker new) (map (raised (e ∷ [])) d.seats.items)) ≡ length d.seats.items = length-map (map (raised (e ∷ [])) d.seats.items) (supported d.maker new) ∙ length-map d.seats.items (raised (e ∷ [])) in
    let support : SupportFits new = record { ack = end; at = fits.made } in
    record {
      group = fits.group;
      turn = fits.turn;
      made = fits.made;
      start = fits.start;
      low = fits.low;
      mark_stamp = mark.0;
      mark_who = mark.1;
      mark_seq = mark.2;
      majority = rw seats_new (rw seats_old at fits.majority);
      seat_count = rw seats_new (rw seats_old at fits.seat_count);
      seats = all_raised (SeatFits n) (SeatFits n) (HasLeft e) d.maker old new e (seat_fits n d.maker old new e support) d.seats.items left fits.seats;
      ascending = ascends_by (supported d.maker new) (keeps_member d.maker new) (map (raised (e ∷ [])) d.seats.items) (still_ascends (e ∷ []) d up);
      maker = still_made d.maker d.made old new e refl d.seats.items fits.maker;
      entry_count = omega arith;
      end = end;
      acks = all_raised (IsWithin (decision_length d)) (IsWithin (decision_length (with_appended (e ∷ []) d))) (λ s. Unit {0}) d.maker old new e (λ s _. ack_within (decision_length d) (decision_length (with_appended (e ∷ []) d)) d.maker old new e (omega arith) (omega arith) s) d.seats.items (all_held d.seats.items) fits.acks;
      window = all_joined (EntryFits n) d.window.items (e ∷ []) fits.window (one, tt);
    }
