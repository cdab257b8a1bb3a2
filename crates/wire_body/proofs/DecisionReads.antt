-- Decisions: what is read is spelled so, and what is spelled so is read.
use Rattle.std.proofs.Common.{◌≡◌, ℕ, ◌+◌, ◌*◌, ◌/◌, ◌^◌, ◌<◌, ◌≤◌, inl, inr, Bool, true, false, nat_lt, nat_le, ◌==◌, ◌&&◌, ◌||◌, List, [], ◌∷◌, length, Option, Some, None, refl, ap, append_assoc, arith}
use Rattle.std.specs.Prelude.{IfSome, IsSome}
use Rattle.std.specs.List.{flat_map, list_all, AllByRecursion}
use Rattle.std.specs.Int.{w8, w32, w64}
use Rattle.std.proofs.lemmas.Bool.{eqb-true}
use Rattle.std.proofs.lemmas.Bool.{and_parts, and_from}
use Rattle.std.proofs.lemmas.Bool.Decides.{nat_tests}
use Rattle.tw_types.specs.declared.message.Entry.{Entry}
use Rattle.tw_types.specs.declared.message.Support.{Support}
use Rattle.tw_types.specs.declared.message.Seat.{Seat}
use Rattle.tw_types.specs.declared.message.TimeMark.{TimeMark}
use Rattle.tw_types.specs.declared.message.Decision.{Decision}
use Rattle.tw_types.specs.declared.datagram.WireFault.TheVariants.{Field}
use Rattle.tw_types.specs.Bytes.{one, four, eight, fields, counted, IsCount}
use Rattle.tw_types.specs.Ranges.{IsPositive, EntryFits, SupportFits, SeatFits, Ascends, IsMadeBy, DecisionFits}
use Rattle.tw_types.specs.Spelling.{entry_bytes, support_bytes, seat_bytes, decision_bytes}
use Rattle.wire_head.specs.Reading.{is_count, is_positive}
use Rattle.wire_head.proofs.Numbers.{IsBytes, wide8, wide32, wide64, Reads, number_reads}
use Rattle.wire_head.proofs.Steps.{step, last, last_to, renamed, respelled, moved, tested_reads, checked_reads, count_reads, time_reads, byte_below_reads}
use Rattle.wire_body.specs.Decisions.{support_at, is_above, seat_at, is_seat_count, seats_at, is_given_at, is_maker, is_ack_within, is_window_count, window_entry_at, window_at, mark_at, is_told, decision_at, decision_size}
use Rattle.wire_body.proofs.ListReads.{Row, list_reads, counted_reads, optional_reads, all_passed, all_pass, IsNext, row_to, row_from}
use Rattle.wire_body.proofs.EntryReads.{entry_reads}

-- ---- seats

support_reads : (bytes : List ℕ) (fits : IsBytes bytes) (place next : ℕ) → next ≡ place + 16 → Reads bytes place SupportFits support_bytes (λ s. next) (support_at bytes place)
unfolding support_at
support_reads bytes fits place next e =
    renamed SupportFits
    (step (λ (s : Support). s.ack) (count_reads bytes fits place (place + 8) refl) (λ ack ack-is.
    step (λ (s : Support). s.at) (count_reads bytes fits (place + 8) next (omega arith)) (λ at at-is.
    last (record { ack = ack; at = at }))
    (λ at at-is s is. ap (λ (z : Support). z.at) is))
    (λ ack ack-is s is. ap (λ (z : Support). z.ack) is.1))
    (λ s is. record { ack = is.0; at = is.1.0 })
    (λ s is. (is.ack, (is.at, refl)))

abbrev pub IsBelow : Seat → Seat → Type 0
IsBelow s t = s.member.who < t.member.who

record IsAbove (n : ℕ) (before : List Seat) (who : ℕ) : Type 0 where
  limit : who < n
  above : AllByRecursion (λ (s : Seat). s.member.who < who) before

above_to : (n : ℕ) (before : List Seat) (who : ℕ) → is_above n before who ≡ true → IsAbove n before who
above_to n before who t =
    let h = and_parts (nat_lt who n) (list_all (λ (s : Seat). nat_lt s.member.who who) before) t in
    record {
      limit = let l = h.0 in grind (arith, nat_tests);
      above = all_passed (λ (s : Seat). nat_lt s.member.who who) (λ (s : Seat). s.member.who < who) (λ s p. grind (arith, nat_tests)) before h.1;
    }

above_from : (n : ℕ) (before : List Seat) (who : ℕ) → IsAbove n before who → is_above n before who ≡ true
above_from n before who is =
    let l = is.limit in
    and_from (nat_lt who n) (list_all (λ (s : Seat). nat_lt s.member.who who) before) (grind (arith, nat_tests)) (all_pass (λ (s : Seat). nat_lt s.member.who who) (λ (s : Seat). s.member.who < who) (λ s p. grind (arith, nat_tests)) before is.above)

record IsNextSeq (m : ℕ) : Type 0 where
  limit : m < 2 ^ 32
  some : 1 ≤ m

seat_item : (n : ℕ) → n < 2 ^ 8 → (bytes : List ℕ) (fits : IsBytes bytes) (before : List Seat) (place : ℕ) → Reads bytes place (IsNext (SeatFits n) IsBelow before) seat_bytes (λ s. place + 30) (seat_at n before bytes place)
unfolding seat_at
seat_item n small bytes fits before place =
    respelled seat_bytes (λ s. simp append_assoc)
    (renamed (IsNext (SeatFits n) IsBelow before)
    (step (λ (s : Seat). s.member.who) (checked_reads w8 (2 ^ 8) wide8 (is_above n before) (Field place) (IsAbove n before) (above_to n before) (λ m is. let l = is.limit in (omega arith, above_from n before m is)) bytes fits place (place + 1) refl) (λ who who-is.
    step (λ (s : Seat). s.member.incarnation) (count_reads bytes fits (place + 1) (place + 9) (omega arith)) (λ incarnation incarnation-is.
    step (λ (s : Seat). s.next) (renamed IsNextSeq (tested_reads w32 (2 ^ 32) wide32 (λ m. nat_le 1 m) (Field (place + 9)) bytes fits (place + 9) (place + 13) (omega arith)) (λ m is. let a = is.1 in record { limit = is.0; some = grind (arith, nat_tests) }) (λ m is. let a = is.some in (is.limit, grind (arith, nat_tests)))) (λ next next-is.
    step (λ (s : Seat). s.support) (optional_reads 2 support_at SupportFits support_bytes bytes fits (place + 13) (place + 30) (omega arith) (support_reads bytes fits (place + 13 + 1) (place + 30) (omega arith))) (λ support support-is.
    last (record { member = record { who = who; incarnation = incarnation }; next = next; support = support }))
    (λ support support-is s is. ap (λ (z : Seat). z.support) is))
    (λ next next-is s is. ap (λ (z : Seat). z.next) is.1))
    (λ incarnation incarnation-is s is. ap (λ (z : Seat). z.member.incarnation) is.1.1))
    (λ who who-is s is. ap (λ (z : Seat). z.member.who) is.1.1.1))
    (λ s is. record {
      fits = record { who = is.0.limit; incarnation = is.1.0; next_above = is.1.1.0.some; next = is.1.1.0.limit; support = is.1.1.1.0 };
      goes = is.0.above;
    })
    (λ s is. (record { limit = is.fits.who; above = is.goes }, (is.fits.incarnation, (record { limit = is.fits.next; some = is.fits.next_above }, (is.fits.support, refl))))))

-- seats that a decision may have
record AreSeats (n : ℕ) (seats : List Seat) : Type 0 where
  majority : n / 2 + 1 ≤ length seats
  seat_count : length seats ≤ n
  each : AllByRecursion (SeatFits n) seats
  ascending : Ascends seats

record IsSeatCount (n k : ℕ) : Type 0 where
  majority : n / 2 + 1 ≤ k
  all : k ≤ n

seats_reads : (n : ℕ) → n < 2 ^ 8 → (bytes : List ℕ) (fits : IsBytes bytes) (place : ℕ) → Reads bytes place (AreSeats n) (counted w8 (flat_map seat_bytes)) (λ seats. place + 1 + 30 * length seats) (seats_at n bytes place)
unfolding seats_at
seats_reads n small bytes fits place =
    renamed (AreSeats n)
    (counted_reads w8 (2 ^ 8) wide8 (is_seat_count n) (IsSeatCount n) (λ k t. record { majority = grind (arith, nat_tests); all = grind (arith, nat_tests) }) (λ k is. let a = is.majority in let b = is.all in (omega arith, grind (arith, nat_tests))) _ (Row (IsNext (SeatFits n) IsBelow) []) (flat_map seat_bytes) (λ seats. place + 1 + 30 * length seats) bytes fits place
    (λ k. list_reads 30 (seat_at n) (IsNext (SeatFits n) IsBelow) seat_bytes bytes (seat_item n small bytes fits) k (place + 1)))
    (λ seats is. let a = row_to (SeatFits n) IsBelow Ascends tt (λ s rest a b. (a, b)) (λ s rest a. a) seats is.1 in record { majority = is.0.majority; seat_count = is.0.all; each = a.0; ascending = a.1 })
    (λ seats is. (record { majority = is.majority; all = is.seat_count }, row_from (SeatFits n) IsBelow Ascends tt (λ s rest a b. (a, b)) (λ s rest a. a) seats is.each is.ascending))

-- ---- the maker

given_to : (made : ℕ) (support : Option Support) → is_given_at made support ≡ true → IsSome support × IfSome support (λ u. u.at ≡ made)
given_to made None t = absurd cc
given_to made (Some u) t = (refl, eqb-true _ _ t)

given_from : (made : ℕ) (support : Option Support) → IsSome support → IfSome support (λ u. u.at ≡ made) → is_given_at made support ≡ true
given_from made None there is = absurd (cc there)
given_from made (Some u) there is = rw is (grind (arith, nat_tests))

abbrev is_of_maker : ℕ → ℕ → Seat → Bool
is_of_maker made maker s = (s.member.who == maker) && is_given_at made s.support

maker_to : (made : ℕ) (seats : List Seat) (maker : ℕ) → is_maker made seats maker ≡ true → IsMadeBy maker made seats
maker_to made [] maker t = absurd cc
maker_to made (s ∷ seats) maker t = by_seat (is_of_maker made maker s) refl (maker_to made seats maker)
  where
    by_seat : (b : Bool) → is_of_maker made maker s ≡ b → (is_maker made seats maker ≡ true → IsMadeBy maker made seats) → IsMadeBy maker made (s ∷ seats)
    by_seat true e rest =
        let h = and_parts (s.member.who == maker) (is_given_at made s.support) e in
        let g = given_to made s.support h.1 in
        inl (eqb-true _ _ h.0, g.0, g.1)
    by_seat false e rest = inr (rest (rw e at t))

maker_from : (made : ℕ) (seats : List Seat) (maker : ℕ) → IsMadeBy maker made seats → is_maker made seats maker ≡ true
maker_from made [] maker is = absurd is
maker_from made (s ∷ seats) maker (inl is) =
    let same : (s.member.who == maker) ≡ true = let e = is.0 in grind (arith, nat_tests) in
    let given = given_from made s.support is.1 is.2 in
    rw (same, given) refl
maker_from made (s ∷ seats) maker (inr is) = or_true (is_of_maker made maker s) (is_maker made seats maker) (maker_from made seats maker is)
  where
    or_true : (a b : Bool) → b ≡ true → (a || b) ≡ true
    or_true true b t = refl
    or_true false b t = t

-- the maker is a process of the team
maker_limit : (n made : ℕ) (seats : List Seat) (maker : ℕ) → AllByRecursion (SeatFits n) seats → IsMadeBy maker made seats → maker < n
maker_limit n made [] maker fits is = absurd is
maker_limit n made (s ∷ seats) maker fits (inl is) = let w = fits.0.who in let e = is.0 in omega arith
maker_limit n made (s ∷ seats) maker fits (inr is) = maker_limit n made seats maker fits.1 is

-- ---- the window

abbrev IsAckWithin : ℕ → Seat → Type 0
IsAckWithin end s = IfSome s.support (λ u. u.ack ≤ end)

ack_to : (end : ℕ) (support : Option Support) → is_ack_within end support ≡ true → IfSome support (λ u. u.ack ≤ end)
ack_to end None t = tt
ack_to end (Some u) t = grind (arith, nat_tests)

ack_from : (end : ℕ) (support : Option Support) → IfSome support (λ u. u.ack ≤ end) → is_ack_within end support ≡ true
ack_from end None is = refl
ack_from end (Some u) is = grind (arith, nat_tests)

record IsWindowCount (low : ℕ) (seats : List Seat) (k : ℕ) : Type 0 where
  at_most : k ≤ 32
  end : IsCount (low + k)
  acks : AllByRecursion (IsAckWithin (low + k)) seats

window_count_to : (low : ℕ) (seats : List Seat) (k : ℕ) → is_window_count low seats k ≡ true → IsWindowCount low seats k
window_count_to low seats k t =
    let h = and_parts (nat_le k 32 && is_count (low + k)) (list_all (λ (s : Seat). is_ack_within (low + k) s.support) seats) t in
    let g = and_parts (nat_le k 32) (is_count (low + k)) h.0 in
    record {
      at_most = let l = g.0 in grind (arith, nat_tests);
      end = let l = g.1 in grind (arith, nat_tests);
      acks = all_passed (λ (s : Seat). is_ack_within (low + k) s.support) (IsAckWithin (low + k)) (λ s p. ack_to (low + k) s.support p) seats h.1;
    }

window_count_from : (low : ℕ) (seats : List Seat) (k : ℕ) → IsWindowCount low seats k → is_window_count low seats k ≡ true
window_count_from low seats k is =
    let a = is.at_most in
    let b = is.end in
    and_from (nat_le k 32 && is_count (low + k)) (list_all (λ (s : Seat). is_ack_within (low + k) s.support) seats) (and_from (nat_le k 32) (is_count (low + k)) (grind (arith, nat_tests)) (grind (arith, nat_tests)))
    (all_pass (λ (s : Seat). is_ack_within (low + k) s.support) (IsAckWithin (low + k)) (λ s p. ack_from (low + k) s.support p) seats is.acks)

-- an entry of a window; those before it don't matter
window_item : (n : ℕ) → n < 2 ^ 8 → (bytes : List ℕ) (fits : IsBytes bytes) (before : List Entry) (place : ℕ) → Reads bytes place (IsNext (EntryFits n) (λ e f. Unit {0}) before) entry_bytes (λ e. place + 22) (window_entry_at n before bytes place)
unfolding window_entry_at
window_item n small bytes fits before place =
    renamed (IsNext (EntryFits n) (λ e f. Unit {0}) before) (entry_reads n small true bytes fits place (place + 22) refl)
    (λ e is. record { fits = is.fits; goes = all_map_none before })
    (λ e is. record { fits = is.fits; never = λ none. absurd cc })
  where
    all_map_none : (before : List Entry) → AllByRecursion (λ (b : Entry). Unit {0}) before
    all_map_none [] = tt
    all_map_none (b ∷ before) = (tt, all_map_none before)

record IsWindow (n low : ℕ) (seats : List Seat) (window : List Entry) : Type 0 where
  count : IsWindowCount low seats (length window)
  each : AllByRecursion (EntryFits n) window

window_reads : (n : ℕ) → n < 2 ^ 8 → (low : ℕ) (seats : List Seat) (bytes : List ℕ) (fits : IsBytes bytes) (place : ℕ) → Reads bytes place (IsWindow n low seats) (counted w8 (flat_map entry_bytes)) (λ window. place + 1 + 22 * length window) (window_at n low seats bytes place)
unfolding window_at
window_reads n small low seats bytes fits place =
    renamed (IsWindow n low seats)
    (counted_reads w8 (2 ^ 8) wide8 (is_window_count low seats) (IsWindowCount low seats) (window_count_to low seats) (λ k is. let a = is.at_most in (omega arith, window_count_from low seats k is)) _ (Row (IsNext (EntryFits n) (λ e f. Unit {0})) []) (flat_map entry_bytes) (λ window. place + 1 + 22 * length window) bytes fits place
    (λ k. list_reads 22 (window_entry_at n) (IsNext (EntryFits n) (λ e f. Unit {0})) entry_bytes bytes (window_item n small bytes fits) k (place + 1)))
    (λ window is. record { count = is.0; each = (row_to (EntryFits n) (λ e f. Unit {0}) (λ es. Unit {0}) tt (λ e rest a b. tt) (λ e rest a. (all_tt rest, tt)) window is.1).0 })
    (λ window is. (is.count, row_from (EntryFits n) (λ e f. Unit {0}) (λ es. Unit {0}) tt (λ e rest a b. tt) (λ e rest a. (all_tt rest, tt)) window is.each tt))
  where
    all_tt : (es : List Entry) → AllByRecursion (λ (f : Entry). Unit {0}) es
    all_tt [] = tt
    all_tt (e ∷ es) = (tt, all_tt es)

-- ---- the mark

record MarkFits (n : ℕ) (m : TimeMark) : Type 0 where
  stamp : IsCount m.stamp
  who : m.who < n
  seq : m.seq < 2 ^ 32

abbrev mark_bytes : TimeMark → List ℕ
mark_bytes m = fields (eight m.stamp ∷ one m.who ∷ four m.seq ∷ [])

mark_reads : (n : ℕ) → n < 2 ^ 8 → (bytes : List ℕ) (fits : IsBytes bytes) (place next : ℕ) → next ≡ place + 13 → Reads bytes place (MarkFits n) mark_bytes (λ m. next) (mark_at n bytes place)
unfolding mark_at
mark_reads n small bytes fits place next e =
    renamed (MarkFits n)
    (step (λ (m : TimeMark). m.stamp) (count_reads bytes fits place (place + 8) refl) (λ stamp stamp-is.
    step (λ (m : TimeMark). m.who) (byte_below_reads bytes fits (place + 8) (place + 9) n small (omega arith)) (λ who who-is.
    step (λ (m : TimeMark). m.seq) (number_reads w32 (2 ^ 32) wide32 bytes fits (place + 9) next (omega arith)) (λ seq seq-is.
    last (record { stamp = stamp; who = who; seq = seq }))
    (λ seq seq-is m is. ap (λ (z : TimeMark). z.seq) is))
    (λ who who-is m is. ap (λ (z : TimeMark). z.who) is.1))
    (λ stamp stamp-is m is. ap (λ (z : TimeMark). z.stamp) is.1.1))
    (λ m is. record { stamp = is.0; who = is.1.0; seq = is.1.1.0 })
    (λ m is. (is.stamp, (is.who, (is.seq, refl))))

-- ---- the decision

-- the number that was told, where one was
abbrev pub IsTold : Option ℕ → ℕ → Type 0
IsTold told n = IfSome told (λ m. n ≡ m)

pub told_to : (told : Option ℕ) (n : ℕ) → is_told told n ≡ true → IsTold told n
told_to None n t = tt
told_to (Some m) n t = eqb-true _ _ t

pub told_from : (told : Option ℕ) (n : ℕ) → IsTold told n → is_told told n ≡ true
told_from None n is = refl
told_from (Some m) n is = grind (arith, nat_tests)

record IsToldGroup (told : Option ℕ) (g : ℕ) : Type 0 where
  group : IsPositive g
  told_is : IsTold told g

group_to : (told : Option ℕ) (g : ℕ) → (is_positive g && is_told told g) ≡ true → IsToldGroup told g
group_to told g t =
    let h = and_parts (is_positive g) (is_told told g) t in
    let p = h.0 in
    record { group = record { above = grind (arith, nat_tests); count = grind (arith, nat_tests) }; told_is = told_to told g h.1 }

group_from : (told : Option ℕ) (g : ℕ) → IsToldGroup told g → (g < 2 ^ 64) × ((is_positive g && is_told told g) ≡ true)
group_from told g is =
    let a = is.group.above in
    let b = is.group.count in
    (omega arith, and_from (is_positive g) (is_told told g) (grind (arith, nat_tests)) (told_from told g is.told_is))

pub record IsToldCount (told : Option ℕ) (t : ℕ) : Type 0 where
  pub count : IsCount t
  pub told_is : IsTold told t

pub count_to : (told : Option ℕ) (c : ℕ) → (is_count c && is_told told c) ≡ true → IsToldCount told c
count_to told c t =
    let h = and_parts (is_count c) (is_told told c) t in
    let p = h.0 in
    record { count = grind (arith, nat_tests); told_is = told_to told c h.1 }

pub count_from : (told : Option ℕ) (c : ℕ) → IsToldCount told c → (c < 2 ^ 64) × ((is_count c && is_told told c) ≡ true)
count_from told c is =
    let a = is.count in
    (omega arith, and_from (is_count c) (is_told told c) (grind (arith, nat_tests)) (told_from told c is.told_is))

-- a decision that fits, of the group and turn that were told
pub record IsDecision (n : ℕ) (told_group told_turn : Option ℕ) (d : Decision) : Type 0 where
  pub fits : DecisionFits n d
  pub group : IsTold told_group d.group
  pub turn : IsTold told_turn d.turn

pub decision_reads : (n : ℕ) → n < 2 ^ 8 → (told_group told_turn : Option ℕ) (bytes : List ℕ) (fits : IsBytes bytes) (place : ℕ) → Reads bytes place (IsDecision n told_group told_turn) decision_bytes (λ d. place + decision_size d) (decision_at n told_group told_turn bytes place)
unfolding decision_at
decision_reads n small told_group told_turn bytes fits place =
    respelled decision_bytes (λ d. simp append_assoc)
    (renamed (IsDecision n told_group told_turn)
    (step (λ (d : Decision). d.group) (checked_reads w64 (2 ^ 64) wide64 (λ g. is_positive g && is_told told_group g) (Field place) (IsToldGroup told_group) (group_to told_group) (group_from told_group) bytes fits place (place + 8) refl) (λ group group-is.
    step (λ (d : Decision). d.turn) (checked_reads w64 (2 ^ 64) wide64 (λ t. is_count t && is_told told_turn t) (Field (place + 8)) (IsToldCount told_turn) (count_to told_turn) (count_from told_turn) bytes fits (place + 8) (place + 16) (omega arith)) (λ turn turn-is.
    step (λ (d : Decision). d.made) (count_reads bytes fits (place + 16) (place + 24) (omega arith)) (λ made made-is.
    step (λ (d : Decision). d.start) (time_reads bytes fits (place + 24) (place + 32) (omega arith)) (λ start start-is.
    step (λ (d : Decision). d.low) (count_reads bytes fits (place + 32) (place + 40) (omega arith)) (λ low low-is.
    step (λ (d : Decision). d.mark) (mark_reads n small bytes fits (place + 40) (place + 53) (omega arith)) (λ mark mark-is.
    step (λ (d : Decision). d.seats.items) (moved (λ seats. place + 54 + 30 * length seats) (λ seats. omega arith) (seats_reads n small bytes fits (place + 53))) (λ seats seats-is.
    step (λ (d : Decision). d.maker) (checked_reads w8 (2 ^ 8) wide8 (is_maker made seats) (Field (place + 54 + 30 * length seats)) (λ m. IsMadeBy m made seats) (maker_to made seats) (λ m is. let l = maker_limit n made seats m seats-is.each is in (omega arith, maker_from made seats m is)) bytes fits (place + 54 + 30 * length seats) (place + 55 + 30 * length seats) (omega arith)) (λ maker maker-is.
    step (λ (d : Decision). d.window.items) (moved (λ window. place + 56 + 30 * length seats + 22 * length window) (λ window. omega arith) (window_reads n small low seats bytes fits (place + 55 + 30 * length seats))) (λ window window-is.
    last_to (record { group = group; turn = turn; made = made; start = start; low = low; mark = mark; seats = record { items = seats }; maker = maker; window = record { items = window } }) (λ d. place + decision_size d) (omega arith))
    (λ window window-is d is. ap (λ (z : Decision). z.window.items) is))
    (λ maker maker-is d is. ap (λ (z : Decision). z.maker) is.1))
    (λ seats seats-is d is. ap (λ (z : Decision). z.seats.items) is.1.1))
    (λ mark mark-is d is. ap (λ (z : Decision). z.mark) is.1.1.1))
    (λ low low-is d is. ap (λ (z : Decision). z.low) is.1.1.1.1))
    (λ start start-is d is. ap (λ (z : Decision). z.start) is.1.1.1.1.1))
    (λ made made-is d is. ap (λ (z : Decision). z.made) is.1.1.1.1.1.1))
    (λ turn turn-is d is. ap (λ (z : Decision). z.turn) is.1.1.1.1.1.1.1))
    (λ group group-is d is. ap (λ (z : Decision). z.group) is.1.1.1.1.1.1.1.1))
    (λ d is.
    let a = is.1.1.1 in
    let seats = a.1.1.1.0 in
    let rest = a.1.1.1.1 in
    record {
      fits = record {
        group = is.0.group;
        turn = is.1.0.count;
        made = is.1.1.0;
        start = a.0;
        low = a.1.0;
        mark_stamp = a.1.1.0.stamp;
        mark_who = a.1.1.0.who;
        mark_seq = a.1.1.0.seq;
        majority = seats.majority;
        seat_count = seats.seat_count;
        seats = seats.each;
        ascending = seats.ascending;
        maker = rest.0;
        entry_count = rest.1.0.count.at_most;
        end = rest.1.0.count.end;
        acks = rest.1.0.count.acks;
        window = rest.1.0.each;
      };
      group = is.0.told_is;
      turn = is.1.0.told_is;
    })
    (λ d is.
    let f = is.fits in (
      record { group = f.group; told_is = is.group },
      (
        record { count = f.turn; told_is = is.turn },
        (
          f.made,
          (
            f.start,
            (
              f.low,
              (
                record { stamp = f.mark_stamp; who = f.mark_who; seq = f.mark_seq },
                (
                  record { majority = f.majority; seat_count = f.seat_count; each = f.seats; ascending = f.ascending },
                  (f.maker, (record { count = record { at_most = f.entry_count; end = f.end; acks = f.acks }; each = f.window }, refl)),
                ),
              ),
            ),
          ),
        ),
      ),
    )))
