-- Reading a decision from left to right.
use Rattle.std.specs.Prelude.{ℕ, ◌+◌, ◌*◌, ◌/◌, nat_lt, nat_le, ◌==◌, Bool, true, false, ◌&&◌, List, length, Option, Some, None, Result, Ok}
use Rattle.std.specs.List.{list_all, list_any}
use Rattle.std.specs.Int.{w8, w32, w64}
use Rattle.tw_types.specs.declared.message.Entry.{Entry}
use Rattle.tw_types.specs.declared.message.Support.{Support}
use Rattle.tw_types.specs.declared.message.Seat.{Seat}
use Rattle.tw_types.specs.declared.message.TimeMark.{TimeMark}
use Rattle.tw_types.specs.declared.message.Decision.{Decision}
use Rattle.tw_types.specs.declared.datagram.WireFault.{WireFault}
use Rattle.wire_head.specs.Reading.{◌>>=◌, is_count, is_positive, number_at, field_at, count_at, time_at, byte_below}
use Rattle.wire_body.specs.Lists.{list_at, counted_at, optional_at}
use Rattle.wire_body.specs.Entries.{entry_at}

unfoldable pub support_at : List ℕ → ℕ → Result Support WireFault
support_at bytes place = do
  ack ← count_at bytes place
  at ← count_at bytes (place + 8)
  Ok (record { ack = ack; at = at })

-- a process above those of the seats before
abbrev pub is_above : ℕ → List Seat → ℕ → Bool
is_above n before who = nat_lt who n && list_all (λ (s : Seat). nat_lt s.member.who who) before

unfoldable pub seat_at : ℕ → List Seat → List ℕ → ℕ → Result Seat WireFault
seat_at n before bytes place = do
  who ← field_at w8 (is_above n before) bytes place
  incarnation ← count_at bytes (place + 1)
  next ← field_at w32 (λ m. nat_le 1 m) bytes (place + 9)
  support ← optional_at 2 support_at bytes (place + 13)
  Ok (record { member = record { who = who; incarnation = incarnation }; next = next; support = support })

-- from a majority of the team to all of it
abbrev pub is_seat_count : ℕ → ℕ → Bool
is_seat_count n k = nat_le (n / 2 + 1) k && nat_le k n

unfoldable pub seats_at : ℕ → List ℕ → ℕ → Result (List Seat) WireFault
seats_at n bytes place = counted_at w8 (is_seat_count n) (list_at 30 (seat_at n)) bytes place

abbrev pub is_given_at : ℕ → Option Support → Bool
is_given_at made None = false
is_given_at made (Some support) = support.at == made

-- a process with a seat that has a support of this moment
abbrev pub is_maker : ℕ → List Seat → ℕ → Bool
is_maker made seats who = list_any (λ (s : Seat). (s.member.who == who) && is_given_at made s.support) seats

abbrev pub is_ack_within : ℕ → Option Support → Bool
is_ack_within end None = true
is_ack_within end (Some support) = nat_le support.ack end

-- at most 32 entries; they end at a count that no seat's ack is above
abbrev pub is_window_count : ℕ → List Seat → ℕ → Bool
is_window_count low seats k = nat_le k 32 && is_count (low + k) && list_all (λ (s : Seat). is_ack_within (low + k) s.support) seats

unfoldable pub window_entry_at : ℕ → List Entry → List ℕ → ℕ → Result Entry WireFault
window_entry_at n before bytes place = entry_at n true bytes place

unfoldable pub window_at : ℕ → ℕ → List Seat → List ℕ → ℕ → Result (List Entry) WireFault
window_at n low seats bytes place = counted_at w8 (is_window_count low seats) (list_at 22 (window_entry_at n)) bytes place

unfoldable pub mark_at : ℕ → List ℕ → ℕ → Result TimeMark WireFault
mark_at n bytes place = do
  stamp ← count_at bytes place
  who ← byte_below n bytes (place + 8)
  seq ← number_at w32 bytes (place + 9)
  Ok (record { stamp = stamp; who = who; seq = seq })

-- the value that was told, where one was
abbrev pub is_told : Option ℕ → ℕ → Bool
is_told None n = true
is_told (Some told) n = n == told

-- a count, and the one that was told, where one was
abbrev pub told_count_at : Option ℕ → List ℕ → ℕ → Result ℕ WireFault
told_count_at told bytes place = field_at w64 (λ c. is_count c && is_told told c) bytes place

-- the same of a count that isn't 0
abbrev pub told_positive_at : Option ℕ → List ℕ → ℕ → Result ℕ WireFault
told_positive_at told bytes place = field_at w64 (λ c. is_positive c && is_told told c) bytes place

-- A decision at a place. Its group and its turn are those that were told, where they were.
unfoldable pub decision_at : ℕ → Option ℕ → Option ℕ → List ℕ → ℕ → Result Decision WireFault
decision_at n told_group told_turn bytes place = do
  group ← told_positive_at told_group bytes place
  turn ← told_count_at told_turn bytes (place + 8)
  made ← count_at bytes (place + 16)
  start ← time_at bytes (place + 24)
  low ← count_at bytes (place + 32)
  mark ← mark_at n bytes (place + 40)
  seats ← seats_at n bytes (place + 53)
  maker ← field_at w8 (is_maker made seats) bytes (place + 54 + 30 * length seats)
  window ← window_at n low seats bytes (place + 55 + 30 * length seats)
  Ok (record { group = group; turn = turn; made = made; start = start; low = low; mark = mark; seats = record { items = seats }; maker = maker; window = record { items = window } })

-- the bytes of a decision
abbrev pub decision_size : Decision → ℕ
decision_size d = 56 + 30 * length d.seats.items + 22 * length d.window.items
