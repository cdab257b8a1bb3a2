-- Reading the id of an update and its entry in a list, from left to right.
use Rattle.std.specs.Prelude.{ℕ, zero, suc, ◌+◌, ◌/◌, ◌%◌, nat_le, Bool, ◌&&◌, ◌||◌, List, Result, Ok}
use Rattle.std.specs.Int.{w8, w32}
use Rattle.tw_types.specs.declared.message.UpdateId.{UpdateId}
use Rattle.tw_types.specs.declared.message.Order.{Order}
use Rattle.tw_types.specs.declared.message.Order.TheVariants.{Unordered, Total, Timed}
use Rattle.tw_types.specs.declared.message.Atom.{Atom}
use Rattle.tw_types.specs.declared.message.Atom.TheVariants.{Weak, Strong, Strict}
use Rattle.tw_types.specs.declared.message.Entry.{Entry}
use Rattle.tw_types.specs.declared.datagram.WireFault.{WireFault}
use Rattle.wire_head.specs.Reading.{◌>>=◌, field_at, count_at, byte_below}

-- every seq but the last number of four bytes
abbrev pub is_seq : ℕ → Bool
is_seq n = nat_le 1 n && nat_le n 4294967294

-- n is the team's size
unfoldable pub id_at : ℕ → List ℕ → ℕ → Result UpdateId WireFault
id_at n bytes place = do
  who ← byte_below n bytes place
  incarnation ← count_at bytes (place + 1)
  seq ← field_at w32 is_seq bytes (place + 9)
  Ok (record { who = who; incarnation = incarnation; seq = seq })

abbrev pub order_from : ℕ → Order
order_from zero = Unordered
order_from (suc zero) = Total
order_from (suc (suc number)) = Timed

abbrev pub atom_from : ℕ → Atom
atom_from zero = Weak
atom_from (suc zero) = Strong
atom_from (suc (suc number)) = Strict

-- Nine classes, and the three of a timed entry that is late where one may be.
abbrev pub is_class : Bool → ℕ → Bool
is_class may_be_late n = nat_le n 8 || (may_be_late && (nat_le 22 n && nat_le n 24))

abbrev pub entry_from : UpdateId → ℕ → ℕ → Entry
entry_from id class stamp = record { id = id; order = order_from (class % 16 / 3); atom = atom_from (class % 16 % 3); stamp = stamp; late = nat_le 16 class }

unfoldable pub entry_at : ℕ → Bool → List ℕ → ℕ → Result Entry WireFault
entry_at n may_be_late bytes place = do
  id ← id_at n bytes place
  class ← field_at w8 (is_class may_be_late) bytes (place + 13)
  stamp ← count_at bytes (place + 14)
  Ok (entry_from id class stamp)
