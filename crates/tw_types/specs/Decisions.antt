-- What is said of a decision, and what stands for one that is missing.
use Rattle.std.specs.Prelude.{ℕ, ◌+◌, nat_lt, ◌==◌, Bool, ◌&&◌, ◌||◌, [], length, Option, Some, None}
use Rattle.std.specs.List.{list_any}
use Rattle.tw_types.specs.declared.message.Member.{Member}
use Rattle.tw_types.specs.declared.message.Seat.{Seat}
use Rattle.tw_types.specs.declared.message.Decision.{Decision}

-- what stands for a missing decision: group 0, no member, an empty list
abbrev pub no_decision : Decision
no_decision = record {
  group = 0;
  turn = 0;
  made = 0;
  start = 0;
  low = 0;
  mark = record { stamp = 0; who = 0; seq = 0 };
  seats = record { items = [] };
  maker = 0;
  window = record { items = [] };
}

abbrev pub or_none : Option Decision → Decision
or_none None = no_decision
or_none (Some d) = d

-- how long the list of updates is at the end of a decision's window
abbrev pub decision_length : Decision → ℕ
decision_length d = d.low + length d.window.items

-- The first pair of a group and a turn is below the second; groups are compared before turns.
abbrev pub is_older : (group turn group' turn' : ℕ) → Bool
is_older group turn group' turn' = nat_lt group group' || ((group == group') && nat_lt turn turn')

-- the same process in the same life
abbrev pub is_same_member : Member → Member → Bool
is_same_member a b = (a.who == b.who) && (a.incarnation == b.incarnation)

abbrev pub is_seat_of : Member → Seat → Bool
is_seat_of member seat = is_same_member seat.member member

abbrev pub has_seat : Member → Decision → Bool
has_seat member d = list_any (is_seat_of member) d.seats.items
