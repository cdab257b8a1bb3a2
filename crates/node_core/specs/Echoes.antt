-- The stamps that are kept of other processes.
use Rattle.std.specs.Prelude.{◌^◌, nat_lt, Bool, true, ◌&&◌, List, Option, Some, None}
use Rattle.std.specs.List.{list_all}
use Rattle.tw_types.specs.declared.datagram.Echo.{Echo}

-- a stamp and a reading that a datagram may tell
abbrev pub is_in_range : Option Echo → Bool
is_in_range None = true
is_in_range (Some e) = nat_lt e.a (2 ^ 60) && nat_lt e.b (2 ^ 60)

abbrev pub are_in_range : List (Option Echo) → Bool
are_in_range heard = list_all is_in_range heard
