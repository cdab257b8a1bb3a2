-- Slots of team time, the owners of group numbers, and the ring of a decision's seats.
use Rattle.std.specs.Prelude.{ℕ, ◌+◌, ◌-◌, ◌*◌, ◌/◌, ◌%◌, ◌≤◌, ◌≡◌, nat_lt, Bool, true, false, List, Option, Some, None, find, slice_get}
use Rattle.std.specs.Option.{option_or, option_map_or}
use Rattle.tw_types.specs.declared.team.Team.{Team}
use Rattle.tw_types.specs.declared.message.Seat.{Seat}
use Rattle.tw_types.specs.declared.message.Decision.{Decision}

abbrev pub slot_of : Team → ℕ → ℕ
slot_of team t = t / team.slot

-- Each number of a group has one owner among n processes, which alone may make a group of it.
abbrev pub owner : ℕ → ℕ → ℕ
owner n number = number % n

-- the least number of this owner that isn't below the given one
pub record IsNextOwned (n number who x : ℕ) : Type 0 where
  pub owned : owner n x ≡ who
  pub not_below : number ≤ x
  pub least : (y : ℕ) → owner n y ≡ who → number ≤ y → x ≤ y

-- and what it comes to
abbrev pub next_owned : (n number who : ℕ) → ℕ
next_owned n number who = number + (who + n - number % n) % n

-- The seat after a process in the ring of seats: the first one above it, or the first of all where none is above. The process
-- itself needs no seat.
abbrev pub seat_after : ℕ → List Seat → Option Seat
seat_after who seats = option_or (find (λ (s : Seat). nat_lt who s.member.who) seats) (slice_get seats 0)

abbrev pub after : Decision → ℕ → ℕ
after d who = option_map_or (λ (s : Seat). s.member.who) (seat_after who d.seats.items) 0

-- the next decision is overdue: there is a last one, made more than a ring ago
abbrev pub is_suspect : Team → Option Decision → ℕ → Bool
is_suspect team None t = false
is_suspect team (Some last) t = nat_lt (last.made + team.ring) t

-- there is no last decision, or it was made more than two rings ago
abbrev pub is_stuck : Team → Option Decision → ℕ → Bool
is_stuck team None t = true
is_stuck team (Some last) t = nat_lt (last.made + 2 * team.ring) t
