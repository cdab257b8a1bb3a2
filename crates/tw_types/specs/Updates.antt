-- Updates by their ids: how one is found, the order in which they wait, and which of them a decision keeps waiting.
use Rattle.std.specs.Prelude.{ℕ, ◌+◌, nat_le, nat_lt, ◌==◌, Bool, true, false, not, ◌&&◌, ◌||◌, if◌then◌else◌, List, [], ◌∷◌, ◌++◌, ◌≡◌, Option, filter, find}
use Rattle.std.specs.List.{list_any, AllByRecursion}
use Rattle.std.specs.Option.{option_map_or}
use Rattle.tw_types.specs.declared.message.Member.{Member}
use Rattle.tw_types.specs.declared.message.UpdateId.{UpdateId}
use Rattle.tw_types.specs.declared.message.Order.{Order}
use Rattle.tw_types.specs.declared.message.Order.TheVariants.{Unordered, Total, Timed}
use Rattle.tw_types.specs.declared.message.Atom.{Atom}
use Rattle.tw_types.specs.declared.message.Atom.TheVariants.{Weak, Strong, Strict}
use Rattle.tw_types.specs.declared.message.Kept.{Kept}
use Rattle.tw_types.specs.declared.message.Seat.{Seat}
use Rattle.tw_types.specs.declared.message.Decision.{Decision}
use Rattle.tw_types.specs.Decisions.{is_seat_of}

abbrev pub is_same_id : UpdateId → UpdateId → Bool
is_same_id a b = (a.who == b.who) && (a.incarnation == b.incarnation) && (a.seq == b.seq)

-- the member that sent an update
abbrev pub sender : UpdateId → Member
sender id = record { who = id.who; incarnation = id.incarnation }

-- the update has this id
abbrev pub is_named : UpdateId → Kept → Bool
is_named id k = is_same_id k.entry.id id

-- the first of some updates that has the id
abbrev pub find_update : UpdateId → List Kept → Option Kept
find_update id updates = find (is_named id) updates

abbrev pub has_update : UpdateId → List Kept → Bool
has_update id updates = list_any (is_named id) updates

abbrev pub is_unordered : Order → Bool
is_unordered Unordered = true
is_unordered Total = false
is_unordered Timed = false

abbrev pub is_timed : Order → Bool
is_timed Unordered = false
is_timed Total = false
is_timed Timed = true

abbrev pub is_weak : Atom → Bool
is_weak Weak = true
is_weak Strong = false
is_weak Strict = false

-- ---- pending updates: they have no place in the list yet

-- They wait in the order of the processes that sent them, and of their numbers. When one came doesn't count.
abbrev pub waits_before : Kept → Kept → Bool
waits_before a b = nat_lt a.entry.id.who b.entry.id.who || ((a.entry.id.who == b.entry.id.who) && nat_lt a.entry.id.seq b.entry.id.seq)

-- each waits before those behind it
abbrev pub WaitInOrder : List Kept → Type 0
WaitInOrder [] = Unit {0}
WaitInOrder (k ∷ pending) = AllByRecursion (λ (other : Kept). waits_before k other ≡ true) pending × WaitInOrder pending

-- with one update more, at its place
abbrev pub with_pending : Kept → List Kept → List Kept
with_pending k pending = filter (λ (other : Kept). waits_before other k) pending ++ k ∷ filter (λ (other : Kept). not (waits_before other k)) pending

-- So many updates of a member may wait: those from its seat's next number on.
abbrev pub pending_room : ℕ
pending_room = 8

-- the number is one of those that may wait, where this is the next one
abbrev pub is_awaited : (next seq : ℕ) → Bool
is_awaited next seq = nat_le next seq && nat_lt seq (next + pending_room)

-- the seat of the member that sent the update
abbrev pub seat_of_sender : UpdateId → Decision → Option Seat
seat_of_sender id d = find (is_seat_of (sender id)) d.seats.items

-- a decision keeps an update pending that is awaited at its sender's seat
abbrev pub stays_pending : Decision → Kept → Bool
stays_pending d k = option_map_or (λ (s : Seat). is_awaited s.next k.entry.id.seq) (seat_of_sender k.entry.id d) false

abbrev pub settled : Decision → List Kept → List Kept
settled d pending = filter (stays_pending d) pending

-- one that may be delivered before it has a place, if it wasn't yet
abbrev pub may_be_early : Kept → Bool
may_be_early k = is_weak k.entry.atom && is_unordered k.entry.order && not k.early

-- the first of these in the order in which they wait
abbrev pub next_weak : List Kept → Option Kept
next_weak pending = find may_be_early pending

-- it was delivered early, if it has this id
abbrev pub marked : UpdateId → Kept → Kept
marked id k = if is_named id k then record k { early = true } else k
