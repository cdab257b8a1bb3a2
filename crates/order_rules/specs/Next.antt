-- What comes next at the end of a decision's list, seat by seat.
use Rattle.std.specs.Prelude.{ℕ, ◌+◌, nat_le, Bool, true, false, ◌&&◌, if◌then◌else◌, List, [], length, ◌≡◌, Contains, Option, Some, None, MatchOption}
use Rattle.std.specs.List.{AllByRecursion}
use Rattle.tw_types.specs.declared.team.Team.{Team}
use Rattle.tw_types.specs.declared.message.UpdateId.{UpdateId}
use Rattle.tw_types.specs.declared.message.Entry.{Entry}
use Rattle.tw_types.specs.declared.message.Kept.{Kept}
use Rattle.tw_types.specs.declared.message.Seat.{Seat}
use Rattle.tw_types.specs.declared.message.Decision.{Decision}
use Rattle.tw_types.specs.Decisions.{decision_length}
use Rattle.tw_types.specs.Logs.{log_room}
use Rattle.tw_types.specs.Updates.{find_update}
use Rattle.tw_types.specs.Appending.{is_ripe, may_come, goes_before, window_room, last_position, IsNextEntry}

-- the id of a seat's next update
abbrev pub next_id : Seat → UpdateId
next_id s = record { who = s.member.who; incarnation = s.member.incarnation; seq = s.next }

abbrev pub if_ripe : Team → (t : ℕ) → Option Kept → Option Entry
if_ripe team t None = None
if_ripe team t (Some k) = if is_ripe team t k.entry then Some k.entry else None

-- a seat's next update, if it is pending and ripe
abbrev pub ripe_at : Team → (t : ℕ) → List Kept → Seat → Option Entry
ripe_at team t pending s = if_ripe team t (find_update (next_id s) pending)

-- of two that may be missing the second one where it goes before the first
abbrev pub earlier : Option Entry → Option Entry → Option Entry
earlier first None = first
earlier None (Some other) = Some other
earlier (Some first) (Some other) = if goes_before other first then Some other else Some first

-- the entry of a pending update that may come, and before which no other goes that may
pub record GoesFirst (team : Team) (t : ℕ) (d : Decision) (pending : List Kept) (e : Entry) : Type 0 where
  pub update : Kept
  pub waits : Contains pending update
  pub ripe : may_come team t d [] update ≡ true
  pub first : AllByRecursion (λ (other : Kept). may_come team t d [] other ≡ true → goes_before other.entry update.entry ≡ false) pending
  pub entry : e ≡ update.entry

abbrev pub NoneMayCome : Team → (t : ℕ) → Decision → List Kept → Type 0
NoneMayCome team t d pending = AllByRecursion (λ (k : Kept). may_come team t d [] k ≡ false) pending

-- the entry that goes first, if any may come
abbrev pub IsFirst : Team → (t : ℕ) → Decision → List Kept → Option Entry → Type 0
IsFirst team t d pending first = MatchOption first (NoneMayCome team t d pending) (GoesFirst team t d pending)

-- one entry more has room
abbrev pub room_for_one : (passed : ℕ) → Decision → Bool
room_for_one passed d =
    nat_le (length d.window.items + 1) window_room
    && nat_le (decision_length d + 1) (passed + log_room)
    && nat_le (decision_length d + 1) last_position

-- an entry that may come next has room
pub record GoesOn (team : Team) (t passed : ℕ) (d : Decision) (pending : List Kept) (e : Entry) : Type 0 where
  pub next : IsNextEntry team t d pending [] e
  pub room : room_for_one passed d ≡ true

-- nothing comes, or what comes has no room
pub data Ends (team : Team) (t passed : ℕ) (d : Decision) (pending : List Kept) : Type 0 where
  Empty : NoneMayCome team t d pending → Ends team t passed d pending
  Full : room_for_one passed d ≡ false → Ends team t passed d pending

-- what is added next, if anything is
abbrev pub IsNext : Team → (t passed : ℕ) → Decision → List Kept → Option Entry → Type 0
IsNext team t passed d pending next = MatchOption next (Ends team t passed d pending) (GoesOn team t passed d pending)
