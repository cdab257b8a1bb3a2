-- What waits at a process: pending updates, and a decision that isn't taken yet since payloads of it are missing.
use Rattle.std.specs.Prelude.{ℕ, ◌+◌, ◌-◌, ◌≤◌, ◌<◌, nat_le, nat_lt, Bool, true, not, ◌||◌, if◌then◌else◌, List, [], ◌∷◌, ◌++◌, ◌≡◌, map, drop, Option, None, Some, filter, filter_map, slice_get}
use Rattle.std.specs.List.{list_any, AllByRecursion}
use Rattle.std.specs.Option.{option_map, option_map_or}
use Rattle.tw_types.specs.declared.message.Member.{Member}
use Rattle.tw_types.specs.declared.message.UpdateId.{UpdateId}
use Rattle.tw_types.specs.declared.message.Entry.{Entry}
use Rattle.tw_types.specs.declared.message.Kept.{Kept}
use Rattle.tw_types.specs.declared.message.Seat.{Seat}
use Rattle.tw_types.specs.declared.message.Decision.{Decision}
use Rattle.tw_types.specs.Ranges.{Ascends}
use Rattle.tw_types.specs.Decisions.{or_none, is_same_member}
use Rattle.tw_types.specs.Updates.{is_same_id, sender, find_update, has_update, with_pending, pending_room, seat_of_sender, stays_pending, settled, marked}

-- the entries of a decision's window at this position and behind it
abbrev pub entries_from : ℕ → Decision → List Entry
entries_from position d = drop (position - d.low) d.window.items

-- and their ids
abbrev pub ids_from : ℕ → Decision → List UpdateId
ids_from position d = map (λ (e : Entry). e.id) (entries_from position d)

-- A held decision: the position from which on its payloads are wanted, the process that has them, and those that are kept for it.
pub record Held : Type 0 where
  pub decision : Decision
  pub first : ℕ
  pub source : ℕ
  pub payloads : List Kept

-- pending updates, in the order in which they wait, and at most one held decision
pub record Waiting : Type 0 where
  pub pending : List Kept
  pub held : Option Held

abbrev pub nothing_waits : Waiting
nothing_waits = record { pending = []; held = None }

-- the updates that a held decision wants and has no payload of, in the order of their positions
abbrev pub holes : Held → List UpdateId
holes h = filter (λ (id : UpdateId). not (has_update id h.payloads)) (ids_from h.first h.decision)

abbrev pub holes_of : Option Held → List UpdateId
holes_of None = []
holes_of (Some h) = holes h

abbrev pub is_hole : UpdateId → Option Held → Bool
is_hole id held = list_any (λ (hole : UpdateId). is_same_id hole id) (holes_of held)

-- the first one, and the process to ask for it
abbrev pub first_hole : Option Held → Option (UpdateId × ℕ)
first_hole None = None
first_hole (Some h) = option_map (λ (id : UpdateId). (id, h.source)) (slice_get (holes h) 0)

-- the payloads that are kept with a held decision
abbrev pub held_payloads : Option Held → List Kept
held_payloads held = option_map_or (λ (h : Held). h.payloads) held []

-- all payloads that are there, those of pending updates first
abbrev pub payloads_of : Waiting → List Kept
payloads_of w = w.pending ++ held_payloads w.held

-- ---- what becomes of an update that comes

pub data Putting : Type 0 where
  Filled : Putting
  Stored : Putting
  Known : Putting
  Stranger : Putting
  OutOfRange : Putting

-- where its sender's seat awaits this number next
abbrev pub put_at_seat : (next : ℕ) → List Kept → Kept → Putting
put_at_seat next pending k =
    if nat_lt k.entry.id.seq next || has_update k.entry.id pending then Known
    else if nat_le (next + pending_room) k.entry.id.seq then OutOfRange
    else Stored

abbrev pub put_by_seat : Option Seat → List Kept → Kept → Putting
put_by_seat None pending k = Stranger
put_by_seat (Some s) pending k = put_at_seat s.next pending k

-- A hole comes before all else. Then the sender must have a seat in the decision that the process took or follows, and the number
-- must be awaited there.
abbrev pub putting : Option Decision → Kept → Waiting → Putting
putting view k w = if is_hole k.entry.id w.held then Filled else put_by_seat (seat_of_sender k.entry.id (or_none view)) w.pending k

abbrev pub with_payload : Kept → Held → Held
with_payload k h = record h { payloads = h.payloads ++ k ∷ [] }

abbrev pub put_as : Putting → Kept → Waiting → Waiting
put_as Filled k w = record w { held = option_map (with_payload k) w.held }
put_as Stored k w = record w { pending = with_pending k w.pending }
put_as Known k w = w
put_as Stranger k w = w
put_as OutOfRange k w = w

abbrev pub after_put : Option Decision → Kept → Waiting → Waiting
after_put view k w = put_as (putting view k w) k w

-- An update of a process's own life that comes back to it is known, whatever its number, once its sender has a seat.
abbrev pub known_if_own : Bool → Putting → Putting
known_if_own own Filled = Filled
known_if_own own Stored = if own then Known else Stored
known_if_own own Known = Known
known_if_own own Stranger = Stranger
known_if_own own OutOfRange = if own then Known else OutOfRange

-- what becomes of an update that a member receives
abbrev pub putting_received : Member → Option Decision → Kept → Waiting → Putting
putting_received me view k w = known_if_own (is_same_member (sender k.entry.id) me) (putting view k w)

-- When an update of a team of n may be put: it has a number, the view's seats ascend, and what is pending is settled by the view, so
-- that nothing is where there is none.
pub record MayPut (n : ℕ) (view : Option Decision) (k : Kept) (pending : List Kept) : Type 0 where
  pub first : 1 ≤ k.entry.id.seq
  pub last : k.entry.id.seq ≤ 4294967294
  pub ascending : Ascends (or_none view).seats.items
  pub below : AllByRecursion (λ (s : Seat). s.member.who < n) (or_none view).seats.items
  pub settled : AllByRecursion (λ (other : Kept). stays_pending (or_none view) other ≡ true) pending

-- ---- the other changes

-- of ids that come again the first
abbrev pub each_once : List UpdateId → List UpdateId
each_once [] = []
each_once (id ∷ ids) = id ∷ filter (λ (other : UpdateId). not (is_same_id id other)) (each_once ids)

-- what is found for these ids, once for each
abbrev pub payloads_for : List UpdateId → List Kept → List Kept
payloads_for ids payloads = filter_map (λ (id : UpdateId). find_update id payloads) (each_once ids)

-- a decision is held, with all of its payloads from this position on that are there
abbrev pub holding : Decision → (first source : ℕ) → Waiting → Waiting
holding d first source w = record w {
  held = Some (record { decision = d; first = first; source = source; payloads = payloads_for (ids_from first d) (payloads_of w) });
}

-- no decision is held
abbrev pub released : Waiting → Waiting
released w = record w { held = None }

-- what the decision keeps pending stays
abbrev pub settled_by : Decision → Waiting → Waiting
settled_by d w = record w { pending = settled d w.pending }

-- the pending update with this id was delivered early
abbrev pub marked_early : UpdateId → Waiting → Waiting
marked_early id w = record w { pending = map (marked id) w.pending }
