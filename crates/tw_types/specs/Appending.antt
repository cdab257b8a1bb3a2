-- Which updates the maker of a next decision adds to the list: a condition on the whole list of what is added.
use Rattle.std.specs.Prelude.{ℕ, zero, suc, filter, unwrap_or, ◌+◌, ◌-◌, ◌^◌, ◌≤◌, nat_le, nat_lt, ◌==◌, Bool, true, false, not, ◌&&◌, ◌||◌, if◌then◌else◌, List, [], ◌∷◌, ◌++◌, ◌≡◌, map, reverse, length, find, count_by, Contains}
use Rattle.std.specs.List.{list_any, list_all, flat_map, reduce, AllByRecursion}
use Rattle.std.specs.Option.{option_map_or}
use Rattle.tw_types.specs.declared.team.Team.{Team}
use Rattle.tw_types.specs.declared.message.Member.{Member}
use Rattle.tw_types.specs.declared.message.Entry.{Entry}
use Rattle.tw_types.specs.declared.message.Kept.{Kept}
use Rattle.tw_types.specs.declared.message.Seat.{Seat}
use Rattle.tw_types.specs.declared.message.TimeMark.{TimeMark}
use Rattle.tw_types.specs.declared.message.Decision.{Decision}
use Rattle.tw_types.specs.Decisions.{decision_length, is_same_member, is_seat_of}
use Rattle.tw_types.specs.Updates.{sender, is_timed}
use Rattle.tw_types.specs.Logs.{log_room}

-- ---- what may come next, behind the entries that were added before

-- how many of some entries a member sent
abbrev pub count_of : Member → List Entry → ℕ
count_of member entries = count_by (λ (e : Entry). is_same_member (sender e.id) member) entries

-- its sender has a seat, and its number is that seat's next one behind these entries
abbrev pub is_candidate : Decision → (before : List Entry) → Kept → Bool
is_candidate d before k =
    list_any (λ (s : Seat). is_seat_of (sender k.entry.id) s && (k.entry.id.seq == s.next + count_of s.member before)) d.seats.items

-- a timed update waits for theta, so that others with a lower stamp may come
abbrev pub is_ripe : Team → (t : ℕ) → Entry → Bool
is_ripe team t e = not (is_timed e.order) || nat_le (e.stamp + team.theta) t

abbrev pub may_come : Team → (t : ℕ) → Decision → (before : List Entry) → Kept → Bool
may_come team t d before k = is_candidate d before k && is_ripe team t k.entry

-- Timed updates go before others: timed ones by their stamps, then by who sent them; others by who did.
abbrev pub goes_before : Entry → Entry → Bool
goes_before a b =
    if is_timed a.order
    then not (is_timed b.order) || nat_lt a.stamp b.stamp || ((a.stamp == b.stamp) && nat_lt a.id.who b.id.who)
    else not (is_timed b.order) && nat_lt a.id.who b.id.who

-- ---- late entries

abbrev pub mark_of : Entry → TimeMark
mark_of e = record { stamp = e.stamp; who = e.id.who; seq = e.id.seq }

-- the first mark is above the second: by stamp, then by who, then by seq
abbrev pub is_above : TimeMark → TimeMark → Bool
is_above a b = nat_lt b.stamp a.stamp || ((a.stamp == b.stamp) && (nat_lt b.who a.who || ((a.who == b.who) && nat_lt b.seq a.seq)))

-- a timed entry that isn't late moves the mark
abbrev pub moves_mark : Entry → Bool
moves_mark e = is_timed e.order && not e.late

-- a timed entry that isn't above the mark of the decision, or of one that was added before it
abbrev pub is_late : TimeMark → (before : List Entry) → Entry → Bool
is_late mark before e = is_timed e.order && (not (is_above (mark_of e) mark) || list_any (λ (b : Entry). moves_mark b && not (is_above (mark_of e) (mark_of b))) before)

-- the entry of an update that is added there
abbrev pub added_entry : Decision → (before : List Entry) → Kept → Entry
added_entry d before k = record (k.entry) { late = is_late d.mark before k.entry }

-- ---- the list of what is added

-- an entry behind those before it: that of a pending update that may come there, and before which no other goes that may come there
pub record IsNextEntry (team : Team) (t : ℕ) (d : Decision) (pending : List Kept) (before : List Entry) (e : Entry) : Type 0 where
  pub update : Kept
  pub waits : Contains pending update
  pub ripe : may_come team t d before update ≡ true
  pub first : AllByRecursion (λ (other : Kept). may_come team t d before other ≡ true → goes_before other.entry update.entry ≡ false) pending
  pub entry : e ≡ added_entry d before update

-- each entry of a list, behind those before it
abbrev pub EachIsNext : Team → (t : ℕ) → Decision → List Kept → (before entries : List Entry) → Type 0
EachIsNext team t d pending before [] = Unit {0}
EachIsNext team t d pending before (e ∷ entries) = IsNextEntry team t d pending before e × EachIsNext team t d pending (before ++ e ∷ []) entries

-- a window has so many entries at most
abbrev pub window_room : ℕ
window_room = 32

-- no position is above this
abbrev pub last_position : ℕ
last_position = 2 ^ 60 - 1

-- What is added has room in the window, before its low rises; in the list, behind what was passed; and in all positions that there
-- are. Where nothing is added nothing is asked.
abbrev pub has_room : (passed : ℕ) → Decision → List Kept → List Entry → Bool
has_room passed d pending [] = true
has_room passed d pending (e ∷ entries) =
    nat_le (length d.window.items + length (e ∷ entries)) window_room
    && nat_le (decision_length d + length (e ∷ entries)) (passed + log_room)
    && nat_le (decision_length d + length (e ∷ entries)) last_position

-- a list of entries may be added to a decision's list at t
pub record MayBeAppended (team : Team) (t passed : ℕ) (d : Decision) (pending : List Kept) (entries : List Entry) : Type 0 where
  pub each : EachIsNext team t d pending [] entries
  pub room : has_room passed d pending entries ≡ true

-- the appended list: the longest one that may be added
pub record IsAppended (team : Team) (t passed : ℕ) (d : Decision) (pending : List Kept) (entries : List Entry) : Type 0 where
  pub may : MayBeAppended team t passed d pending entries
  pub longest : (others : List Entry) → MayBeAppended team t passed d pending others → length others ≤ length entries

-- ---- and which list that is

-- an update may come behind these entries, and none that may goes before it
abbrev pub comes_next : Team → (t : ℕ) → Decision → List Kept → (before : List Entry) → Kept → Bool
comes_next team t d pending before k =
    may_come team t d before k && list_all (λ (other : Kept). not (may_come team t d before other && goes_before other.entry k.entry)) pending

-- each of these updates comes next behind those before it
abbrev pub come_in_turn : Team → (t : ℕ) → Decision → List Kept → (before : List Entry) → List Kept → Bool
come_in_turn team t d pending before [] = true
come_in_turn team t d pending before (k ∷ updates) =
    comes_next team t d pending before k && come_in_turn team t d pending (before ++ added_entry d before k ∷ []) updates

-- the entries of updates that are added in this order
abbrev pub added_entries : Decision → (before : List Entry) → List Kept → List Entry
added_entries d before [] = []
added_entries d before (k ∷ updates) = added_entry d before k ∷ added_entries d (before ++ added_entry d before k ∷ []) updates

-- all lists of at most so many of these updates
abbrev pub lists_of : ℕ → List Kept → List (List Kept)
lists_of zero updates = [] ∷ []
lists_of (suc k) updates = [] ∷ flat_map (λ (k' : Kept). map (λ (rest : List Kept). k' ∷ rest) (lists_of k updates)) updates

-- of lists the first of the longest
abbrev pub longest : List (List Kept) → List Kept
longest lists = unwrap_or (reduce (λ (a b : List Kept). if nat_lt (length a) (length b) then b else a) lists) []

-- a list of updates may be appended
abbrev pub may_append : Team → (t passed : ℕ) → Decision → List Kept → List Kept → Bool
may_append team t passed d pending updates = come_in_turn team t d pending [] updates && has_room passed d pending (added_entries d [] updates)

-- the updates that are appended: of all lists of pending ones that may be, the longest
abbrev pub appended_updates : Team → (t passed : ℕ) → Decision → List Kept → List Kept
appended_updates team t passed d pending = longest (filter (may_append team t passed d pending) (lists_of (length pending) pending))

-- and their entries
unfoldable pub appended_list : Team → (t passed : ℕ) → Decision → List Kept → List Entry
appended_list team t passed d pending = added_entries d [] (appended_updates team t passed d pending)

-- updates as they stand in the list, with the entries that they get when they are added in this order, and delivered nowhere yet
abbrev pub added_kept : Decision → (before : List Entry) → List Kept → List Kept
added_kept d before [] = []
added_kept d before (k ∷ updates) = record k { entry = added_entry d before k; early = false } ∷ added_kept d (before ++ added_entry d before k ∷ []) updates

-- the appended list with its payloads
unfoldable pub appended_kept : Team → (t passed : ℕ) → Decision → List Kept → List Kept
appended_kept team t passed d pending = added_kept d [] (appended_updates team t passed d pending)

-- ---- the decision with it

-- a seat's next number behind these entries
abbrev pub raised : List Entry → Seat → Seat
raised entries s = record s { next = s.next + count_of s.member entries }

-- the mark of the last timed entry that isn't late, or what it was
abbrev pub mark_after : List Entry → TimeMark → TimeMark
mark_after entries mark = option_map_or mark_of (find moves_mark (reverse entries)) mark

abbrev pub with_appended : List Entry → Decision → Decision
with_appended entries d = record d {
  mark = mark_after entries d.mark;
  seats = record { items = map (raised entries) d.seats.items };
  window = record { items = d.window.items ++ entries };
}
