-- The list of updates of each made decision, whole, and what the decision says of it.
use Rattle.std.specs.Prelude.{ℕ, ◌+◌, ◌≡◌, ◌≤◌, true, List, [], ◌∷◌, ◌++◌, map, length, drop, filter, Some}
use Rattle.std.specs.List.{AllByRecursion, range_with_len}
use Rattle.tw_machine.specs.Types.{Entry, Kept, Member, Seat, Support, TimeMark}
use Rattle.tw_types.specs.Appending.{mark_of, is_above, moves_mark, mark_after}
use Rattle.tw_types.specs.Decisions.{decision_length, is_same_member}
use Rattle.tw_types.specs.Updates.{sender}
use Rattle.tw_machine.specs.History.{Make, list_of}
use Rattle.safety_laws.specs.Laws.{Law}

-- the entries of a list, without their payloads
abbrev pub entries_of : List Kept → List Entry
entries_of list = map (λ (k : Kept). k.entry) list

-- the numbers of what a member sent, in the order of the list
abbrev pub seqs_of : Member → List Kept → List ℕ
seqs_of member list = map (λ (k : Kept). k.entry.id.seq) (filter (λ (k : Kept). is_same_member (sender k.entry.id) member) list)

-- they are 1, 2, .. for each member
abbrev pub GoByOne : List Kept → Type 0
GoByOne list = (member : Member) → seqs_of member list ≡ range_with_len 1 (length (seqs_of member list))

-- the marks of a list's timed entries that aren't late
abbrev pub marks_of : List Kept → List TimeMark
marks_of list = map mark_of (filter moves_mark (entries_of list))

-- each is above those before it
abbrev pub MarksAscend : List TimeMark → Type 0
MarksAscend [] = Unit {0}
MarksAscend (m ∷ marks) = AllByRecursion (λ (later : TimeMark). is_above later m ≡ true) marks × MarksAscend marks

-- below each mark of an entry, for entries have numbers from 1 on
abbrev pub no_mark : TimeMark
no_mark = record { stamp = 0; who = 0; seq = 0 }

-- A made decision's window is its list from its low on, and its length is the list's; low isn't above what any member's support says that
-- it has. Each member's entries go by one, and its seat awaits the next number. The timed entries that aren't late ascend, and the mark
-- is the last of them.
pub record IsListOf (m : Make) : Type 0 where
  pub same_length : decision_length m.making.decision ≡ length m.log
  pub low : m.making.decision.low ≤ length m.log
  pub window : m.making.decision.window.items ≡ entries_of (drop m.making.decision.low m.log)
  pub acks : AllByRecursion (λ (s : Seat). (support : Support) → s.support ≡ Some support → m.making.decision.low ≤ support.ack) m.making.decision.seats.items
  pub by_one : GoByOne m.log
  pub next : AllByRecursion (λ (s : Seat). s.next ≡ 1 + length (seqs_of s.member m.log)) m.making.decision.seats.items
  pub ascend : MarksAscend (marks_of m.log)
  pub mark : m.making.decision.mark ≡ mark_after (entries_of m.log) no_mark

-- each make's list is that of what it stands on, and then what was added
abbrev pub AllListed : List Make → Type 0
AllListed [] = Unit {0}
AllListed (m ∷ older) = (m.log ≡ list_of older m.making.before ++ m.making.appended) × AllListed older

pub record AreLists (makes : List Make) : Type 0 where
  pub listed : AllListed makes
  pub whole : AllByRecursion IsListOf makes

-- lists are whole
abbrev pub lists : Law
lists = record { History = λ steps w. AreLists w.makes; Running = λ steps w who p. Unit {0} }
