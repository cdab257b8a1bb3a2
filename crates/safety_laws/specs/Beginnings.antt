-- What a process knows of a list begins the lists of later groups that name it, and its own list is the end of that.
use Rattle.std.specs.Prelude.{ℕ, ◌≡◌, ◌≤◌, ◌<◌, ◌==◌, ◌&&◌, true, false, List, ◌++◌, map, length, take, drop, find, []}
use Rattle.std.specs.List.{AllByRecursion}
use Rattle.std.specs.Option.{option_map_or}
use Rattle.tw_types.specs.declared.message.Kept.{Kept}
use Rattle.tw_types.specs.Beliefs.{is_informed, view_decision, log_length}
use Rattle.tw_types.specs.Decisions.{or_none, has_seat}
use Rattle.tw_types.specs.Process.{Process}
use Rattle.tw_machine.specs.History.{Make, Promised, list_of}
use Rattle.tw_machine.specs.Standing.{member_of}
use Rattle.safety_laws.specs.Effects.{Written}
use Rattle.safety_laws.specs.Laws.{Law}

-- a list goes on from another one
abbrev pub IsBeginning : List Kept → List Kept → Type 0
IsBeginning first whole = (rest : List Kept) × (whole ≡ first ++ rest)

-- the list of the decision of this group and turn, empty where none was made
abbrev pub list_at : List Make → (group turn : ℕ) → List Kept
list_at makes group turn = option_map_or (λ (m : Make). m.log) (find (λ (m : Make). (m.making.decision.group == group) && (m.making.decision.turn == turn)) makes) []

-- What a process knows of the list of the decision that it took or follows: as many items as its own list reaches to.
abbrev pub known : List Make → Process → List Kept
known makes p = take (log_length p.log) (list_of makes (view_decision p.belief))

-- and what it knew when it promised
abbrev pub known_then : List Make → Promised → List Kept
known_then makes x = take x.promise.report.length (list_at makes x.promise.report.group x.promise.report.turn)

-- It begins the list of a group that names the process and is above the one that it is in.
abbrev pub BeginsGroup : Process → List Make → Make → Type 0
BeginsGroup p makes c = c.making.decision.turn ≡ 0 → has_seat (member_of p.identity) c.making.decision ≡ true → (or_none (view_decision p.belief)).group < c.making.decision.group → IsBeginning (known makes p) c.log

-- and so does what it knew at a promise of that group's number or a greater one
abbrev pub BegunThen : List Make → Make → Promised → Type 0
BegunThen makes c x = c.making.decision.turn ≡ 0 → has_seat x.promise.report.member c.making.decision ≡ true → x.promise.report.group < c.making.decision.group → c.making.decision.group ≤ x.promise.number
    → IsBeginning (known_then makes x) c.log

-- an update in the list of a process, but for whether it was delivered early there
abbrev pub unmarked : Kept → Kept
unmarked k = record k { early = false }

-- A process's list is what it knows from its base on. It ends with the list of the decision that an informed one took last.
pub record IsEndOfKnown (makes : List Make) (p : Process) : Type 0 where
  pub base : p.log.base ≤ p.log.passed
  pub passed : p.log.passed ≤ log_length p.log
  pub within : log_length p.log ≤ length (list_of makes (view_decision p.belief))
  pub entries : map unmarked p.log.entries ≡ drop p.log.base (known makes p)
  pub whole : is_informed p.belief ≡ true → log_length p.log ≡ length (list_of makes (view_decision p.belief))

-- no update is marked in a make's list
abbrev pub IsUnmarked : Make → Type 0
IsUnmarked m = AllByRecursion (λ (k : Kept). k.early ≡ false) m.log

pub record AreBegun (w : Written) : Type 0 where
  pub begun : AllByRecursion (λ (c : Make). AllByRecursion (BegunThen w.makes c) w.promises) w.makes
  pub unmarked : AllByRecursion IsUnmarked w.makes

-- what is known begins the groups that name its process, and is what its list ends
abbrev pub beginnings : Law
beginnings = record {
  History = λ steps w. AreBegun w;
  Running = λ steps w who p. AllByRecursion (BeginsGroup p w.makes) w.makes × IsEndOfKnown w.makes p;
}
