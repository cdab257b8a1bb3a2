-- What was delivered, against the lists of the decisions by which it was.
use Rattle.std.specs.Prelude.{ℕ, ◌≡◌, ◌≢◌, ◌≤◌, ◌<◌, true, List, [], ◌∷◌, slice_get, Some}
use Rattle.std.specs.List.{AllByRecursion}
use Rattle.tw_machine.specs.Types.{Team, Kept, How, Step}
use Rattle.tw_types.specs.declared.outputs.How.TheVariants.{Late}
use Rattle.tw_types.specs.Beliefs.{is_informed}
use Rattle.tw_types.specs.Deliveries.{fulfils, how_passed}
use Rattle.tw_types.specs.Items.{In}
use Rattle.tw_types.specs.Logs.{log_at}
use Rattle.tw_types.specs.Process.{Process}
use Rattle.tw_types.specs.Updates.{is_weak, is_unordered}
use Rattle.tw_machine.specs.History.{Line, Make}
use Rattle.tw_machine.specs.Run.{AtPass, AtEarly, AtWait}
use Rattle.tw_machine.specs.Standing.{member_of}
use Rattle.safety_laws.specs.Beginnings.{unmarked}
use Rattle.safety_laws.specs.Effects.{Written}
use Rattle.safety_laws.specs.Ids.{IsOfSend}
use Rattle.safety_laws.specs.Laws.{Law}
use Rattle.safety_laws.specs.Readings.{HasRead}

-- ---- what was passed

-- A position that a running process passed in its present incarnation is below its cursor, and its list has there what was passed.
pub record StandsPassed (p : Process) (position : ℕ) (update : Kept) : Type 0 where
  pub below : position < p.log.passed
  pub there : Kept
  pub at : log_at position p.log ≡ Some there
  pub same : unmarked there ≡ unmarked update

abbrev pub IsPassedOf : Process → Line → Type 0
IsPassedOf p x = x.member ≡ member_of p.identity → (is_informed p.belief ≡ true) × ((position : ℕ) (how : How) → x.delivered.place ≡ AtPass position how → StandsPassed p position x.delivered.update)

-- a member passes positions in ascent
abbrev pub PassedAbove : (later earlier : Line) → Type 0
PassedAbove later earlier = earlier.member ≡ later.member → (i j : ℕ) (how how' : How) → later.delivered.place ≡ AtPass i how → earlier.delivered.place ≡ AtPass j how' → j < i

abbrev pub PassesAscend : List Line → Type 0
PassesAscend [] = Unit {0}
PassesAscend (x ∷ older) = AllByRecursion (PassedAbove x) older × PassesAscend older

-- ---- what backs it

-- the list of a made decision has an update at a position, but for its mark
abbrev pub HasAt : Make → ℕ → Kept → Type 0
HasAt m position update = slice_get m.log position ≡ Some (unmarked update)

-- A line is of a made decision of its group and turn. A pass tells what that decision's list has at the position, and, unless it is late,
-- the decision fulfils its atomicity there; so does an early one of the list, which is unordered; one that waited is weak and unordered.
pub record IsBacked (team : Team) (makes : List Make) (x : Line) : Type 0 where
  pub make : Make
  pub made : In make makes
  pub group : make.making.decision.group ≡ x.delivered.group
  pub turn : make.making.decision.turn ≡ x.delivered.turn
  pub passed : (position : ℕ) (how : How) → x.delivered.place ≡ AtPass position how →
      HasAt make position x.delivered.update × (how ≡ how_passed x.delivered.update) × (how ≢ Late → fulfils team make.making.decision position x.delivered.update.entry.atom ≡ true)
  pub early : (position : ℕ) → x.delivered.place ≡ AtEarly position →
      HasAt make position x.delivered.update × (is_unordered x.delivered.update.entry.order ≡ true) × (fulfils team make.making.decision position x.delivered.update.entry.atom ≡ true)
  pub waited : x.delivered.place ≡ AtWait → (is_unordered x.delivered.update.entry.order ≡ true) × (is_weak x.delivered.update.entry.atom ≡ true)

-- ---- the law

-- a line is of a process, and the incarnation that tells it isn't above what that process read
pub record IsNamedLine (steps : List Step) (x : Line) : Type 0 where
  pub member : x.member.who ≡ x.who
  pub t : ℕ
  pub h : ℕ
  pub read : HasRead steps x.who t h
  pub incarnation : x.member.incarnation ≤ h

pub record AreDelivered (team : Team) (steps : List Step) (w : Written) : Type 0 where
  pub named : AllByRecursion (IsNamedLine steps) w.lines
  pub ascend : PassesAscend w.lines
  pub backed : AllByRecursion (IsBacked team w.makes) w.lines
  pub keep : AllByRecursion (λ (x : Line). IsOfSend w.sends x.delivered.update) w.lines

pub record Delivers (w : Written) (p : Process) : Type 0 where
  pub base : p.log.base ≡ 0
  pub passed : AllByRecursion (IsPassedOf p) w.lines

-- what was delivered is of lists, and backed
abbrev pub delivered : Team → Law
delivered team = record { History = λ steps w. AreDelivered team steps w; Running = λ steps w who p. Delivers w p }
