-- How what was promised, what was made, and what processes keep and tell agree.
use Rattle.std.specs.Prelude.{ℕ, suc, ◌+◌, ◌/◌, ◌≡◌, ◌≢◌, ◌≤◌, ◌<◌, nat_eq, Bool, true, false, List, [], ◌∷◌, map, length, Option, Some, None, count_by}
use Rattle.std.specs.List.{AllByRecursion, IsDistinct}
use Rattle.tw_machine.specs.Types.{Team, Ballot, Body, Entry, Kept, Decision, Member, Report, Seat, Step}
use Rattle.tw_types.specs.declared.datagram.Body.TheVariants as bodies
use Rattle.tw_types.specs.Beliefs.{is_informed, view_decision}
use Rattle.tw_types.specs.Decisions.{or_none, is_older, has_seat, decision_length}
use Rattle.tw_types.specs.Process.{Process}
use Rattle.tw_types.specs.Reports.{is_by_informed, is_consistent}
use Rattle.tw_types.specs.Slots.{owner, seat_after}
use Rattle.tw_types.specs.Appending.{raised}
use Rattle.tw_types.specs.Turns.{supported}
use Rattle.tw_machine.specs.Dispatches.{Dispatch}
use Rattle.tw_machine.specs.History.{Promised, Make, life}
use Rattle.tw_machine.specs.Standing.{member_of, last_decision}
use Rattle.safety_laws.specs.Effects.{Written, held_decision}
use Rattle.safety_laws.specs.Full.{is_full}
use Rattle.safety_laws.specs.Laws.{Law}
use Rattle.tw_types.specs.Items.{In}

-- a decision was made
abbrev pub WasMade : List Make → Decision → Type 0
WasMade makes d = (m : Make) × In m makes × (m.making.decision ≡ d)

-- and so was one that may be missing
abbrev pub WasMadeIfAny : List Make → Option Decision → Type 0
WasMadeIfAny makes None = Unit {0}
WasMadeIfAny makes (Some d) = WasMade makes d

-- a pair of group and turn isn't below another
abbrev pub IsNotOlder : (group turn group' turn' : ℕ) → Type 0
IsNotOlder group turn group' turn' = is_older group turn group' turn' ≡ false

-- the processes of some reports
abbrev pub reporters : List Report → List ℕ
reporters reports = map (λ (r : Report). r.member.who) reports

-- the members of a decision
abbrev pub members : Decision → List Member
members d = map (λ (s : Seat). s.member) d.seats.items

-- ---- a promise tells its decision

-- an informed process tells the decision that it took last, of a group below the promised number; without one, group 0
abbrev pub TellsLast : List Make → Promised → Option Decision → Type 0
TellsLast makes x None = (x.promise.report.group ≡ 0) × (x.promise.report.turn ≡ 0)
TellsLast makes x (Some d) = WasMade makes d × (1 ≤ d.group) × (x.promise.report.group ≡ d.group) × (x.promise.report.turn ≡ d.turn) × (d.group < x.promise.number)

pub record TellsDecision (makes : List Make) (x : Promised) : Type 0 where
  pub informed : is_by_informed x.promise.report ≡ true → TellsLast makes x x.promise.decision
  pub ready : is_by_informed x.promise.report ≡ false → x.promise.decision ≡ None

-- ---- what is kept or carried was made

-- the decisions that a process keeps: the one that it took or follows, its ballot's best, and the one that it holds
abbrev pub best_of : Option Ballot → Option Decision
best_of None = None
best_of (Some b) = b.best

pub record KeepsMade (makes : List Make) (p : Process) : Type 0 where
  pub view : WasMadeIfAny makes (view_decision p.belief)
  pub best : WasMadeIfAny makes (best_of p.ballot)
  pub held : WasMadeIfAny makes (held_decision p)

-- the decision that a body carries
abbrev pub carried : Body → Option Decision
carried (bodies.Decision d) = Some d
carried (bodies.Promise number report decision) = decision
carried (bodies.NoDecision number group turn skip reports best) = Some best
carried (bodies.Update kept) = None
carried (bodies.Election number why) = None
carried (bodies.Ask want) = None
carried (bodies.State group position total offset bytes) = None
carried (bodies.Sync ready) = None

-- ---- decisions follow each other

-- A next decision follows the last one of its maker, who has the seat after that one's maker: same group, start and members, the
-- next turn, and the supports of before but the maker's own. The list goes on with what was added, and each seat's next number is higher
-- by its member's entries among that.
pub record Follows (older : List Make) (m : Make) (last : Decision) : Type 0 where
  pub was_made : WasMade older last
  pub before : m.making.before ≡ Some last
  pub reports : m.making.reports ≡ []
  pub group : m.making.decision.group ≡ last.group
  pub turn : m.making.decision.turn ≡ suc last.turn
  pub start : m.making.decision.start ≡ last.start
  pub maker : m.making.decision.maker ≡ m.who
  pub ring : (seat : Seat) × (seat_after last.maker last.seats.items ≡ Some seat) × (seat.member ≡ m.member)
  pub entries : List Entry
  pub appended : map (λ (k : Kept). k.entry) m.making.appended ≡ entries
  pub longer : decision_length m.making.decision ≡ decision_length last + length entries
  pub seats : m.making.decision.seats.items ≡ map (supported m.who (record { ack = decision_length m.making.decision; at = m.making.decision.made })) (map (raised entries) last.seats.items)

-- ---- groups come from promises

-- a process promised this number with this report
abbrev pub WasReported : List Promised → ℕ → Report → Type 0
WasReported promises number r = (x : Promised) × In x promises × (x.who ≡ r.member.who) × (x.promise.number ≡ number) × (x.promise.report ≡ r)

-- the best decision's pair isn't below that of any informed report, and is one's; there is none where no such report names one
pub record IsBest (reports : List Report) (best : Option Decision) : Type 0 where
  pub greatest : AllByRecursion (λ (r : Report). is_by_informed r ≡ true → IsNotOlder (or_none best).group (or_none best).turn r.group r.turn) reports
  pub positive : (d : Decision) → best ≡ Some d → 1 ≤ d.group
  pub told : (d : Decision) → best ≡ Some d → (r : Report) × In r reports × (is_by_informed r ≡ true) × (r.group ≡ d.group) × (r.turn ≡ d.turn)

-- A group starts behind the readings of its reports, and, unless its ballot is full, behind the leases that they name.
pub record StartsAfter (team : Team) (full : Bool) (start : ℕ) (r : Report) : Type 0 where
  pub reading : r.reading < start
  pub lease : full ≡ false → (support : ℕ) → r.support ≡ Some support → support + team.lease < start

-- A group is made by the owner of its number of a ballot of promises of a majority. Its members are those of the consistent
-- reports. It stands on the greatest decision that an informed one told, adds nothing to its list, and starts after it, and after all
-- that it names.
pub record ComesFrom (team : Team) (promises : List Promised) (older : List Make) (m : Make) : Type 0 where
  pub owned : owner team.n m.making.decision.group ≡ m.who
  pub positive : 1 ≤ m.making.decision.group
  pub distinct : IsDistinct nat_eq (reporters m.making.reports)
  pub below : AllByRecursion (λ (r : Report). r.member.who < team.n) m.making.reports
  pub promised : AllByRecursion (WasReported promises m.making.decision.group) m.making.reports
  pub majority : team.n / 2 + 1 ≤ count_by is_by_informed m.making.reports
  pub best : IsBest m.making.reports m.making.before
  pub before : WasMadeIfAny older m.making.before
  pub appended : m.making.appended ≡ []
  pub lower : (d : Decision) → m.making.before ≡ Some d → d.group < m.making.decision.group
  pub members : AllByRecursion (λ (s : Seat). (r : Report) × In r m.making.reports × (is_consistent m.making.before r ≡ true) × (r.member ≡ s.member)) m.making.decision.seats.items
  pub seats : team.n / 2 + 1 ≤ length m.making.decision.seats.items
  pub one_seat : IsDistinct nat_eq (map (λ (s : Seat). s.member.who) m.making.decision.seats.items)
  pub own_seat : has_seat m.member m.making.decision ≡ true
  pub maker : m.making.decision.maker ≡ m.who
  pub supports : AllByRecursion (λ (s : Seat). s.support ≢ None → (s.member ≡ m.member) × (s.support ≡ Some (record { ack = decision_length m.making.decision; at = m.making.decision.made }))) m.making.decision.seats.items
  pub starts : AllByRecursion (StartsAfter team (is_full m) m.making.decision.start) m.making.reports
  pub starts_later : (d : Decision) → m.making.before ≡ Some d → d.start < m.making.decision.start

-- how a decision came about: as the first one of its group, or as a next one
pub data Arises (team : Team) (promises : List Promised) (older : List Make) (m : Make) : Type 0 where
  AsFirst : m.making.decision.turn ≡ 0 → ComesFrom team promises older m → Arises team promises older m
  AsNext : (last : Decision) → Follows older m last → Arises team promises older m

-- each make, by the promises, and by the makes before it
abbrev pub AllArise : Team → List Promised → List Make → Type 0
AllArise team promises [] = Unit {0}
AllArise team promises (m ∷ older) = Arises team promises older m × AllArise team promises older

-- a make that begins its group
pub record Begins (group : ℕ) (k : Make) : Type 0 where
  pub group_is : k.making.decision.group ≡ group
  pub turn : k.making.decision.turn ≡ 0

-- the make that begins the group of a decision, with its start and its members
pub record IsBeginOf (d : Decision) (k : Make) : Type 0 where
  pub begins : Begins d.group k
  pub start : k.making.decision.start ≡ d.start
  pub same_members : members k.making.decision ≡ members d

-- ---- makes are under their promise

-- who made it promised its group before, in the same life
abbrev pub IsUnderPromise : List Promised → Make → Type 0
IsUnderPromise promises m = (x : Promised) × In x promises × (x.who ≡ m.who) × (x.promise.report.member ≡ m.member) × (x.life ≡ m.life) × (x.promise.number ≡ m.making.decision.group)

-- ---- an informed process has its seat

-- With a last decision, it has a seat in that. Without one, it is in its first life, and made nothing, and promised before only as
-- one of no group.
abbrev pub HasSeat : List Step → Written → ℕ → Process → Option Decision → Type 0
HasSeat steps w who p (Some d) = has_seat (member_of p.identity) d ≡ true
HasSeat steps w who p None =
    (life who steps ≡ 1)
    × AllByRecursion (λ (m : Make). m.who ≢ who) w.makes
    × AllByRecursion (λ (x : Promised). x.who ≡ who → x.promise.report.group ≡ 0) w.promises

-- ---- ballots hold promises

pub record BallotHolds (team : Team) (steps : List Step) (w : Written) (who : ℕ) (p : Process) (b : Ballot) : Type 0 where
  pub owned : owner team.n b.number ≡ who
  pub informed : is_informed p.belief ≡ true
  pub distinct : IsDistinct nat_eq (reporters b.reports.items)
  pub below : AllByRecursion (λ (r : Report). r.member.who < team.n) b.reports.items
  pub promised : AllByRecursion (WasReported w.promises b.number) b.reports.items
  pub own : (x : Promised) × In x w.promises × (x.who ≡ who) × (x.life ≡ life who steps) × (x.promise.number ≡ b.number) × (x.promise.report.member ≡ member_of p.identity) × In x.promise.report b.reports.items
  pub best : IsBest b.reports.items b.best

-- ---- the law

pub record OfMakes (team : Team) (steps : List Step) (w : Written) : Type 0 where
  pub tells : AllByRecursion (TellsDecision w.makes) w.promises
  pub arise : AllArise team w.promises w.makes
  pub under : AllByRecursion (IsUnderPromise w.promises) w.makes
  pub carried_made : AllByRecursion (λ (k : Dispatch). WasMadeIfAny w.makes (carried k.datagram.body)) w.sent

pub record OfMaker (team : Team) (steps : List Step) (w : Written) (who : ℕ) (p : Process) : Type 0 where
  pub keeps : KeepsMade w.makes p
  pub seat : is_informed p.belief ≡ true → HasSeat steps w who p (last_decision p)
  pub ballot : (b : Ballot) → p.ballot ≡ Some b → BallotHolds team steps w who p b

-- what was promised, made, kept and told agrees
abbrev pub made : Team → Law
made team = record { History = OfMakes team; Running = OfMaker team }
