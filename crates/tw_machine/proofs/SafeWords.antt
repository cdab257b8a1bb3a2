-- Rows written by hand, in few words, and what it is that they meet or break a clause of safe rows.
use Rattle.std.proofs.Common.{◌≡◌, ℕ, Bool, true, false, List, [], ◌∷◌, Some, None}
use Rattle.tw_machine.specs.Types.{Team, Order, Atom, RowAnswer, Member, How}
use Rattle.tw_types.specs.declared.message.Order.TheVariants.{Unordered, Total, Timed}
use Rattle.tw_types.specs.declared.message.Atom.TheVariants.{Weak, Strong, Strict}
use Rattle.tw_types.specs.Row.{Row, Update, Pass, Entry}
use Rattle.tw_machine.specs.SafeRows.{OneStartedGroup, SameDeliveries, StrongLast, Backed, TimedOrder, EqualTables, LeasedSupport}
use Rattle.tw_machine.proofs.Decided.{says, told, As}
use Rattle.tw_machine.proofs.SafeTests.{dec_one_started_group, dec_same_deliveries, dec_strong_last, dec_backed, dec_timed_order, dec_equal_tables, dec_leased_support, verdicts}

-- which clauses the rows meet: a flag for each of the seven, in their order
pub record Meets (team : Team) (rows : List Row) (a b c d e f g : Bool) : Type 0 where
  pub one_started_group : As a (OneStartedGroup team rows)
  pub same_deliveries : As b (SameDeliveries rows)
  pub strong_last : As c (StrongLast rows)
  pub backed : As d (Backed team rows)
  pub timed_order : As e (TimedOrder rows)
  pub equal_tables : As f (EqualTables rows)
  pub leased_support : As g (LeasedSupport team rows)

pub meets : (team : Team) (rows : List Row) (a b c d e f g : Bool) → verdicts team rows ≡ a ∷ b ∷ c ∷ d ∷ e ∷ f ∷ g ∷ [] → Meets team rows a b c d e f g
meets team rows a b c d e f g h =
    let ea : says (dec_one_started_group team rows) ≡ a = cc in
    let eb : says (dec_same_deliveries rows) ≡ b = cc in
    let ec : says (dec_strong_last rows) ≡ c = cc in
    let ed : says (dec_backed team rows) ≡ d = cc in
    let ee : says (dec_timed_order rows) ≡ e = cc in
    let ef : says (dec_equal_tables rows) ≡ f = cc in
    let eg : says (dec_leased_support team rows) ≡ g = cc in
    record {
      one_started_group = told (dec_one_started_group team rows) a ea;
      same_deliveries = told (dec_same_deliveries rows) b eb;
      strong_last = told (dec_strong_last rows) c ec;
      backed = told (dec_backed team rows) d ed;
      timed_order = told (dec_timed_order rows) e ee;
      equal_tables = told (dec_equal_tables rows) f ef;
      leased_support = told (dec_leased_support team rows) g eg;
    }

-- three processes, so a majority is two
abbrev pub team : Team
team = record { n = 3; line = 7; ppm = 0; eps = 1000; delta = 10000; pace = 20000; decide = 10000; ring = 50000; slot = 100000; lease = 400000; quarantine = 1104003; theta = 30000 }

-- a row of a process that began at 5, with a reading and a group
abbrev pub row : (step who reading group : ℕ) → Row
row step who reading group = record {
  step = step;
  who = who;
  incarnation = 5;
  reading = Some reading;
  up = false;
  group = group;
  turn = 0;
  length = 0;
  passed = 0;
  answer = RowAnswer.Done;
  made = None;
  passes = [];
  earlies = [];
  sends = [];
  entries = [];
}

abbrev pub member : ℕ → Member
member who = record { who = who; incarnation = 5 }

abbrev pub everyone : List Member
everyone = member 0 ∷ member 1 ∷ member 2 ∷ []

-- the row says that it made a decision of this group, turn, start and members
abbrev pub telling : (group turn start : ℕ) → List Member → Row → Row
telling group turn start members r = record r { made = Some (record { group = group; turn = turn; start = start; low = 0; length = 0; members = members }) }

-- and it has this group and turn itself
abbrev pub making : (turn start : ℕ) → List Member → Row → Row
making turn start members r = telling r.group turn start members (record r { turn = turn })

abbrev pub up : Row → Row
up r = record r { up = true }

abbrev pub long : ℕ → Row → Row
long length r = record r { length = length }

abbrev pub passing : List Pass → Row → Row
passing passes r = record r { passes = passes }

abbrev pub early : Update → Row → Row
early u r = record r { earlies = u ∷ [] }

-- the row shows a table after so many passes
abbrev pub showing : (passed : ℕ) → List Entry → Row → Row
showing passed entries r = record r { passed = passed; entries = entries }

abbrev pub looking : (passed : ℕ) → List Entry → Row → Row
looking passed entries r = record (showing passed entries r) { answer = RowAnswer.Look }

abbrev pub entry : (key value : ℕ) → Entry
entry key value = record { key = key; value = value }

-- the only update of a process
abbrev pub update : (who : ℕ) → Order → Atom → (stamp : ℕ) → Update
update who order atom stamp = record { id = record { who = who; incarnation = 5; seq = 1 }; order = order; atom = atom; stamp = stamp; payload = who ∷ [] }

abbrev pub pass : ℕ → Update → How → Pass
pass position u how = record { position = position; update = u; how = how }

-- group 7 starts at 100 and has everyone, or those given; processes 0 and 1 support it
abbrev pub seven : List Member → List Row → List Row
seven members rows = making 0 100 members (row 1 0 90 7) ∷ making 1 100 members (long 2 (row 2 1 100 7)) ∷ rows

abbrev pub strong_update : Update
strong_update = update 0 Total Strong 50

abbrev pub strict_update : Update
strict_update = update 1 Timed Strict 60

abbrev pub weak_update : Update
weak_update = update 2 Unordered Weak 70

abbrev pub weak_of : (who : ℕ) → Update
weak_of who = update who Unordered Weak 50
