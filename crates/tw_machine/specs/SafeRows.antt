-- What is promised of a team's rows, the oldest first. Only printed rows are spoken of: no datagram, promise, ballot or clock
-- interval.
use Rattle.std.specs.Prelude.{ℕ, ◌+◌, ◌/◌, ◌<◌, ◌≤◌, ◌≡◌, ◌≢◌, ◌↔◌, nat_eq, Bool, true, false, ◌&&◌, List, [], ◌∷◌, ◌++◌, map, length, Some, IsSomeAnd}
use Rattle.std.specs.List.{filter, IsDistinct}
use Rattle.tw_machine.specs.Types.{Team, Order, RowAnswer, Member, How}
use Rattle.tw_types.specs.declared.message.Order.TheVariants.{Timed}
use Rattle.tw_types.specs.declared.message.Atom.TheVariants.{Weak, Strong, Strict}
use Rattle.tw_types.specs.Row.{Row, Update, Pass}
use Rattle.tw_types.specs.declared.outputs.How.TheVariants.{Now, Earlier, Late}
use Rattle.tw_machine.specs.Places.{Each, Exists, Below}
use Rattle.tw_machine.specs.Started.{started_at, members_of}

-- more than half of a team's processes
abbrev pub majority : Team → ℕ
majority team = team.n / 2 + 1

-- a row's process, with the incarnation that the row prints
abbrev pub life_of : Row → Member
life_of r = record { who = r.who; incarnation = r.incarnation }

-- at least so many processes have a row of which P holds at its place; a list names them, each once
pub record AtLeast (count : ℕ) (rows : List Row) (P : ℕ → Row → Type 0) : Type 0 where
  pub processes : List ℕ
  pub enough : count ≤ length processes
  pub each_once : IsDistinct nat_eq processes
  pub each_has : Each processes (λ k who. Exists rows (λ i r. (r.who ≡ who) × P i r))

-- P holds of each row that says up at a reading; one that has no reading is left out
abbrev pub EachUp : List Row → (ℕ → Row → ℕ → Type 0) → Type 0
EachUp rows P = Each rows (λ i r. (reading : ℕ) → r.up ≡ true → r.reading ≡ Some reading → P i r reading)

-- P holds of each pass of the process of r, within the incarnation of r, in a row at place i or before it
abbrev pub EachPassSoFar : List Row → ℕ → Row → (Pass → Type 0) → Type 0
EachPassSoFar rows i r P = Each rows (λ j s. j ≤ i → life_of s ≡ life_of r → Each s.passes (λ k p. P p))

-- P holds of each pass in a row of this group or a greater one
abbrev pub EachPassFrom : List Row → ℕ → (Pass → Type 0) → Type 0
EachPassFrom rows group P = Each rows (λ j s. group ≤ s.group → Each s.passes (λ k p. P p))

-- One started group at a reading. Whoever is up at a reading is of the group that is started there, whose members are a
-- majority and name the process with its incarnation.
pub record IsOfStarted (team : Team) (rows : List Row) (r : Row) (reading : ℕ) : Type 0 where
  pub started : started_at rows reading ≡ Some r.group
  pub has_majority : majority team ≤ length (members_of rows r.group)
  pub named : Exists (members_of rows r.group) (λ k m. m ≡ life_of r)

abbrev pub OneStartedGroup : Team → List Row → Type 0
OneStartedGroup team rows = EachUp rows (λ i r reading. IsOfStarted team rows r reading)

-- two passes of a position agree: on the update with all that it carries, and on being late
pub record Agree (p q : Pass) : Type 0 where
  pub update : p.update ≡ q.update
  pub late : p.how ≡ Late ↔ q.how ≡ Late

abbrev pub is_now : How → Bool
is_now Now = true
is_now Earlier = false
is_now Late = false

-- what a row delivers: the updates of its passes with `now`, and of its `early` lines
abbrev pub delivered : Row → List Update
delivered r = map (λ p. p.update) (filter (λ p. is_now p.how) r.passes) ++ r.earlies

-- Same deliveries in one group. Where two rows have one group, what their processes passed so far agrees at each position.
-- Within an incarnation an update is delivered once at most, and one passed as delivered earlier was delivered early in an
-- earlier row.
pub record SameDeliveries (rows : List Row) : Type 0 where
  pub passes : Each rows (λ i r. Each rows (λ j s. 1 ≤ r.group → r.group ≡ s.group →
      EachPassSoFar rows i r (λ p. EachPassSoFar rows j s (λ q. p.position ≡ q.position → Agree p q))))
  pub once : Each rows (λ i r. Each rows (λ j s. life_of r ≡ life_of s →
      Each (delivered r) (λ k u. Each (delivered s) (λ l v. u.id ≡ v.id → (i ≡ j) × (k ≡ l)))))
  pub early_before : Each rows (λ i r. Each r.passes (λ k p. p.how ≡ Earlier →
      Exists rows (λ j s. (j < i) × (life_of s ≡ life_of r) × Exists s.earlies (λ l u. u.id ≡ p.update.id))))

-- Strong deliveries last. What is passed as strong or strict and not late has its position in that group and in all greater
-- ones. What is delivered early as such has one position in them, and has it alone.
pub record StrongLast (rows : List Row) : Type 0 where
  pub passed : Each rows (λ i r. Each r.passes (λ k p. p.how ≢ Late → p.update.atom ≢ Weak →
      EachPassFrom rows r.group (λ q. q.position ≡ p.position → q.update ≡ p.update)))
  pub early : Each rows (λ i r. Each r.earlies (λ k u. u.atom ≢ Weak →
      EachPassFrom rows r.group (λ p. p.update.id ≡ u.id →
      EachPassFrom rows r.group (λ q. q.update.id ≡ u.id ↔ q.position ≡ p.position))))

-- a row of this group, at place i or before it, whose list is longer than the position
pub record HasPosition (i group position : ℕ) (j : ℕ) (s : Row) : Type 0 where
  pub not_after : j ≤ i
  pub same_group : s.group ≡ group
  pub longer : position < s.length

-- Backed deliveries. What is passed as strong and not late is then in the lists of a majority in that group, and what is
-- passed as strict is in the list of each member.
pub record Backed (team : Team) (rows : List Row) : Type 0 where
  pub strong : Each rows (λ i r. Each r.passes (λ k p. p.how ≢ Late → p.update.atom ≡ Strong →
      AtLeast (majority team) rows (HasPosition i r.group p.position)))
  pub strict : Each rows (λ i r. Each r.passes (λ k p. p.how ≢ Late → p.update.atom ≡ Strict →
      Each (members_of rows r.group) (λ l m. Exists rows (λ j s. (life_of s ≡ m) × HasPosition i r.group p.position j s))))

abbrev pub is_timed : Order → Bool
is_timed Order.Unordered = false
is_timed Order.Total = false
is_timed Timed = true

-- what a row passes of timed updates with `now`
abbrev pub timed : Row → List Update
timed r = map (λ p. p.update) (filter (λ p. is_now p.how && is_timed p.update.order) r.passes)

-- what a timed update is ordered by
abbrev pub mark_of : Update → List ℕ
mark_of u = u.stamp ∷ u.id.who ∷ u.id.seq ∷ []

-- Timed order. Within an incarnation timed updates are delivered by their stamps, then their proposers, then their numbers.
abbrev pub TimedOrder : List Row → Type 0
TimedOrder rows = Each rows (λ i r. Each rows (λ j s. life_of r ≡ life_of s →
    Each (timed r) (λ k u. Each (timed s) (λ l v. Below (i ∷ k ∷ []) (j ∷ l ∷ []) → Below (mark_of u) (mark_of v)))))

-- Equal tables. Two looks in one group that passed as much show the same table.
abbrev pub EqualTables : List Row → Type 0
EqualTables rows = Each rows (λ i r. Each rows (λ j s. r.answer ≡ RowAnswer.Look → s.answer ≡ RowAnswer.Look →
    1 ≤ r.group → r.group ≡ s.group → r.passed ≡ s.passed → r.entries ≡ s.entries))

-- a row at place i or before it that made a decision of this group, at a reading from which a lease reaches to the given one
pub record HasLease (team : Team) (i group reading : ℕ) (j : ℕ) (s : Row) : Type 0 where
  pub not_after : j ≤ i
  pub made : IsSomeAnd s.made (λ m. m.group ≡ group)
  pub lasts : IsSomeAnd s.reading (λ r. reading ≤ r + team.lease)

-- Leased support. Whoever is up at a reading has the support of a majority that made decisions of its group, none longer
-- ago than a lease.
abbrev pub LeasedSupport : Team → List Row → Type 0
LeasedSupport team rows = EachUp rows (λ i r reading. AtLeast (majority team) rows (HasLease team i r.group reading))

-- what a team's rows must be
pub record SafeRows (team : Team) (rows : List Row) : Type 0 where
  pub one_started_group : OneStartedGroup team rows
  pub same_deliveries : SameDeliveries rows
  pub strong_last : StrongLast rows
  pub backed : Backed team rows
  pub timed_order : TimedOrder rows
  pub equal_tables : EqualTables rows
  pub leased_support : LeasedSupport team rows
