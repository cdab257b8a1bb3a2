-- Which datagrams have a spelling: the values that each field may have.
use Rattle.std.specs.Prelude.{ℕ, ◌+◌, ◌-◌, ◌/◌, ◌%◌, ◌<◌, ◌≤◌, ◌^◌, ◌≡◌, ◌⊎◌, min, true, false, List, [], ◌∷◌, length, Option, Some, None, IfSome, IsSome}
use Rattle.std.specs.List.{AllByRecursion}
use Rattle.tw_num.specs.declared.interval.Interval.{Interval}
use Rattle.tw_types.specs.declared.message.UpdateId.{UpdateId}
use Rattle.tw_types.specs.declared.message.Order.TheVariants.{Timed}
use Rattle.tw_types.specs.declared.message.Entry.{Entry}
use Rattle.tw_types.specs.declared.message.Kept.{Kept}
use Rattle.tw_types.specs.declared.message.Support.{Support}
use Rattle.tw_types.specs.declared.message.Seat.{Seat}
use Rattle.tw_types.specs.declared.message.Decision.{Decision}
use Rattle.tw_types.specs.declared.message.Kind.TheVariants.{Informed}
use Rattle.tw_types.specs.declared.message.Report.{Report}
use Rattle.tw_types.specs.declared.datagram.Echo.{Echo}
use Rattle.tw_types.specs.declared.datagram.Head.{Head}
use Rattle.tw_types.specs.declared.datagram.Why.{Why}
use Rattle.tw_types.specs.declared.datagram.Why.TheVariants.{Stuck, Join}
use Rattle.tw_types.specs.declared.datagram.Want.{Want}
use Rattle.tw_types.specs.declared.datagram.Want.TheVariants as wants
use Rattle.tw_types.specs.declared.datagram.Body.{Body}
use Rattle.tw_types.specs.declared.datagram.Body.TheVariants as bodies
use Rattle.tw_types.specs.declared.datagram.Datagram.{Datagram}
use Rattle.tw_types.specs.Bytes.{IsCount, IsTime}

-- a count that isn't 0
pub record IsPositive (n : ℕ) : Type 0 where
  pub above : 1 ≤ n
  pub count : IsCount n

-- ---- the head

pub record IntervalFits (i : Interval) : Type 0 where
  pub lo : IsTime i.lo
  pub hi : IsTime i.hi
  pub ordered : i.lo ≤ i.hi

pub record EchoFits (e : Echo) : Type 0 where
  pub a : IsCount e.a
  pub b : IsCount e.b

-- the sender and the receiver may be any byte
pub record HeadFits (h : Head) : Type 0 where
  pub from : h.from < 2 ^ 8
  pub to : h.to < 2 ^ 8
  pub incarnation : IsCount h.incarnation
  pub sent : IsCount h.sent
  pub interval : IfSome h.interval IntervalFits
  pub echo : IfSome h.echo EchoFits

-- ---- parts of bodies; n is the team's size

pub record IdFits (n : ℕ) (id : UpdateId) : Type 0 where
  pub who : id.who < n
  pub incarnation : IsCount id.incarnation
  pub first : 1 ≤ id.seq
  pub last : id.seq ≤ 4294967294

-- an entry of a window: only a timed one is late
pub record EntryFits (n : ℕ) (e : Entry) : Type 0 where
  pub id : IdFits n e.id
  pub late : e.late ≡ true → e.order ≡ Timed
  pub stamp : IsCount e.stamp

-- an entry outside a window isn't late
pub record SentFits (n : ℕ) (e : Entry) : Type 0 where
  pub id : IdFits n e.id
  pub late : e.late ≡ false
  pub stamp : IsCount e.stamp

pub record SupportFits (s : Support) : Type 0 where
  pub ack : IsCount s.ack
  pub at : IsCount s.at

pub record SeatFits (n : ℕ) (s : Seat) : Type 0 where
  pub who : s.member.who < n
  pub incarnation : IsCount s.member.incarnation
  pub next_above : 1 ≤ s.next
  pub next : s.next < 2 ^ 32
  pub support : IfSome s.support SupportFits

-- each seat's process is above those of the seats before it
abbrev pub Ascends : List Seat → Type 0
Ascends [] = Unit {0}
Ascends (s ∷ seats) = AllByRecursion (λ (t : Seat). s.member.who < t.member.who) seats × Ascends seats

-- the maker has a seat, with a support of the moment when the decision was made
abbrev pub IsMadeBy : ℕ → ℕ → List Seat → Type 0
IsMadeBy maker made [] = ⊥
IsMadeBy maker made (s ∷ seats) = ((s.member.who ≡ maker) × IsSome s.support × IfSome s.support (λ support. support.at ≡ made)) ⊎ IsMadeBy maker made seats

pub record DecisionFits (n : ℕ) (d : Decision) : Type 0 where
  pub group : IsPositive d.group
  pub turn : IsCount d.turn
  pub made : IsCount d.made
  pub start : IsTime d.start
  pub low : IsCount d.low
  pub mark_stamp : IsCount d.mark.stamp
  pub mark_who : d.mark.who < n
  pub mark_seq : d.mark.seq < 2 ^ 32
  pub majority : n / 2 + 1 ≤ length d.seats.items
  pub seat_count : length d.seats.items ≤ n
  pub seats : AllByRecursion (SeatFits n) d.seats.items
  pub ascending : Ascends d.seats.items
  pub maker : IsMadeBy d.maker d.made d.seats.items
  pub entry_count : length d.window.items ≤ 32
  pub end : IsCount (d.low + length d.window.items)
  pub acks : AllByRecursion (λ (s : Seat). IfSome s.support (λ support. support.ack ≤ d.low + length d.window.items)) d.seats.items
  pub window : AllByRecursion (EntryFits n) d.window.items

pub record ReportFits (n : ℕ) (r : Report) : Type 0 where
  pub who : r.member.who < n
  pub incarnation : IsCount r.member.incarnation
  pub group : IsCount r.group
  pub turn : IsCount r.turn
  pub length : IsCount r.length
  pub support : IfSome r.support IsCount
  pub reading : IsCount r.reading

abbrev pub WhyFits : Why → Type 0
WhyFits Stuck = Unit {0}
WhyFits (Join group) = IsPositive group

abbrev pub WantFits : ℕ → Want → Type 0
WantFits n (wants.Update id) = IdFits n id
WantFits n (wants.Table group) = IsPositive group

pub record ReadyFits (r : ℕ × ℕ × ℕ) : Type 0 where
  pub group : IsCount r.0
  pub turn : IsCount r.1
  pub length : IsCount r.2

-- ---- the bodies

-- the most bytes that the payload of an update has
abbrev pub longest_payload : ℕ
longest_payload = 128

pub record UpdateFits (n : ℕ) (kept : Kept) : Type 0 where
  pub entry : SentFits n kept.entry
  pub early : kept.early ≡ false
  pub payload : length kept.payload.items ≤ longest_payload

-- two reports are of different processes
abbrev pub Distinct : List Report → Type 0
Distinct [] = Unit {0}
Distinct (r ∷ reports) = AllByRecursion (λ (q : Report). (r.member.who ≡ q.member.who) → ⊥) reports × Distinct reports

-- an informed process that reports a decision of a group below the number that is voted on
pub record IsBelow (number : ℕ) (r : Report) : Type 0 where
  pub kind : r.kind ≡ Informed
  pub group : 1 ≤ r.group
  pub below : r.group < number

-- (group, turn) is not below that of the report
abbrev pub IsNotBelow : ℕ → ℕ → Report → Type 0
IsNotBelow group turn r = (r.group < group) ⊎ ((r.group ≡ group) × (r.turn ≤ turn))

abbrev pub IsOf : ℕ → ℕ → List Report → Type 0
IsOf group turn [] = ⊥
IsOf group turn (r ∷ reports) = ((r.group ≡ group) × (r.turn ≡ turn)) ⊎ IsOf group turn reports

-- the greatest group and turn among the reports
pub record IsGreatest (group turn : ℕ) (reports : List Report) : Type 0 where
  pub reported : IsOf group turn reports
  pub greatest : AllByRecursion (IsNotBelow group turn) reports

pub record NoDecisionFits (n number group turn skip : ℕ) (reports : List Report) (best : Decision) : Type 0 where
  pub number_fits : IsPositive number
  pub group_fits : IsPositive group
  pub turn_fits : IsCount turn
  pub skip_fits : skip < n
  pub at_least_one : 1 ≤ length reports
  pub at_most : length reports ≤ n
  pub each : AllByRecursion (ReportFits n) reports
  pub distinct : Distinct reports
  pub below : AllByRecursion (IsBelow number) reports
  pub best_fits : DecisionFits n best
  pub greatest : IsGreatest best.group best.turn reports

-- a decision goes with a promise exactly where the report is that of an informed process with one, and it is that one
abbrev pub IsTold : ℕ → Report → Option Decision → Type 0
IsTold n r None = r.kind ≡ Informed → r.group ≡ 0
IsTold n r (Some d) = (r.kind ≡ Informed) × (1 ≤ r.group) × (d.group ≡ r.group) × (d.turn ≡ r.turn) × DecisionFits n d

pub record PromiseFits (n : ℕ) (h : Head) (number : ℕ) (r : Report) (d : Option Decision) : Type 0 where
  pub number_fits : IsPositive number
  pub report : ReportFits n r
  pub who : r.member.who ≡ h.from
  pub incarnation : r.member.incarnation ≡ h.incarnation
  pub below : r.kind ≡ Informed → r.group < number
  pub decision : IsTold n r d

pub record StateFits (group position total offset : ℕ) (bytes : List ℕ) : Type 0 where
  pub group_fits : IsPositive group
  pub position_fits : IsCount position
  pub total_above : 1 ≤ total
  pub total_fits : total ≤ 4096
  pub offset_fits : offset < total
  pub aligned : offset % 1024 ≡ 0
  pub piece : length bytes ≡ min 1024 (total - offset)

pub record ElectionFits (number : ℕ) (why : Why) : Type 0 where
  pub number_fits : IsPositive number
  pub why_fits : WhyFits why

abbrev pub BodyFits : ℕ → Head → Body → Type 0
BodyFits n h (bodies.Update kept) = UpdateFits n kept
BodyFits n h (bodies.Decision d) = DecisionFits n d
BodyFits n h (bodies.NoDecision number group turn skip reports best) = NoDecisionFits n number group turn skip reports.items best
BodyFits n h (bodies.Election number why) = ElectionFits number why
BodyFits n h (bodies.Promise number report d) = PromiseFits n h number report d
BodyFits n h (bodies.Ask want) = WantFits n want
BodyFits n h (bodies.State group position total offset bytes) = StateFits group position total offset bytes.items
BodyFits n h (bodies.Sync ready) = IfSome ready ReadyFits

-- each field of the datagram has a value that a team of n processes allows
pub record DatagramFits (n : ℕ) (d : Datagram) : Type 0 where
  pub head : HeadFits d.head
  pub body : BodyFits n d.head d.body
