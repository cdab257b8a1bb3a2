-- Reading the two bodies that carry reports and a decision.
use Rattle.std.specs.Prelude.{ℕ, ◌+◌, ◌*◌, nat_lt, nat_le, ◌==◌, Bool, true, false, not, ◌&&◌, ◌||◌, if◌then◌else◌, is_some, List, [], length, Option, Some, None, Result, Ok}
use Rattle.std.specs.List.{list_all, fold}
use Rattle.std.specs.Option.{option_map}
use Rattle.std.specs.Int.{w8, w64}
use Rattle.tw_types.specs.declared.message.Member.{Member}
use Rattle.tw_types.specs.declared.message.Kind.{Kind}
use Rattle.tw_types.specs.declared.message.Kind.TheVariants.{Informed, Ready}
use Rattle.tw_types.specs.declared.message.Report.{Report}
use Rattle.tw_types.specs.declared.message.Decision.{Decision}
use Rattle.tw_types.specs.declared.datagram.Head.{Head}
use Rattle.tw_types.specs.declared.datagram.Body.{Body}
use Rattle.tw_types.specs.declared.datagram.Body.TheVariants as bodies
use Rattle.tw_types.specs.declared.datagram.WireFault.{WireFault}
use Rattle.wire_head.specs.Reading.{◌>>=◌, is_count, field_at, count_at, positive_at, byte_to, byte_below, guarded_at}
use Rattle.wire_body.specs.Lists.{list_at, counted_at, optional_at}
use Rattle.wire_body.specs.Decisions.{is_told, told_count_at, decision_at, decision_size}

-- ---- reports

-- a process of which no report stands before, and the one that was told, where one was
abbrev pub is_reporter : ℕ → Option Member → List Report → ℕ → Bool
is_reporter n told before who = nat_lt who n && is_told (option_map (λ (m : Member). m.who) told) who && list_all (λ (r : Report). not (r.member.who == who)) before

abbrev pub kind_from : ℕ → Kind
kind_from number = if number == 0 then Informed else Ready

-- The group of an informed process is below the number that is voted on. Where reports are gathered there is one.
abbrev pub is_reported_group : ℕ → Option Member → ℕ → ℕ → Bool
is_reported_group number told kind group = is_count group && (not (kind == 0) || nat_lt group number) && (is_some told || nat_le 1 group)

-- where reports are gathered all are of informed processes
abbrev pub last_kind : Option Member → ℕ
last_kind None = 0
last_kind (Some m) = 1

-- A report that a vote on this number carries, at a place. It is of the member that was told. Where none was, it is one of
-- several that are gathered, and those before it are at hand.
unfoldable pub report_at : ℕ → ℕ → Option Member → List Report → List ℕ → ℕ → Result Report WireFault
report_at n number told before bytes place = do
  who ← field_at w8 (is_reporter n told before) bytes place
  incarnation ← told_count_at (option_map (λ (m : Member). m.incarnation) told) bytes (place + 1)
  kind ← byte_to (last_kind told) bytes (place + 9)
  group ← field_at w64 (is_reported_group number told kind) bytes (place + 10)
  turn ← count_at bytes (place + 18)
  length ← count_at bytes (place + 26)
  support ← optional_at 1 count_at bytes (place + 34)
  reading ← count_at bytes (place + 43)
  Ok (record { member = record { who = who; incarnation = incarnation }; kind = kind_from kind; group = group; turn = turn; length = length; support = support; reading = reading })

-- ---- a promise

-- the member that a head is of
abbrev pub sender : Head → Member
sender h = record { who = h.from; incarnation = h.incarnation }

abbrev pub is_informed : Kind → Bool
is_informed Informed = true
is_informed Ready = false

-- whether a decision goes with this report
abbrev pub is_with_decision : Report → Bool
is_with_decision r = is_informed r.kind && nat_le 1 r.group

abbrev pub number_if : Bool → ℕ
number_if b = if b then 1 else 0

pub record Promised : Type 0 where
  pub number : ℕ
  pub report : Report
  pub decision : Option Decision

unfoldable pub promise_at : ℕ → Head → List ℕ → Result Promised WireFault
promise_at n h bytes = do
  number ← positive_at bytes 57
  report ← report_at n number (Some (sender h)) [] bytes 65
  present ← field_at w8 (λ p. p == number_if (is_with_decision report)) bytes 116
  decision ← guarded_at (present == 1) 0 (decision_at n (Some report.group) (Some report.turn)) bytes 117
  Ok (record { number = number; report = report; decision = decision })

abbrev pub promise_of : Promised → Body
promise_of p = bodies.Promise p.number p.report p.decision

abbrev pub optional_size : Option Decision → ℕ
optional_size None = 0
optional_size (Some d) = decision_size d

-- ---- a no-decision

-- the later of a group and turn and those of a report
abbrev pub later : ℕ × ℕ → Report → ℕ × ℕ
later best r = if nat_lt best.0 r.group || ((best.0 == r.group) && nat_lt best.1 r.turn) then (r.group, r.turn) else best

-- the greatest group and turn
abbrev pub latest : List Report → ℕ × ℕ
latest reports = fold later (0, 0) reports

pub record Gathered : Type 0 where
  pub number : ℕ
  pub group : ℕ
  pub turn : ℕ
  pub skip : ℕ
  pub reports : List Report
  pub best : Decision

abbrev pub is_report_count : ℕ → ℕ → Bool
is_report_count n k = nat_le 1 k && nat_le k n

unfoldable pub reports_at : ℕ → ℕ → List ℕ → ℕ → Result (List Report) WireFault
reports_at n number bytes place = counted_at w8 (is_report_count n) (list_at 51 (report_at n number None)) bytes place

unfoldable pub no_decision_at : ℕ → List ℕ → Result Gathered WireFault
no_decision_at n bytes = do
  number ← positive_at bytes 57
  group ← positive_at bytes 65
  turn ← count_at bytes 73
  skip ← byte_below n bytes 81
  reports ← reports_at n number bytes 82
  best ← decision_at n (Some (latest reports).0) (Some (latest reports).1) bytes (83 + 51 * length reports)
  Ok (record { number = number; group = group; turn = turn; skip = skip; reports = reports; best = best })

abbrev pub no_decision_of : Gathered → Body
no_decision_of g = bodies.NoDecision g.number g.group g.turn g.skip (record { items = g.reports }) g.best
