-- The group that a complete ballot makes, or why it makes none.
use Rattle.std.specs.Prelude.{ℕ, ◌+◌, ◌/◌, ◌^◌, nat_le, nat_lt, ◌==◌, max, Bool, not, ◌||◌, if◌then◌else◌, List, [], ◌∷◌, ◌++◌, map, length, Option, Some, None, Result, Ok, Err, filter, filter_map, find, fold, count_by, option_map}
use Rattle.std.specs.List.{list_any, range_with_len}
use Rattle.std.specs.Option.{option_map_or}
use Rattle.tw_types.specs.declared.team.Team.{Team}
use Rattle.tw_types.specs.declared.message.Member.{Member}
use Rattle.tw_types.specs.declared.message.UpdateId.{UpdateId}
use Rattle.tw_types.specs.declared.message.Entry.{Entry}
use Rattle.tw_types.specs.declared.message.Kept.{Kept}
use Rattle.tw_types.specs.declared.message.Seat.{Seat}
use Rattle.tw_types.specs.declared.message.Report.{Report}
use Rattle.tw_types.specs.declared.message.Decision.{Decision}
use Rattle.tw_types.specs.declared.ballot.Ballot.{Ballot}
use Rattle.tw_types.specs.Votes.{Making}
use Rattle.tw_types.specs.Decisions.{or_none, decision_length, is_same_member, is_seat_of}
use Rattle.tw_types.specs.Reports.{is_by_informed, is_consistent}
use Rattle.tw_types.specs.Turns.{least, cut_to}
use Rattle.tw_types.specs.Beliefs.{Log, log_length}
use Rattle.tw_types.specs.Updates.{has_update}
use Rattle.tw_types.specs.Logs.{log_room, needed}

-- why a ballot makes no group
pub data NoGroup : Type 0 where
  TooFew : NoGroup
  NotConsistent : NoGroup
  Behind : NoGroup
  Missing : (id : UpdateId) → NoGroup
  Spent : NoGroup

-- a reason against a group, and whether it is there
pub record Objection : Type 0 where
  pub why : NoGroup
  pub present : Bool

abbrev pub first_objection : List Objection → Option NoGroup
first_objection [] = None
first_objection (o ∷ os) = if o.present then Some o.why else first_objection os

-- the reports that go with the ballot's best decision, in the order of their arrival
abbrev pub consistent : Ballot → List Report
consistent b = filter (is_consistent b.best) b.reports.items

-- the report of each of n processes that has one among these, in ascending order of processes
abbrev pub ascending : ℕ → List Report → List Report
ascending n reports = filter_map (λ who. find (λ (r : Report). r.member.who == who) reports) (range_with_len 0 n)

-- the reports whose members get a seat, in the order of the seats
abbrev pub seated : Team → Ballot → List Report
seated team b = ascending team.n (consistent b)

-- the seq of a member's next update: where it was a member before, what it was then, and else the first
abbrev pub next_of : Decision → Member → ℕ
next_of best member = option_map_or (λ (s : Seat). s.next) (find (is_seat_of member) best.seats.items) 1

-- The owner's seat alone has a support: the whole list of the best decision, at the moment of making.
abbrev pub seat_of : Decision → Member → ℕ → Report → Seat
seat_of best me t r = record {
  member = r.member;
  next = next_of best r.member;
  support = if is_same_member r.member me then Some (record { ack = decision_length best; at = t }) else None;
}

-- when the leases end that the reports name
abbrev pub lease_ends : Team → List Report → List ℕ
lease_ends team reports = filter_map (λ (r : Report). option_map (λ at. at + team.lease) r.support) reports

abbrev pub readings : List Report → List ℕ
readings reports = map (λ (r : Report). r.reading) reports

-- the greatest of some numbers, 0 of none
abbrev pub greatest : List ℕ → ℕ
greatest xs = fold max 0 xs

-- No earlier group is believed in any more, and no reading that was reported is as late: a group starts behind the start of the
-- decision that it stands on, behind the leases that its ballot names, and behind the readings.
abbrev pub start_of : Team → Ballot → ℕ
start_of team b = 1 + max (or_none b.best).start (max (greatest (lease_ends team b.reports.items)) (greatest (readings b.reports.items)))

-- the payload of an entry of best's list is missing among these
abbrev pub payload_objection : List Kept → Entry → Objection
payload_objection payloads e = record { why = Missing e.id; present = not (has_update e.id payloads) }

-- The informed reports aren't a majority; the owner's own report isn't consistent, best's list is shorter than the owner's, or the
-- consistent reports aren't a majority; best's list ends too far ahead of what the owner passed; a payload is missing that the owner's
-- list needs; or the group would start too late.
abbrev pub objections : Team → Ballot → Log → List Kept → Member → List Objection
objections team b log payloads me =
    record { why = TooFew; present = nat_lt (count_by is_by_informed b.reports.items) (team.n / 2 + 1) }
    ∷ record {
      why = NotConsistent;
      present = not (list_any (λ (r : Report). is_same_member r.member me) (consistent b))
          || nat_lt (decision_length (or_none b.best)) (log_length log)
          || nat_lt (length (consistent b)) (team.n / 2 + 1);
    }
    ∷ record { why = Behind; present = nat_lt (log.passed + log_room) (decision_length (or_none b.best)) }
    ∷ map (payload_objection payloads) (needed log (or_none b.best))
    ++ record { why = Spent; present = nat_le (2 ^ 61) (start_of team b) }
    ∷ []

-- The first decision of a group, which its owner makes at t. Its list is the best decision's, from the position on up to which
-- every member has it.
abbrev pub decision_from : Decision → List Report → (number start : ℕ) → Member → ℕ → Decision
decision_from best members number start me t = record (cut_to (least (map (λ (r : Report). r.length) members)) best) {
  group = number;
  turn = 0;
  made = t;
  start = start;
  seats = record { items = map (seat_of best me t) members };
  maker = me.who;
}

abbrev pub first_decision : Team → Ballot → Member → ℕ → Decision
first_decision team b me t = decision_from (or_none b.best) (seated team b) b.number (start_of team b) me t

-- what comes of a complete ballot, by the owner's log and the payloads that it has
abbrev pub group_made : Team → Ballot → Log → List Kept → Member → ℕ → Result Decision NoGroup
group_made team b log payloads me t = by (first_objection (objections team b log payloads me))
  where
    by : Option NoGroup → Result Decision NoGroup
    by None = Ok (first_decision team b me t)
    by (Some why) = Err why

-- what is told of a group that was made, the inconsistent reports too
abbrev pub group_making : Ballot → Decision → Making
group_making b d = record { decision = d; before = b.best; reports = b.reports.items; appended = [] }

-- and of a next decision, which adds these updates
abbrev pub next_making : Decision → List Kept → Decision → Making
next_making last appended d = record { decision = d; before = Some last; reports = []; appended = appended }
