-- Ballots: promises of one number that are collected by its owner, of which a group may be made.
use Rattle.std.specs.Prelude.{ℕ, ◌+◌, ◌*◌, ◌/◌, nat_le, nat_lt, ◌==◌, Bool, false, not, ◌&&◌, ◌||◌, if◌then◌else◌, List, [], ◌∷◌, ◌++◌, map, length, Option, Some, None, filter}
use Rattle.std.specs.List.{list_any}
use Rattle.tw_types.specs.declared.team.Team.{Team}
use Rattle.tw_types.specs.declared.message.Report.{Report}
use Rattle.tw_types.specs.declared.message.Decision.{Decision}
use Rattle.tw_types.specs.declared.ballot.Ballot.{Ballot}
use Rattle.tw_types.specs.Votes.{Promise}
use Rattle.tw_types.specs.Decisions.{or_none, is_older}
use Rattle.tw_types.specs.Reports.{is_by_informed}
use Rattle.tw_types.specs.Slots.{slot_of}
use Rattle.tw_types.specs.Turns.{least}

-- an informed process reports this decision, or none where it is missing
abbrev pub reports_it : Option Decision → Report → Bool
reports_it d r = is_by_informed r && (r.group == (or_none d).group) && (r.turn == (or_none d).turn)

-- the least process that reports the decision
abbrev pub least_reporter : Option Decision → List Report → ℕ
least_reporter d reports = least (map (λ (r : Report). r.member.who) (filter (reports_it d) reports))

-- a ballot of these reports, of which this is the best decision; a ring leaves out one process
abbrev pub ballot_of : ℕ → Option ℕ → List Report → Option Decision → Ballot
ballot_of number ring reports d = record { number = number; ring = ring; reports = record { items = reports }; best = d; best_from = least_reporter d reports }

-- it begins with its owner's own promise
abbrev pub begun_in : (ring : Option ℕ) → Promise → Ballot
begun_in ring p = ballot_of p.number ring (p.report ∷ []) p.decision

-- one of a slot
abbrev pub begun : Promise → Ballot
begun p = begun_in None p

-- of two decisions the greater one; a missing one is below each
abbrev pub greater : Option Decision → Option Decision → Option Decision
greater a b = if is_older (or_none a).group (or_none a).turn (or_none b).group (or_none b).turn then b else a

-- among these is a report of the process
abbrev pub is_reported : ℕ → List Report → Bool
is_reported who reports = list_any (λ (r : Report). r.member.who == who) reports

abbrev pub has_report_of : ℕ → Ballot → Bool
has_report_of who b = is_reported who b.reports.items

-- there is a ballot of the promise's number, without a report of its process
abbrev pub wants : Promise → Option Ballot → Bool
wants p None = false
wants p (Some b) = (b.number == p.number) && not (has_report_of p.report.member.who b)

-- the ballot with these reports more, and the decision that came with them
abbrev pub with_reports : List Report → Option Decision → Ballot → Ballot
with_reports rs d b = ballot_of b.number b.ring (b.reports.items ++ rs) (greater b.best d)

-- and with one more
abbrev pub with_report : Report → Option Decision → Ballot → Ballot
with_report r d b = with_reports (r ∷ []) d b

-- the ballot with one promise more
abbrev pub joined : Promise → Ballot → Ballot
joined p b = with_report p.report p.decision b

-- Nothing comes of a ballot any more: its owner promised another number, or is in its group already, or its slot is over.
abbrev pub is_over : Team → (promised : ℕ) → Option Decision → (t : ℕ) → Ballot → Bool
is_over team promised last t b = not (promised == b.number) || ((or_none last).group == b.number) || nat_lt (b.number + 1) (slot_of team t)

-- every process reported, or half of the slot is over; a ring has a rule of its own
abbrev pub is_complete : Team → ℕ → Ballot → Bool
is_complete team t b = by b.ring
  where
    by : Option ℕ → Bool
    by None = nat_le team.n (length b.reports.items) || nat_le (b.number * team.slot + team.slot / 2) t
    by (Some skip) = false
