-- The ring of one failure: where the next decider of a group is silent, the other members promise a new number one after the other,
-- and hand on what they reported.
use Rattle.std.specs.Prelude.{ℕ, ◌+◌, ◌/◌, nat_le, ◌==◌, Bool, true, false, not, ◌&&◌, ◌||◌, if◌then◌else◌, List, [], ◌∷◌, ◌++◌, length, max, Option, Some, None, is_some, filter}
use Rattle.std.specs.List.{list_any, list_all}
use Rattle.std.specs.Option.{option_eq}
use Rattle.tw_types.specs.declared.team.Team.{Team}
use Rattle.tw_types.specs.declared.message.Kind.{Kind}
use Rattle.tw_types.specs.declared.message.Kind.TheVariants as kinds
use Rattle.tw_types.specs.declared.message.Seat.{Seat}
use Rattle.tw_types.specs.declared.message.Report.{Report}
use Rattle.tw_types.specs.declared.message.Decision.{Decision}
use Rattle.tw_types.specs.declared.datagram.Body.{Body}
use Rattle.tw_types.specs.declared.datagram.Body.TheVariants as bodies
use Rattle.tw_types.specs.declared.ballot.Ballot.{Ballot}
use Rattle.tw_types.specs.declared.answer.Reason.TheVariants.{OutOfWindow, Unwilling}
use Rattle.tw_types.specs.Ranges.{NoDecisionFits}
use Rattle.tw_types.specs.Votes.{Promise}
use Rattle.tw_types.specs.Decisions.{or_none, is_same_member}
use Rattle.tw_types.specs.Refusals.{Refusal}
use Rattle.tw_types.specs.Slots.{slot_of, owner, next_owned, after, is_suspect}
use Rattle.tw_types.specs.Promises.{quarantine_test, number_tests}
use Rattle.tw_types.specs.Reports.{is_by_informed}
use Rattle.tw_types.specs.Ballots.{greater, is_reported, has_report_of, begun_in, with_reports}

-- ---- who is silent, who starts, who comes next

-- the process whose decision is overdue
abbrev pub silent : Decision → ℕ
silent last = after last last.maker

-- the one that starts a ring
abbrev pub starter : Decision → ℕ
starter last = after last (silent last)

-- The seat after a process in the ring of seats, leaving one process out. Where that one comes next, it is the seat after it, which
-- may be the process itself.
abbrev pub after_but : Decision → (who skip : ℕ) → ℕ
after_but d who skip = if after d who == skip then after d skip else after d who

-- ---- what goes round

-- The number that is to be promised, the starter's last group and turn, the process that is left out, the reports of those who promised,
-- and the greatest decision that one of them had.
pub record Round : Type 0 where
  pub number : ℕ
  pub group : ℕ
  pub turn : ℕ
  pub skip : ℕ
  pub reports : List Report
  pub best : Decision

-- as a datagram's body
abbrev pub round_body : Round → Body
round_body r = bodies.NoDecision r.number r.group r.turn r.skip (record { items = r.reports }) r.best

-- and back: a body of another kind tells no round
abbrev pub round_of : Body → Option Round
round_of (bodies.NoDecision number group turn skip reports best) = Some (record { number = number; group = group; turn = turn; skip = skip; reports = reports.items; best = best })
round_of _ = None

-- what goes round among n processes is in the ranges of datagrams
abbrev pub RoundFits : ℕ → Round → Type 0
RoundFits n r = NoDecisionFits n r.number r.group r.turn r.skip r.reports r.best

-- what an informed process promises with its report and its last decision
abbrev pub ring_promise : Report → Option Decision → ℕ → Promise
ring_promise me last number = record { number = number; report = me; decision = last }

-- one promise more: its report comes last, and its decision takes the place of a lesser one
abbrev pub round_with : Promise → Round → Round
round_with p r = record r { reports = r.reports ++ p.report ∷ []; best = or_none (greater (Some r.best) p.decision) }

-- ---- begin

-- the least number of this process above the present slot's and above what it promised
abbrev pub ring_number : Team → (who promised t : ℕ) → ℕ
ring_number team who promised t = next_owned team.n (max (slot_of team t) promised + 1) who

-- Nobody promised more than the last group, more than a majority has seats, and the decider after its maker is silent: the seat after
-- that one begins.
abbrev pub begins_ring : Team → Report → Decision → (promised : ℕ) → (quarantined busy : Bool) → (t : ℕ) → Bool
begins_ring team me last promised quarantined busy t =
    is_by_informed me && not quarantined && not busy && is_suspect team (Some last) t && (last.group == promised)
    && nat_le (team.n / 2 + 2) (length last.seats.items) && (starter last == me.member.who)
    && nat_le (ring_number team me.member.who promised t) (slot_of team t + team.n + 1)

-- the starter's own promise
abbrev pub first_promise : Team → Report → Decision → (promised t : ℕ) → Promise
first_promise team me last promised t = ring_promise me (Some last) (ring_number team me.member.who promised t)

-- the ballot that it begins
abbrev pub ring_begun : Team → Report → Decision → (promised t : ℕ) → Ballot
ring_begun team me last promised t = begun_in (Some (silent last)) (first_promise team me last promised t)

-- and what it sends round
abbrev pub first_round : Team → Report → Decision → (promised t : ℕ) → Round
first_round team me last promised t = record {
  number = ring_number team me.member.who promised t;
  group = last.group;
  turn = last.turn;
  skip = silent last;
  reports = me ∷ [];
  best = last;
}

-- ---- answer

abbrev pub has_seat_of : ℕ → Decision → Bool
has_seat_of who d = list_any (λ (s : Seat). s.member.who == who) d.seats.items

-- a datagram has room for so many reports
abbrev pub most_reports : ℕ
most_reports = 15

-- An informed process joins that isn't left out, didn't report yet, has no later decision than the starter had, and of its group, and
-- finds the next one overdue itself. There is always room for its report in a round that is in range.
abbrev pub is_willing_in : Team → Report → Option Decision → Round → (t : ℕ) → Bool
is_willing_in team me last r t =
    is_by_informed me && not (me.member.who == r.skip) && not (is_reported me.member.who r.reports) && not (nat_le most_reports (length r.reports))
    && ((or_none last).group == r.group) && nat_le (or_none last).turn r.turn && is_suspect team last t

-- why a process doesn't promise the number of a round
abbrev pub round_tests : Team → Report → Option Decision → (promised : ℕ) → (quarantined : Bool) → Round → (t : ℕ) → List Refusal
round_tests team me last promised quarantined r t =
    quarantine_test quarantined
    ∷ record { reason = OutOfWindow; present = not (has_seat_of (owner team.n r.number) (or_none last)) }
    ∷ number_tests team promised r.number t
    ++ record { reason = Unwilling; present = not (is_willing_in team me last r t) }
    ∷ []

-- what it hands on with its promise
abbrev pub round_answered : Report → Option Decision → Round → Round
round_answered me last r = round_with (ring_promise me last r.number) r

-- and to whom
abbrev pub handed_on : Report → Option Decision → Round → ℕ × Body
handed_on me last r = (after_but (or_none last) me.member.who r.skip, round_body (round_answered me last r))

-- ---- back at the owner of the number

abbrev pub is_same_kind : Kind → Kind → Bool
is_same_kind kinds.Informed kinds.Informed = true
is_same_kind kinds.Ready kinds.Ready = true
is_same_kind a b = false

abbrev pub is_same_report : Report → Report → Bool
is_same_report a b =
    is_same_member a.member b.member && is_same_kind a.kind b.kind && (a.group == b.group) && (a.turn == b.turn)
    && (a.length == b.length) && option_eq (λ x y. x == y) a.support b.support && (a.reading == b.reading)

-- a report differs from none that the ballot has of its process
abbrev pub agrees : List Report → Report → Bool
agrees reports r = list_all (λ (q : Report). not (q.member.who == r.member.who) || is_same_report q r) reports

-- there is a ring's ballot of the round's number, and they agree in each process that both have a report of
abbrev pub takes_round : Round → Option Ballot → Bool
takes_round r None = false
takes_round r (Some b) = is_some b.ring && (b.number == r.number) && list_all (agrees b.reports.items) r.reports

-- the reports of a round that a ballot lacks, in their order
abbrev pub new_reports : Round → Ballot → List Report
new_reports r b = filter (λ (q : Report). not (has_report_of q.member.who b)) r.reports

-- the ballot with them, and with the greater decision of both
abbrev pub round_joined : Round → Ballot → Ballot
round_joined r b = with_reports (new_reports r b) (Some r.best) b

-- The ring has come round: each seat of the last decision, but that of the process left out, has a report of its process.
abbrev pub is_ring_complete : Ballot → Option Decision → Bool
is_ring_complete b last = by b.ring last
  where
    by : Option ℕ → Option Decision → Bool
    by None last = false
    by (Some skip) None = false
    by (Some skip) (Some last) = list_all (λ (s : Seat). (s.member.who == skip) || has_report_of s.member.who b) last.seats.items
