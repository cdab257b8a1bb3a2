-- A ring in a team of five, worked out by hand: who begins, who answers and how, what joins at the owner, and when it has come round.
use Rattle.std.specs.Prelude.{◌≡◌, ℕ, Bool, true, false, List, [], ◌∷◌, map, Option, Some, None, refl}
use Rattle.tw_types.specs.declared.team.Team.{Team}
use Rattle.tw_types.specs.declared.message.Kind.{Kind}
use Rattle.tw_types.specs.declared.message.Kind.TheVariants.{Informed, Ready}
use Rattle.tw_types.specs.declared.message.Seat.{Seat}
use Rattle.tw_types.specs.declared.message.Report.{Report}
use Rattle.tw_types.specs.declared.message.Decision.{Decision}
use Rattle.tw_types.specs.declared.datagram.Body.{Body}
use Rattle.tw_types.specs.declared.datagram.Body.TheVariants as bodies
use Rattle.tw_types.specs.declared.ballot.Ballot.{Ballot}
use Rattle.tw_types.specs.declared.answer.Reason.{Reason}
use Rattle.tw_types.specs.declared.answer.Reason.TheVariants.{Quarantine, OutOfWindow, Promised, Unwilling}
use Rattle.tw_types.specs.Decisions.{no_decision}
use Rattle.tw_types.specs.Refusals.{first_refusal}
use Rattle.tw_types.specs.Ballots.{ballot_of}
use Rattle.tw_types.specs.Rings.{Round, silent, starter, after_but, round_of, begins_ring, ring_number, ring_begun, first_round, round_body, round_tests, handed_on, takes_round, round_joined, is_ring_complete}

abbrev five : Team
five = record { n = 5; line = 7; ppm = 0; eps = 1000; delta = 10000; pace = 20000; decide = 10000; ring = 50000; slot = 100000; lease = 400000; quarantine = 1304003; theta = 30000 }

abbrev seat : ℕ → Seat
seat who = record { member = record { who = who; incarnation = 10 }; next = 1; support = None }

-- a decision of these seats, made at 702000
abbrev decided : (group turn maker : ℕ) → List ℕ → Decision
decided group turn maker seats = record no_decision { group = group; turn = turn; made = 702000; maker = maker; seats = record { items = map seat seats } }

abbrev all_five : List ℕ
all_five = 0 ∷ 1 ∷ 2 ∷ 3 ∷ 4 ∷ []

-- process 2 made the last decision, so 3 is silent, and 4 starts
abbrev last : Decision
last = decided 7 0 2 all_five

abbrev next : Decision
next = decided 7 1 2 all_five

abbrev report_as : Kind → (who turn : ℕ) → Report
report_as kind who turn = record { member = record { who = who; incarnation = 10 }; kind = kind; group = 7; turn = turn; length = 0; support = None; reading = 0 }

abbrev report : ℕ → Report
report who = report_as Informed who 0

roles : silent last ∷ starter last ∷ [] ≡ 3 ∷ 4 ∷ []
roles = refl

-- leaving one out: the seat after; the one after that; a process alone with the one left out
one_left_out : after_but last 0 3 ∷ after_but last 2 3 ∷ after_but (decided 7 0 2 (0 ∷ 2 ∷ [])) 2 0 ∷ [] ≡ 1 ∷ 4 ∷ 2 ∷ []
one_left_out = refl

-- ---- begin

-- whether a ring begins, and with which number
abbrev begun : Report → Decision → (promised : ℕ) → (quarantined busy : Bool) → (t : ℕ) → Option ℕ
begun me d promised quarantined busy t = by (begins_ring five me d promised quarantined busy t)
  where
    by : Bool → Option ℕ
    by true = Some (ring_number five me.member.who promised t)
    by false = None

-- at one ring after the making, and from then on
overdue : begun (report 4) last 7 false false 752000 ∷ begun (report 4) last 7 false false 752001 ∷ [] ≡ None ∷ Some 9 ∷ []
overdue = refl

what_begins :
    ring_begun five (report 4) last 7 752001 ≡ record { number = 9; ring = Some 3; reports = record { items = report 4 ∷ [] }; best = Some last; best_from = 4 }
what_begins = refl

what_is_sent :
    round_body (first_round five (report 4) last 7 752001) ≡ bodies.NoDecision 9 7 0 3 (record { items = report 4 ∷ [] }) last
what_is_sent = refl

-- the silent one, the seat after the starter's, and the maker
other_processes : begun (report 3) last 7 false false 752001 ∷ begun (report 0) last 7 false false 752001 ∷ begun (report 2) last 7 false false 752001 ∷ [] ≡ None ∷ None ∷ None ∷ []
other_processes = refl

-- in quarantine; a ballot is there; a greater promise; ready
not_begun :
    begun (report 4) last 7 true false 752001
    ∷ begun (report 4) last 7 false true 752001
    ∷ begun (report 4) last 8 false false 752001
    ∷ begun (report_as Ready 4 0) last 7 false false 752001
    ∷ []
    ≡ None ∷ None ∷ None ∷ None ∷ []
not_begun = refl

-- one member more than a majority is needed
members : begun (report 4) (decided 7 0 2 (0 ∷ 2 ∷ 3 ∷ 4 ∷ [])) 7 false false 752001 ∷ begun (report 4) (decided 7 0 2 (2 ∷ 3 ∷ 4 ∷ [])) 7 false false 752001 ∷ [] ≡ Some 9 ∷ None ∷ []
members = refl

slots : begun (report 4) last 7 false false 799999 ∷ begun (report 4) last 7 false false 800000 ∷ [] ≡ Some 9 ∷ Some 9 ∷ []
slots = refl

-- the highest number that the window allows; and one above it, for the next one that 3 owns is 18
window : begun (report 3) (decided 12 0 1 all_five) 12 false false 752001 ∷ begun (report 3) (decided 13 0 1 all_five) 13 false false 752001 ∷ [] ≡ Some 13 ∷ None ∷ []
window = refl

-- ---- answer, at 753000

-- the round of number 9, which 4 began
abbrev round : List Report → Round
round reports = record { number = 9; group = 7; turn = 0; skip = 3; reports = reports; best = last }

-- why it isn't answered, or to whom and what is sent
abbrev answered_at : ℕ → Report → Option Decision → (promised : ℕ) → Bool → Round → Option Reason × Option (ℕ × Body)
answered_at t me d promised quarantined r = by (first_refusal (round_tests five me d promised quarantined r t))
  where
    by : Option Reason → Option Reason × Option (ℕ × Body)
    by None = (None, Some (handed_on me d r))
    by (Some reason) = (Some reason, None)

abbrev answered : Report → Option Decision → (promised : ℕ) → Bool → Round → Option Reason × Option (ℕ × Body)
answered = answered_at 753000

abbrev refused : Reason → Option Reason × Option (ℕ × Body)
refused reason = (Some reason, None)

abbrev sent : ℕ → Round → Option Reason × Option (ℕ × Body)
sent to r = (None, Some (to, round_body r))

by_the_next : answered (report 0) (Some last) 7 false (round (report 4 ∷ [])) ≡ sent 1 (round (report 4 ∷ report 0 ∷ []))
by_the_next = refl

-- 3 is left out
by_the_last : answered (report 2) (Some last) 7 false (round (report 4 ∷ report 0 ∷ report 1 ∷ [])) ≡ sent 4 (round (report 4 ∷ report 0 ∷ report 1 ∷ report 2 ∷ []))
by_the_last = refl

-- it isn't overdue yet; the one left out; who reported already; another group; a later decision than the starter's
unwilling :
    answered_at 752000 (report 0) (Some last) 7 false (round (report 4 ∷ []))
    ∷ answered (report 3) (Some last) 7 false (round (report 4 ∷ []))
    ∷ answered (report 0) (Some last) 7 false (round (report 4 ∷ report 0 ∷ []))
    ∷ answered (report 0) (Some last) 7 false (record (round (report 4 ∷ [])) { group = 6 })
    ∷ answered (report_as Informed 0 1) (Some next) 7 false (round (report 4 ∷ []))
    ∷ []
    ≡ refused Unwilling ∷ refused Unwilling ∷ refused Unwilling ∷ refused Unwilling ∷ refused Unwilling ∷ []
unwilling = refl

-- a report of an earlier life counts, and a ready process doesn't join
unwilling_too :
    answered (report 0) (Some last) 7 false (round (report 4 ∷ record (report 0) { member = record { who = 0; incarnation = 9 } } ∷ []))
    ∷ answered (report_as Ready 0 0) (Some last) 7 false (round (report 4 ∷ []))
    ∷ []
    ≡ refused Unwilling ∷ refused Unwilling ∷ []
unwilling_too = refl

-- the own decision is above the round's best one
own_is_best :
    answered (report_as Informed 0 1) (Some next) 7 false (record (round (report 4 ∷ [])) { turn = 1 })
    ≡ sent 1 (record (round (report 4 ∷ report_as Informed 0 1 ∷ [])) { turn = 1; best = next })
own_is_best = refl

abbrev later : Decision
later = decided 7 5 2 all_five

own_is_less :
    answered (report_as Informed 0 1) (Some next) 7 false (record (round (report_as Informed 4 5 ∷ [])) { turn = 5; best = later })
    ≡ sent 1 (record (round (report_as Informed 4 5 ∷ report_as Informed 0 1 ∷ [])) { turn = 5; best = later })
own_is_less = refl

-- a decision of the same group and turn stays, whatever it holds
equal_stays :
    answered (report 0) (Some (record last { start = 5 })) 7 false (round (report 4 ∷ []))
    ≡ sent 1 (round (report 4 ∷ report 0 ∷ []))
equal_stays = refl

-- the owner has no seat, whatever was promised; no decision, whatever the report; above the window, and below it
out_of_window :
    answered (report 0) (Some (decided 7 0 2 (0 ∷ 1 ∷ 2 ∷ 3 ∷ []))) 9 false (round (report 4 ∷ []))
    ∷ answered (report 0) None 7 false (round (report 4 ∷ []))
    ∷ answered (report_as Ready 0 0) None 7 false (round (report 4 ∷ []))
    ∷ answered (report 0) (Some last) 7 false (record (round (report 4 ∷ [])) { number = 14 })
    ∷ answered (report 0) (Some last) 7 false (record (round (report 4 ∷ [])) { number = 3 })
    ∷ []
    ≡ refused OutOfWindow ∷ refused OutOfWindow ∷ refused OutOfWindow ∷ refused OutOfWindow ∷ refused OutOfWindow ∷ []
out_of_window = refl

-- the number promised is told before a lack of will
promised :
    answered (report 0) (Some last) 9 false (round (report 4 ∷ []))
    ∷ answered (report_as Informed 0 1) (Some next) 9 false (round (report 4 ∷ []))
    ∷ []
    ≡ refused (Promised 9) ∷ refused (Promised 9) ∷ []
promised = refl

-- quarantine is told before all else
quarantined : answered (report 0) None 7 true (round (report 4 ∷ [])) ≡ refused Quarantine
quarantined = refl

-- what is forged may come to its sender again
to_itself :
    answered (report 0) (Some (decided 7 0 2 (0 ∷ 2 ∷ []))) 7 false (record (round (report 4 ∷ [])) { number = 12; skip = 2 })
    ≡ sent 0 (record (round (report 4 ∷ report 0 ∷ [])) { number = 12; skip = 2 })
to_itself = refl

-- ---- back at the owner

abbrev ballot : List Report → Ballot
ballot reports = ballot_of 9 (Some 3) reports (Some last)

-- whether a round is taken, and the ballot after it
abbrev added : Round → Ballot → Option Ballot
added r b = by (takes_round r (Some b))
  where
    by : Bool → Option Ballot
    by true = Some (round_joined r b)
    by false = None

-- an equal report adds nothing, a new one comes last
one_is_new : added (round (report 4 ∷ report 0 ∷ [])) (ballot (report 4 ∷ [])) ≡ Some (ballot (report 4 ∷ report 0 ∷ []))
one_is_new = refl

-- a packet that comes twice
nothing_is_new : added (round (report 4 ∷ report 0 ∷ [])) (ballot (report 4 ∷ report 0 ∷ [])) ≡ Some (ballot (report 4 ∷ report 0 ∷ []))
nothing_is_new = refl

best_is_greater : added (record (round (report 4 ∷ [])) { best = next }) (ballot (report 4 ∷ [])) ≡ Some (ballot_of 9 (Some 3) (report 4 ∷ []) (Some next))
best_is_greater = refl

-- one that differs beside a new one; a ballot of a slot; of another number; none
not_taken :
    added (round (report_as Informed 4 1 ∷ report 0 ∷ [])) (ballot (report 4 ∷ []))
    ∷ added (round (report 4 ∷ report 0 ∷ [])) (ballot_of 9 None (report 4 ∷ []) (Some last))
    ∷ added (round (report 4 ∷ report 0 ∷ [])) (ballot_of 14 (Some 3) (report 4 ∷ []) (Some last))
    ∷ []
    ≡ None ∷ None ∷ None ∷ []
not_taken = refl

no_ballot : takes_round (round (report 4 ∷ [])) None ≡ false
no_ballot = refl

abbrev four : List Report
four = report 4 ∷ report 0 ∷ report 1 ∷ report 2 ∷ []

-- all but the silent one; the silent one in another's place; in another life; a ballot of a slot; without a last decision
complete :
    is_ring_complete (ballot four) (Some last)
    ∷ is_ring_complete (ballot (report 4 ∷ report 0 ∷ report 1 ∷ report 3 ∷ [])) (Some last)
    ∷ is_ring_complete (ballot (report 4 ∷ report 0 ∷ report 1 ∷ record (report 2) { member = record { who = 2; incarnation = 11 } } ∷ [])) (Some last)
    ∷ is_ring_complete (ballot_of 9 None four (Some last)) (Some last)
    ∷ is_ring_complete (ballot four) None
    ∷ []
    ≡ true ∷ false ∷ true ∷ false ∷ false ∷ []
complete = refl

-- a round is spelled as a body, and told by it
spelled : round_of (round_body (round four)) ≡ Some (round four)
spelled = refl

other_kind : round_of (bodies.Sync None) ≡ None
other_kind = refl
