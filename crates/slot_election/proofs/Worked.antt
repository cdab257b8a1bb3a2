-- Elections in the team of three, worked out by hand.
use Rattle.std.specs.Prelude.{◌≡◌, ℕ, Bool, true, false, List, [], ◌∷◌, Option, Some, None, refl}
use Rattle.tw_types.specs.declared.team.Team.{Team}
use Rattle.tw_types.specs.declared.message.Kind.{Kind}
use Rattle.tw_types.specs.declared.message.Kind.TheVariants.{Informed, Ready}
use Rattle.tw_types.specs.declared.message.Report.{Report}
use Rattle.tw_types.specs.declared.message.Decision.{Decision}
use Rattle.tw_types.specs.declared.ballot.Ballot.{Ballot}
use Rattle.tw_types.specs.declared.datagram.Why.{Why}
use Rattle.tw_types.specs.declared.datagram.Why.TheVariants.{Stuck, Join}
use Rattle.tw_types.specs.declared.answer.Reason.{Reason}
use Rattle.tw_types.specs.declared.answer.Reason.TheVariants.{Quarantine, OutOfWindow, Promised, Unwilling}
use Rattle.tw_types.specs.Decisions.{no_decision}
use Rattle.tw_types.specs.Refusals.{first_refusal}
use Rattle.tw_types.specs.Ballots.{is_complete}
use Rattle.tw_types.specs.Elections.{begins_slot, why_begun, own_promise, election_tests}

abbrev team : Team
team = record { n = 3; line = 7; ppm = 0; eps = 1000; delta = 10000; pace = 20000; decide = 10000; ring = 50000; slot = 100000; lease = 400000; quarantine = 1104003; theta = 30000 }

abbrev report : ℕ → Kind → Report
report who kind = record { member = record { who = who; incarnation = 10 }; kind = kind; group = 0; turn = 0; length = 0; support = None; reading = 0 }

-- a decision of group 3
abbrev last : ℕ → Decision
last made = record no_decision { group = 3; made = made }

-- Whether process 1 begins: in the slot of process 0; in its own; after it promised its number; in quarantine; ready.
begins :
    begins_slot team (report 1 Informed) None 0 false false 699999
    ∷ begins_slot team (report 1 Informed) None 0 false false 700000
    ∷ begins_slot team (report 1 Informed) None 6 false false 700000
    ∷ begins_slot team (report 1 Informed) None 7 false false 700000
    ∷ begins_slot team (report 1 Informed) None 0 true false 700000
    ∷ begins_slot team (report 1 Ready) None 0 false false 700000
    ∷ []
    ≡ false ∷ true ∷ true ∷ false ∷ false ∷ false ∷ []
begins = refl

-- it isn't stuck after a decision made at 999000; then it begins for a wish alone
for_a_wish :
    begins_slot team (report 1 Informed) (Some (last 999000)) 0 false false 1000000
    ∷ begins_slot team (report 1 Informed) (Some (last 999000)) 0 false true 1000000
    ∷ []
    ≡ false ∷ true ∷ []
for_a_wish = refl

reasons :
    why_begun team None 700000
    ∷ why_begun team (Some (last 999000)) 1000000
    ∷ why_begun team (Some (last 899999)) 1000000
    ∷ []
    ≡ Stuck ∷ Join 3 ∷ Stuck ∷ []
reasons = refl

own_number : (own_promise team (report 1 Informed) None 700000).number ≡ 7
own_number = refl

-- How a process answers at 700000, in slot 7: what it reports, its last decision, what it promised, whether it is in quarantine.
abbrev answered : Option Report → Option Decision → ℕ → Bool → (from number : ℕ) → Why → Option Reason
answered me last promised quarantined from number why = first_refusal (election_tests team me last promised quarantined from number why 700000)

-- two words hold each time, and the first is told
first_word :
    answered (Some (report 0 Informed)) None 0 true 2 7 Stuck
    ∷ answered (Some (report 0 Informed)) None 7 false 2 7 Stuck
    ∷ answered (Some (report 0 Informed)) None 20 false 0 12 Stuck
    ∷ answered (Some (report 0 Informed)) None 20 false 2 5 Stuck
    ∷ answered None None 7 false 1 7 Stuck
    ∷ []
    ≡ Some Quarantine ∷ Some OutOfWindow ∷ Some OutOfWindow ∷ Some OutOfWindow ∷ Some (Promised 7) ∷ []
first_word = refl

-- the ends of the window
near : answered (Some (report 0 Informed)) None 0 false 0 6 Stuck ∷ answered (Some (report 0 Informed)) None 0 false 2 11 Stuck ∷ [] ≡ None ∷ None ∷ []
near = refl

willing :
    answered None None 6 false 1 7 Stuck
    ∷ answered (Some (report 0 Ready)) None 6 false 1 7 Stuck
    ∷ answered (Some (report 0 Ready)) None 6 false 1 7 (Join 4)
    ∷ answered (Some (report 0 Informed)) (Some (last 600000)) 6 false 1 7 Stuck
    ∷ answered (Some (report 0 Informed)) (Some (last 599999)) 6 false 1 7 Stuck
    ∷ answered (Some (report 0 Informed)) (Some (last 600000)) 6 false 1 7 (Join 3)
    ∷ answered (Some (report 0 Informed)) (Some (last 600000)) 6 false 1 7 (Join 4)
    ∷ []
    ≡ Some Unwilling ∷ None ∷ None ∷ Some Unwilling ∷ None ∷ None ∷ Some Unwilling ∷ []
willing = refl

abbrev ballot : List Report → Ballot
ballot reports = record { number = 9; ring = None; reports = record { items = reports }; best = None; best_from = 0 }

abbrev two : List Report
two = report 0 Informed ∷ report 1 Informed ∷ []

complete :
    is_complete team 949999 (ballot two)
    ∷ is_complete team 950000 (ballot two)
    ∷ is_complete team 900000 (ballot (report 2 Ready ∷ two))
    ∷ []
    ≡ false ∷ true ∷ true ∷ []
complete = refl

-- half of an odd slot, rounded down
odd_slot :
    is_complete (record team { slot = 100001 }) 950008 (ballot two)
    ∷ is_complete (record team { slot = 100001 }) 950009 (ballot two)
    ∷ []
    ≡ false ∷ true ∷ []
odd_slot = refl
