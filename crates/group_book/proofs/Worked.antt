-- Which reports go with a decision, which one is best, and how a ballot grows, worked out by hand.
use Rattle.std.specs.Prelude.{◌≡◌, ℕ, true, false, map, [], ◌∷◌, Option, Some, None, refl}
use Rattle.tw_types.specs.declared.message.Kind.{Kind}
use Rattle.tw_types.specs.declared.message.Kind.TheVariants.{Informed, Ready}
use Rattle.tw_types.specs.declared.message.Order.TheVariants.{Unordered}
use Rattle.tw_types.specs.declared.message.Atom.TheVariants.{Weak}
use Rattle.tw_types.specs.declared.message.Entry.{Entry}
use Rattle.tw_types.specs.declared.message.Seat.{Seat}
use Rattle.tw_types.specs.declared.message.Report.{Report}
use Rattle.tw_types.specs.declared.message.Decision.{Decision}
use Rattle.tw_types.specs.declared.ballot.Ballot.{Ballot}
use Rattle.tw_types.specs.Votes.{Promise}
use Rattle.tw_types.specs.Decisions.{no_decision}
use Rattle.tw_types.specs.Reports.{best, is_consistent}
use Rattle.tw_types.specs.Ballots.{begun, joined, wants}

abbrev report : ℕ → ℕ → Kind → ℕ → ℕ → ℕ → Report
report who incarnation kind group turn length =
    record { member = record { who = who; incarnation = incarnation }; kind = kind; group = group; turn = turn; length = length; support = None; reading = 0 }

abbrev seat : ℕ → Seat
seat who = record { member = record { who = who; incarnation = 10 }; next = 1; support = None }

abbrev entry : Entry
entry = record { id = record { who = 0; incarnation = 10; seq = 1 }; order = Unordered; atom = Weak; stamp = 0; late = false }

-- a decision of group 7, with the list from position 2 up to 5
abbrev last : Decision
last = record no_decision {
  group = 7;
  turn = 3;
  low = 2;
  seats = record { items = seat 0 ∷ seat 1 ∷ seat 2 ∷ [] };
  window = record { items = entry ∷ entry ∷ entry ∷ [] };
}

against_last : map (is_consistent (Some last)) (
    report 0 10 Informed 7 9 2
    ∷ report 0 10 Informed 7 9 5
    ∷ report 0 10 Informed 7 9 1
    ∷ report 0 10 Informed 7 9 6
    ∷ report 1 10 Informed 6 4 3
    ∷ report 1 11 Informed 6 4 3
    ∷ report 1 10 Informed 8 0 3
    ∷ report 3 10 Ready 7 3 3
    ∷ report 3 10 Ready 7 4 3
    ∷ report 3 10 Ready 6 0 3
    ∷ [])
    ≡ true ∷ true ∷ false ∷ false ∷ true ∷ false ∷ false ∷ true ∷ false ∷ false ∷ []
against_last = refl

against_none : map (is_consistent None) (
    report 0 10 Informed 0 0 0
    ∷ report 0 10 Informed 0 5 0
    ∷ report 0 10 Informed 0 5 1
    ∷ report 0 10 Ready 0 0 0
    ∷ report 0 10 Ready 0 1 0
    ∷ report 0 10 Informed 3 0 0
    ∷ [])
    ≡ true ∷ true ∷ false ∷ true ∷ false ∷ false ∷ []
against_none = refl

group_before_turn : best (report 0 10 Informed 6 9 0 ∷ report 1 10 Ready 8 0 0 ∷ report 2 10 Informed 7 1 0 ∷ report 3 10 Informed 7 0 0 ∷ []) ≡ Some (7, 1)
group_before_turn = refl

only_ready : best (report 0 10 Ready 7 3 0 ∷ report 1 10 Ready 8 0 0 ∷ []) ≡ None
only_ready = refl

-- a turn of no decision is the best one all the same
turn_of_none : best (report 0 10 Informed 0 0 0 ∷ report 1 10 Informed 0 5 0 ∷ []) ≡ Some (0, 5)
turn_of_none = refl

abbrev promise : Report → Option Decision → Promise
promise r d = record { number = 10; report = r; decision = d }

abbrev later : Decision
later = record last { group = 8; turn = 0 }

abbrev growing : Ballot
growing = joined (promise (report 1 10 Informed 7 3 2) (Some last)) (begun (promise (report 2 10 Informed 7 3 2) (Some last)))

-- an equal report may lower the process that has the decision, a greater one sets it anew, a ready one never does
who_has_it :
    (begun (promise (report 2 10 Informed 7 3 2) (Some last))).best_from
    ∷ growing.best_from
    ∷ (joined (promise (report 0 10 Ready 7 3 2) None) growing).best_from
    ∷ (joined (promise (report 3 10 Informed 8 0 2) (Some later)) growing).best_from
    ∷ []
    ≡ 2 ∷ 1 ∷ 1 ∷ 3 ∷ []
who_has_it = refl

-- a second promise of a process, and one of another number, aren't wanted
wanted :
    wants (promise (report 3 10 Ready 7 3 2) None) (Some growing)
    ∷ wants (promise (report 1 11 Ready 7 3 2) None) (Some growing)
    ∷ wants (record { number = 9; report = report 3 10 Ready 7 3 2; decision = None }) (Some growing)
    ∷ wants (promise (report 3 10 Ready 7 3 2) None) None
    ∷ []
    ≡ true ∷ false ∷ false ∷ false ∷ []
wanted = refl
