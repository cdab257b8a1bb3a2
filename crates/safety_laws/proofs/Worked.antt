-- A schedule with an old group that is still up while a new one is made: 0 never hears a decision of the first group, and 2 is cut
-- off. What the laws speak of, computed on it: who promised, made and was up, whose reports and supports they are, and which group has
-- started. So their premises are met.
use Rattle.std.proofs.Common.{◌≡◌, refl, ℕ, List, [], ◌∷◌, map, Option, Some, None}
use Rattle.std.specs.Option.{option_map}
use Rattle.tw_machine.specs.Types.{Report, Seat, Support, Act, Step}
use Rattle.tw_types.specs.declared.step.Act.TheVariants.{First, Tick, Recv, Reference, Look}
use Rattle.tw_types.specs.Decisions.{or_none}
use Rattle.tw_types.specs.Deliveries.{run_passed, earlies_marked}
use Rattle.tw_types.specs.Examples.{team_a}
use Rattle.tw_types.specs.Flag.{is_up}
use Rattle.tw_machine.specs.Duties.{timed_duties, duties}
use Rattle.tw_machine.specs.History.{Promised, Make, Up, history}
use Rattle.tw_machine.specs.Rows.{rows_of}
use Rattle.tw_machine.specs.Rules.{kind_rule}
use Rattle.tw_machine.specs.Started.{started_at}
use Rattle.tw_machine.specs.Step.{step}
use Rattle.tw_machine.specs.World.{Admissible}
use Rattle.tw_machine.proofs.Meanings.{no_entries}

abbrev pub at : ℕ → ℕ → ℕ → Act → Step
at t who h act = record { t = t; who = who; h = h; act = act }

-- the first group forms: process 1 holds an election, 0 and 2 promise, and 1 and 2 are up in the end
abbrev pub formed : List Step
formed =
    at 713000 1 713000 (Recv 14)
    ∷ at 712000 2 712000 Tick
    ∷ at 703000 2 703000 (Recv 12)
    ∷ at 702000 1 702000 (Recv 8)
    ∷ at 702000 1 702000 (Recv 5)
    ∷ at 701000 2 701000 (Recv 2)
    ∷ at 701000 0 701000 (Recv 1)
    ∷ at 700000 1 700000 Tick
    ∷ at 700000 2 700000 (Reference 700000 700000)
    ∷ at 700000 1 700000 (Reference 700000 700000)
    ∷ at 700000 0 700000 (Reference 700000 700000)
    ∷ at 699990 2 699990 First
    ∷ at 699990 1 699990 First
    ∷ at 699990 0 699990 First
    ∷ []

abbrev one_flag : List Step
one_flag =
    at 1102001 0 1102001 Look
    ∷ at 1102001 1 1102001 Look
    ∷ at 1102001 2 1102001 Look
    ∷ at 1102000 1 1102000 Look
    ∷ at 1102000 2 1102000 Look
    ∷ at 961000 0 961000 (Recv 28)
    ∷ at 960000 1 960000 Tick
    ∷ at 951000 1 951000 (Recv 22)
    ∷ at 950000 0 950000 Tick
    ∷ at 902000 0 902000 (Recv 19)
    ∷ at 901000 1 901000 (Recv 15)
    ∷ at 900000 0 900000 Tick
    ∷ formed

-- who promised which number, at which reading, with which last support
abbrev votes : List Promised → List (ℕ × ℕ × ℕ × Option ℕ)
votes items = map (λ (x : Promised). (x.who, x.promise.number, x.promise.report.reading, x.promise.report.support)) items

-- who made which group and turn, on a decision of which group and turn, of whose reports
abbrev decisions : List Make → List (ℕ × ℕ × ℕ × ℕ × ℕ × List ℕ)
decisions items = map (λ (m : Make). (m.who, m.making.decision.group, m.making.decision.turn, (or_none m.making.before).group, (or_none m.making.before).turn, map (λ (r : Report). r.member.who) m.making.reports)) items

-- the readings of the supports in each decision, seat by seat
abbrev supports_in : List Make → List (List (Option ℕ))
supports_in items = map (λ (m : Make). map (λ (s : Seat). option_map (λ (u : Support). u.at) s.support) m.making.decision.seats.items) items

-- who was up in which group at which reading
abbrev flags : List Up → List (ℕ × ℕ × ℕ)
flags items = map (λ (u : Up). (u.who, u.group, u.reading)) items

promises : votes (history team_a one_flag).promises ≡ (1, 9, 901000, Some 702000) ∷ (0, 9, 900000, None) ∷ (2, 7, 701000, None) ∷ (0, 7, 701000, None) ∷ (1, 7, 700000, None) ∷ []
unfolding is_up step kind_rule timed_duties duties run_passed earlies_marked
promises = refl

makes : decisions (history team_a one_flag).makes ≡ (1, 9, 1, 9, 0, []) ∷ (0, 9, 0, 7, 1, 0 ∷ 1 ∷ []) ∷ (2, 7, 1, 7, 0, []) ∷ (1, 7, 0, 0, 0, 1 ∷ 0 ∷ 2 ∷ []) ∷ []
unfolding is_up step kind_rule timed_duties duties run_passed earlies_marked
makes = refl

supports : supports_in (history team_a one_flag).makes ≡ (Some 950000 ∷ Some 960000 ∷ []) ∷ (Some 950000 ∷ None ∷ []) ∷ (None ∷ Some 702000 ∷ Some 712000 ∷ []) ∷ (None ∷ Some 702000 ∷ None ∷ []) ∷ []
unfolding is_up step kind_rule timed_duties duties run_passed earlies_marked
supports = refl

-- at 1102000 the old group is up, and from the next reading on the new one
ups : flags (history team_a one_flag).ups ≡ (0, 9, 1102001) ∷ (1, 9, 1102001) ∷ (2, 7, 1102000) ∷ (1, 7, 901000) ∷ (1, 7, 713000) ∷ (2, 7, 712000) ∷ []
unfolding is_up step kind_rule timed_duties duties run_passed earlies_marked
ups = refl

not_yet : started_at (rows_of no_entries team_a one_flag) 701000 ≡ None
unfolding is_up step kind_rule timed_duties duties run_passed earlies_marked
not_yet = refl

first_started : started_at (rows_of no_entries team_a one_flag) 701001 ≡ Some 7
unfolding is_up step kind_rule timed_duties duties run_passed earlies_marked
first_started = refl

first_still : started_at (rows_of no_entries team_a one_flag) 1102000 ≡ Some 7
unfolding is_up step kind_rule timed_duties duties run_passed earlies_marked
first_still = refl

second_started : started_at (rows_of no_entries team_a one_flag) 1102001 ≡ Some 9
unfolding is_up step kind_rule timed_duties duties run_passed earlies_marked
second_started = refl

admissible : Admissible team_a one_flag
unfolding is_up step kind_rule timed_duties duties run_passed earlies_marked
admissible = ((((((((((((((((((((((((((tt, refl), refl), refl), refl), refl), refl), refl), refl), refl), refl), refl), refl), refl), refl), refl), refl), refl), refl), refl), refl), refl), refl), refl), refl), refl), refl)
