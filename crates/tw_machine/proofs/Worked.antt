-- The definitions, computed on small schedules whose rows were worked out by hand.
use Rattle.std.proofs.Common.{◌≡◌, refl, ℕ, List, [], ◌∷◌, None}
use Rattle.std.specs.Prelude.{codes}
use Rattle.std.specs.Fmt.{digits}
use Rattle.tw_machine.specs.Types.{Team, Act, Step}
use Rattle.tw_types.specs.Team.{fault_of}
use Rattle.tw_types.specs.declared.step.Act.TheVariants.{First, Tick, Recv, Reference, Look}
use Rattle.tw_machine.specs.Admissible.{cause_of}
use Rattle.tw_machine.specs.Rules.{kind_rule}
use Rattle.tw_machine.specs.Duties.{timed_duties, duties}
use Rattle.tw_types.specs.Flag.{is_up}
use Rattle.tw_machine.specs.Step.{step}
use Rattle.tw_machine.specs.Rows.{rows_of}
use Rattle.tw_machine.specs.RowText.{text_of}
use Rattle.tw_machine.proofs.Meanings.{no_entries}

abbrev team_a : Team
team_a = record { n = 3; line = 7; ppm = 0; eps = 1000; delta = 10000; pace = 20000; decide = 10000; ring = 50000; slot = 100000; lease = 400000; quarantine = 1104003; theta = 30000 }

abbrev at : ℕ → ℕ → ℕ → Act → Step
at t who h act = record { t = t; who = who; h = h; act = act }

sound : fault_of team_a ≡ None
sound = refl

-- a first start, an exact reference, a look
abbrev first_run : List Step
first_run = at 6 0 6 Look ∷ at 5 0 5 (Reference 5 5) ∷ at 5 0 5 First ∷ []

first_run_rows : text_of (rows_of no_entries team_a first_run) ≡ codes "1 0 5 - 0 0.0 0 0 start\n2 0 5 5 0 0.0 0 0 done\n3 0 5 6 0 0.0 0 0 look\n"
unfolding digits is_up step
first_run_rows = refl

-- a reference of width 2 * eps gives a reading, one of a width one more gives none
abbrev wide : ℕ → List Step
wide hi = at 5000 0 5000 (Reference 4000 hi) ∷ at 5 0 5 First ∷ []

wide_rows : text_of (rows_of no_entries team_a (wide 5998)) ≡ codes "1 0 5 - 0 0.0 0 0 start\n2 0 5 4999 0 0.0 0 0 done\n"
unfolding digits is_up step
wide_rows = refl

too_wide_rows : text_of (rows_of no_entries team_a (wide 5999)) ≡ codes "1 0 5 - 0 0.0 0 0 start\n2 0 5 - 0 0.0 0 0 done\n"
unfolding digits is_up step
too_wide_rows = refl

-- a narrower interval with a smaller middle: the reading is held, and goes on from there
abbrev held : List Step
held = at 6000 0 6000 Look ∷ at 5001 0 5001 (Reference 4500 5001) ∷ at 5000 0 5000 (Reference 4990 6988) ∷ at 5 0 5 First ∷ []

held_rows : text_of (rows_of no_entries team_a held) ≡ codes "1 0 5 - 0 0.0 0 0 start\n2 0 5 5989 0 0.0 0 0 done\n3 0 5 5989 0 0.0 0 0 done\n4 0 5 5995 0 0.0 0 0 look\n"
unfolding digits is_up step
held_rows = refl

held_admissible : cause_of team_a [] (at 5001 0 5001 (Reference 4500 5001) ∷ at 5000 0 5000 (Reference 4990 6988) ∷ at 5 0 5 First ∷ []) (at 6000 0 6000 Look) ≡ None
held_admissible = refl

-- a reference reaches the other processes by their signs of life
abbrev beats : List Step
beats = at 20510 1 20510 (Recv 5) ∷ at 20010 0 20010 Tick ∷ at 1010 0 1010 (Recv 3) ∷ at 510 1 510 (Recv 1) ∷ at 10 0 10 Tick ∷ at 10 0 10 (Reference 10 10) ∷ at 5 1 5 First ∷ at 5 0 5 First ∷ []

beats_rows : text_of (rows_of no_entries team_a beats) ≡ codes "1 0 5 - 0 0.0 0 0 start\n2 1 5 - 0 0.0 0 0 start\n3 0 5 10 0 0.0 0 0 done\n4 0 5 10 0 0.0 0 0 done\n+ send 1 to 1 sync\n+ send 2 to 2 sync\n5 1 5 - 0 0.0 0 0 done\n+ send 3 to 0 sync\n+ send 4 to 2 sync\n6 0 5 1010 0 0.0 0 0 done\n7 0 5 20010 0 0.0 0 0 done\n+ send 5 to 1 sync\n+ send 6 to 2 sync\n8 1 5 20511 0 0.0 0 0 done\n+ send 7 to 0 sync\n+ send 8 to 2 sync\n"
unfolding digits is_up step duties timed_duties kind_rule
beats_rows = refl
