-- Schedules in which groups form, computed.
use Rattle.std.proofs.Common.{◌≡◌, refl, ℕ, List, [], ◌∷◌}
use Rattle.std.specs.Prelude.{codes}
use Rattle.std.specs.Fmt.{digits}
use Rattle.tw_machine.specs.Types.{Team, Act, Step}
use Rattle.tw_types.specs.declared.step.Act.TheVariants.{First, Tick, Recv, Reference, Look}
use Rattle.tw_types.specs.Deliveries.{passes, run_passed, earlies, earlies_marked}
use Rattle.tw_types.specs.Flag.{is_up}
use Rattle.tw_machine.specs.Step.{step}
use Rattle.tw_machine.specs.Rules.{kind_rule}
use Rattle.tw_machine.specs.Duties.{timed_duties, duties}
use Rattle.tw_machine.specs.Rows.{rows_of}
use Rattle.tw_machine.specs.RowText.{text_of}
use Rattle.tw_machine.proofs.Meanings.{no_entries}

abbrev at : ℕ → ℕ → ℕ → Act → Step
at t who h act = record { t = t; who = who; h = h; act = act }

abbrev pub first_group_team : Team
first_group_team = record { n = 3; line = 7; ppm = 0; eps = 1000; delta = 10000; pace = 20000; decide = 10000; ring = 50000; slot = 100000; lease = 400000; quarantine = 1104003; theta = 30000 }

abbrev pub first_group : List Step
first_group =
    at 1102001 0 1102001 Look
    ∷ at 1102000 0 1102000 Look
    ∷ at 713000 0 713000 (Recv 13)
    ∷ at 713000 1 713000 (Recv 14)
    ∷ at 712000 2 712000 Tick
    ∷ at 703000 2 703000 (Recv 12)
    ∷ at 702000 1 702000 (Recv 8)
    ∷ at 702000 1 702000 (Recv 5)
    ∷ at 701000 2 701000 (Recv 2)
    ∷ at 701000 0 701000 (Recv 1)
    ∷ at 700000 1 700000 Tick
    ∷ at 700000 2 700000 (Reference 700000 700000)
    ∷ at 700000 1 700000 (Reference 700000 700000)
    ∷ at 700000 0 700000 (Reference 700000 700000)
    ∷ at 699990 2 699990 First
    ∷ at 699990 1 699990 First
    ∷ at 699990 0 699990 First
    ∷ []

first_group_rows : text_of (rows_of no_entries first_group_team first_group) ≡ codes "1 0 699990 - 0 0.0 0 0 start\n2 1 699990 - 0 0.0 0 0 start\n3 2 699990 - 0 0.0 0 0 start\n4 0 699990 700000 0 0.0 0 0 done\n5 1 699990 700000 0 0.0 0 0 done\n6 2 699990 700000 0 0.0 0 0 done\n7 1 699990 700000 0 0.0 0 0 done\n+ send 1 to 0 election 7\n+ send 2 to 2 election 7\n+ send 3 to 0 sync\n+ send 4 to 2 sync\n8 0 699990 701000 0 0.0 0 0 done\n+ send 5 to 1 promise 7\n+ send 6 to 1 sync\n+ send 7 to 2 sync\n9 2 699990 701000 0 0.0 0 0 done\n+ send 8 to 1 promise 7\n+ send 9 to 0 sync\n+ send 10 to 1 sync\n10 1 699990 702000 0 0.0 0 0 done\n11 1 699990 702000 0 7.0 0 0 done\n+ made 7.0 start 701001 low 0 len 0 members 0.699990 1.699990 2.699990\n+ send 11 to 0 decision 7.0\n+ send 12 to 2 decision 7.0\n12 2 699990 703000 0 7.0 0 0 done\n13 2 699990 712000 1 7.1 0 0 done\n+ made 7.1 start 701001 low 0 len 0 members 0.699990 1.699990 2.699990\n+ send 13 to 0 decision 7.1\n+ send 14 to 1 decision 7.1\n14 1 699990 713000 1 7.1 0 0 done\n15 0 699990 713000 1 7.1 0 0 done\n16 0 699990 1102000 1 7.1 0 0 look\n17 0 699990 1102001 0 7.1 0 0 look\n"
unfolding digits is_up step kind_rule timed_duties duties passes run_passed earlies earlies_marked
first_group_rows = refl

abbrev pub second_group_team : Team
second_group_team = record { n = 3; line = 7; ppm = 0; eps = 1000; delta = 10000; pace = 20000; decide = 10000; ring = 50000; slot = 100000; lease = 400000; quarantine = 1104003; theta = 30000 }

abbrev pub second_group : List Step
second_group =
    at 1350001 0 1350001 Look
    ∷ at 1350000 0 1350000 Look
    ∷ at 1102001 2 1102001 Look
    ∷ at 1102001 0 1102001 Look
    ∷ at 1102000 0 1102000 Look
    ∷ at 961000 0 961000 (Recv 30)
    ∷ at 960000 1 960000 Tick
    ∷ at 951000 2 951000 (Recv 21)
    ∷ at 951000 1 951000 (Recv 20)
    ∷ at 950000 0 950000 Tick
    ∷ at 902000 0 902000 (Recv 17)
    ∷ at 901000 1 901000 (Recv 13)
    ∷ at 900000 0 900000 Tick
    ∷ at 703000 2 703000 (Recv 12)
    ∷ at 702000 1 702000 (Recv 8)
    ∷ at 702000 1 702000 (Recv 5)
    ∷ at 701000 2 701000 (Recv 2)
    ∷ at 701000 0 701000 (Recv 1)
    ∷ at 700000 1 700000 Tick
    ∷ at 700000 2 700000 (Reference 700000 700000)
    ∷ at 700000 1 700000 (Reference 700000 700000)
    ∷ at 700000 0 700000 (Reference 700000 700000)
    ∷ at 699990 2 699990 First
    ∷ at 699990 1 699990 First
    ∷ at 699990 0 699990 First
    ∷ []

second_group_rows : text_of (rows_of no_entries second_group_team second_group) ≡ codes "1 0 699990 - 0 0.0 0 0 start\n2 1 699990 - 0 0.0 0 0 start\n3 2 699990 - 0 0.0 0 0 start\n4 0 699990 700000 0 0.0 0 0 done\n5 1 699990 700000 0 0.0 0 0 done\n6 2 699990 700000 0 0.0 0 0 done\n7 1 699990 700000 0 0.0 0 0 done\n+ send 1 to 0 election 7\n+ send 2 to 2 election 7\n+ send 3 to 0 sync\n+ send 4 to 2 sync\n8 0 699990 701000 0 0.0 0 0 done\n+ send 5 to 1 promise 7\n+ send 6 to 1 sync\n+ send 7 to 2 sync\n9 2 699990 701000 0 0.0 0 0 done\n+ send 8 to 1 promise 7\n+ send 9 to 0 sync\n+ send 10 to 1 sync\n10 1 699990 702000 0 0.0 0 0 done\n11 1 699990 702000 0 7.0 0 0 done\n+ made 7.0 start 701001 low 0 len 0 members 0.699990 1.699990 2.699990\n+ send 11 to 0 decision 7.0\n+ send 12 to 2 decision 7.0\n12 2 699990 703000 0 7.0 0 0 done\n13 0 699990 900000 0 0.0 0 0 done\n+ send 13 to 1 election 9\n+ send 14 to 2 election 9\n+ send 15 to 1 sync\n+ send 16 to 2 sync\n14 1 699990 901000 0 7.0 0 0 done\n+ send 17 to 0 promise 9\n+ send 18 to 0 sync\n+ send 19 to 2 sync\n15 0 699990 902000 0 0.0 0 0 done\n16 0 699990 950000 0 9.0 0 0 done\n+ made 9.0 start 1102001 low 0 len 0 members 0.699990 1.699990\n+ send 20 to 1 decision 9.0\n+ send 21 to 2 decision 9.0\n+ send 22 to 1 sync\n+ send 23 to 2 sync\n17 1 699990 951000 0 9.0 0 0 done\n+ send 24 to 0 sync\n+ send 25 to 2 sync\n18 2 699990 951000 1 7.1 0 0 dropped not_member\n+ made 7.1 start 701001 low 0 len 0 members 0.699990 1.699990 2.699990\n+ send 26 to 0 decision 7.1\n+ send 27 to 1 decision 7.1\n+ send 28 to 0 sync\n+ send 29 to 1 sync\n19 1 699990 960000 0 9.1 0 0 done\n+ made 9.1 start 1102001 low 0 len 0 members 0.699990 1.699990\n+ send 30 to 0 decision 9.1\n+ send 31 to 2 decision 9.1\n20 0 699990 961000 0 9.1 0 0 done\n21 0 699990 1102000 0 9.1 0 0 look\n22 0 699990 1102001 1 9.1 0 0 look\n23 2 699990 1102001 0 7.1 0 0 look\n24 0 699990 1350000 1 9.1 0 0 look\n25 0 699990 1350001 0 9.1 0 0 look\n"
unfolding digits is_up step kind_rule timed_duties duties passes run_passed earlies earlies_marked
second_group_rows = refl

abbrev left_out_team : Team
left_out_team = record { n = 3; line = 7; ppm = 0; eps = 1000; delta = 10000; pace = 20000; decide = 10000; ring = 50000; slot = 100000; lease = 400000; quarantine = 1104003; theta = 30000 }

abbrev left_out : List Step
left_out =
    at 962000 2 962000 Look
    ∷ at 962000 2 962000 (Recv 31)
    ∷ at 961000 0 961000 (Recv 30)
    ∷ at 960000 1 960000 Tick
    ∷ at 951000 2 951000 (Recv 21)
    ∷ at 951000 1 951000 (Recv 20)
    ∷ at 950000 0 950000 Tick
    ∷ at 902000 0 902000 (Recv 17)
    ∷ at 901000 1 901000 (Recv 13)
    ∷ at 900000 0 900000 Tick
    ∷ at 703000 2 703000 (Recv 12)
    ∷ at 702000 1 702000 (Recv 8)
    ∷ at 702000 1 702000 (Recv 5)
    ∷ at 701000 2 701000 (Recv 2)
    ∷ at 701000 0 701000 (Recv 1)
    ∷ at 700000 1 700000 Tick
    ∷ at 700000 2 700000 (Reference 700000 700000)
    ∷ at 700000 1 700000 (Reference 700000 700000)
    ∷ at 700000 0 700000 (Reference 700000 700000)
    ∷ at 699990 2 699990 First
    ∷ at 699990 1 699990 First
    ∷ at 699990 0 699990 First
    ∷ []

left_out_rows : text_of (rows_of no_entries left_out_team left_out) ≡ codes "1 0 699990 - 0 0.0 0 0 start\n2 1 699990 - 0 0.0 0 0 start\n3 2 699990 - 0 0.0 0 0 start\n4 0 699990 700000 0 0.0 0 0 done\n5 1 699990 700000 0 0.0 0 0 done\n6 2 699990 700000 0 0.0 0 0 done\n7 1 699990 700000 0 0.0 0 0 done\n+ send 1 to 0 election 7\n+ send 2 to 2 election 7\n+ send 3 to 0 sync\n+ send 4 to 2 sync\n8 0 699990 701000 0 0.0 0 0 done\n+ send 5 to 1 promise 7\n+ send 6 to 1 sync\n+ send 7 to 2 sync\n9 2 699990 701000 0 0.0 0 0 done\n+ send 8 to 1 promise 7\n+ send 9 to 0 sync\n+ send 10 to 1 sync\n10 1 699990 702000 0 0.0 0 0 done\n11 1 699990 702000 0 7.0 0 0 done\n+ made 7.0 start 701001 low 0 len 0 members 0.699990 1.699990 2.699990\n+ send 11 to 0 decision 7.0\n+ send 12 to 2 decision 7.0\n12 2 699990 703000 0 7.0 0 0 done\n13 0 699990 900000 0 0.0 0 0 done\n+ send 13 to 1 election 9\n+ send 14 to 2 election 9\n+ send 15 to 1 sync\n+ send 16 to 2 sync\n14 1 699990 901000 0 7.0 0 0 done\n+ send 17 to 0 promise 9\n+ send 18 to 0 sync\n+ send 19 to 2 sync\n15 0 699990 902000 0 0.0 0 0 done\n16 0 699990 950000 0 9.0 0 0 done\n+ made 9.0 start 1102001 low 0 len 0 members 0.699990 1.699990\n+ send 20 to 1 decision 9.0\n+ send 21 to 2 decision 9.0\n+ send 22 to 1 sync\n+ send 23 to 2 sync\n17 1 699990 951000 0 9.0 0 0 done\n+ send 24 to 0 sync\n+ send 25 to 2 sync\n18 2 699990 951000 1 7.1 0 0 dropped not_member\n+ made 7.1 start 701001 low 0 len 0 members 0.699990 1.699990 2.699990\n+ send 26 to 0 decision 7.1\n+ send 27 to 1 decision 7.1\n+ send 28 to 0 sync\n+ send 29 to 1 sync\n19 1 699990 960000 0 9.1 0 0 done\n+ made 9.1 start 1102001 low 0 len 0 members 0.699990 1.699990\n+ send 30 to 0 decision 9.1\n+ send 31 to 2 decision 9.1\n20 0 699990 961000 0 9.1 0 0 done\n21 2 699990 962000 1 7.1 0 0 dropped not_member\n22 2 699990 962000 1 7.1 0 0 look\n"
unfolding digits is_up step kind_rule timed_duties duties passes run_passed earlies earlies_marked
left_out_rows = refl
