-- Schedules in which updates are sent, computed.
use Rattle.std.proofs.Common.{◌≡◌, refl, ℕ, List, [], ◌∷◌, map}
use Rattle.std.specs.List.{range_with_len}
use Rattle.std.specs.Prelude.{codes}
use Rattle.std.specs.Fmt.{digits}
use Rattle.tw_types.specs.declared.message.Order.TheVariants as orders
use Rattle.tw_types.specs.declared.message.Atom.TheVariants as atoms
use Rattle.tw_machine.specs.Types.{Act, Step}
use Rattle.tw_types.specs.declared.step.Act.TheVariants.{First, Tick, Recv, Send, Reference}
use Rattle.tw_types.specs.Examples.{team_a}
use Rattle.tw_types.specs.Appending.{appended_list, appended_kept}
use Rattle.tw_types.specs.Deliveries.{passes, run_passed, earlies, earlies_marked}
use Rattle.tw_types.specs.Flag.{is_up}
use Rattle.tw_machine.specs.Step.{step}
use Rattle.tw_machine.specs.Rules.{kind_rule}
use Rattle.tw_machine.specs.Duties.{timed_duties, duties}
use Rattle.tw_machine.specs.Rows.{rows_of}
use Rattle.tw_machine.specs.RowText.{text_of}
use Rattle.tw_machine.proofs.Meanings.{no_entries}

abbrev pub at : ℕ → ℕ → ℕ → Act → Step
at t who h act = record { t = t; who = who; h = h; act = act }

-- the first group forms: process 1 holds an election, 0 and 2 promise, and all are up in the end
abbrev pub formed : List Step
formed =
    at 713000 0 713000 (Recv 13)
    ∷ at 713000 1 713000 (Recv 14)
    ∷ at 712000 2 712000 Tick
    ∷ at 703000 2 703000 (Recv 12)
    ∷ at 702000 1 702000 (Recv 8)
    ∷ at 702000 1 702000 (Recv 5)
    ∷ at 701000 2 701000 (Recv 2)
    ∷ at 701000 0 701000 (Recv 1)
    ∷ at 700000 1 700000 Tick
    ∷ at 700000 2 700000 (Reference 700000 700000)
    ∷ at 700000 1 700000 (Reference 700000 700000)
    ∷ at 700000 0 700000 (Reference 700000 700000)
    ∷ at 699990 2 699990 First
    ∷ at 699990 1 699990 First
    ∷ at 699990 0 699990 First
    ∷ []

-- An update that a member missed is asked for, comes, and lets it take the decision. Process 1 passes it as it makes 7.3, and 0 as it
-- takes that.
abbrev pub a_missing_payload_comes : List Step
a_missing_payload_comes =
    at 735000 0 735000 (Recv 23)
    ∷ at 735000 0 735000 (Recv 26)
    ∷ at 734000 1 734000 (Recv 25)
    ∷ at 733000 0 733000 (Recv 23)
    ∷ at 732000 1 732000 Tick
    ∷ at 723000 1 723000 (Recv 17)
    ∷ at 722000 0 722000 Tick
    ∷ at 714000 1 714000 (Send orders.Total atoms.Weak (record { items = (97 ∷ []) }))
    ∷ formed

a_missing_payload_comes_rows : text_of (rows_of no_entries team_a a_missing_payload_comes) ≡ codes "1 0 699990 - 0 0.0 0 0 start\n2 1 699990 - 0 0.0 0 0 start\n3 2 699990 - 0 0.0 0 0 start\n4 0 699990 700000 0 0.0 0 0 done\n5 1 699990 700000 0 0.0 0 0 done\n6 2 699990 700000 0 0.0 0 0 done\n7 1 699990 700000 0 0.0 0 0 done\n+ send 1 to 0 election 7\n+ send 2 to 2 election 7\n+ send 3 to 0 sync\n+ send 4 to 2 sync\n8 0 699990 701000 0 0.0 0 0 done\n+ send 5 to 1 promise 7\n+ send 6 to 1 sync\n+ send 7 to 2 sync\n9 2 699990 701000 0 0.0 0 0 done\n+ send 8 to 1 promise 7\n+ send 9 to 0 sync\n+ send 10 to 1 sync\n10 1 699990 702000 0 0.0 0 0 done\n11 1 699990 702000 0 7.0 0 0 done\n+ made 7.0 start 701001 low 0 len 0 members 0.699990 1.699990 2.699990\n+ send 11 to 0 decision 7.0\n+ send 12 to 2 decision 7.0\n12 2 699990 703000 0 7.0 0 0 done\n13 2 699990 712000 1 7.1 0 0 done\n+ made 7.1 start 701001 low 0 len 0 members 0.699990 1.699990 2.699990\n+ send 13 to 0 decision 7.1\n+ send 14 to 1 decision 7.1\n14 1 699990 713000 1 7.1 0 0 done\n15 0 699990 713000 1 7.1 0 0 done\n16 1 699990 714000 1 7.1 0 0 sent 1\n+ send 15 to 0 update 1.699990.1\n+ send 16 to 2 update 1.699990.1\n17 0 699990 722000 1 7.2 0 0 done\n+ made 7.2 start 701001 low 0 len 0 members 0.699990 1.699990 2.699990\n+ send 17 to 1 decision 7.2\n+ send 18 to 2 decision 7.2\n+ send 19 to 1 sync\n+ send 20 to 2 sync\n18 1 699990 723000 1 7.2 0 0 done\n+ send 21 to 0 sync\n+ send 22 to 2 sync\n19 1 699990 732000 1 7.3 1 1 done\n+ made 7.3 start 701001 low 0 len 1 members 0.699990 1.699990 2.699990\n+ pass 0 1.699990.1 total weak 714000 now 61\n+ send 23 to 0 decision 7.3\n+ send 24 to 2 decision 7.3\n20 0 699990 733000 1 7.2 0 0 dropped missing 1.699990.1\n+ send 25 to 1 ask\n21 1 699990 734000 1 7.3 1 1 done\n+ send 26 to 0 update 1.699990.1\n22 0 699990 735000 1 7.3 1 1 done\n+ pass 0 1.699990.1 total weak 714000 now 61\n23 0 699990 735000 1 7.3 1 1 dropped old\n"
unfolding digits is_up step kind_rule timed_duties duties appended_list appended_kept passes run_passed earlies earlies_marked
a_missing_payload_comes_rows = refl

-- A later decision is held in place of an earlier one. Process 1 passes the update as it makes 7.3, process 2 as it takes that, and 0
-- only as it takes 7.4.
abbrev pub a_newer_one_is_held : List Step
a_newer_one_is_held =
    at 835000 0 835000 (Recv 15)
    ∷ at 834000 0 834000 (Recv 30)
    ∷ at 833001 2 833001 Tick
    ∷ at 733000 2 733000 (Recv 24)
    ∷ at 733000 2 733000 (Recv 16)
    ∷ at 733000 0 733000 (Recv 23)
    ∷ at 732000 1 732000 Tick
    ∷ at 723000 1 723000 (Recv 17)
    ∷ at 722000 0 722000 Tick
    ∷ at 714000 1 714000 (Send orders.Total atoms.Weak (record { items = (97 ∷ []) }))
    ∷ formed

a_newer_one_is_held_rows : text_of (rows_of no_entries team_a a_newer_one_is_held) ≡ codes "1 0 699990 - 0 0.0 0 0 start\n2 1 699990 - 0 0.0 0 0 start\n3 2 699990 - 0 0.0 0 0 start\n4 0 699990 700000 0 0.0 0 0 done\n5 1 699990 700000 0 0.0 0 0 done\n6 2 699990 700000 0 0.0 0 0 done\n7 1 699990 700000 0 0.0 0 0 done\n+ send 1 to 0 election 7\n+ send 2 to 2 election 7\n+ send 3 to 0 sync\n+ send 4 to 2 sync\n8 0 699990 701000 0 0.0 0 0 done\n+ send 5 to 1 promise 7\n+ send 6 to 1 sync\n+ send 7 to 2 sync\n9 2 699990 701000 0 0.0 0 0 done\n+ send 8 to 1 promise 7\n+ send 9 to 0 sync\n+ send 10 to 1 sync\n10 1 699990 702000 0 0.0 0 0 done\n11 1 699990 702000 0 7.0 0 0 done\n+ made 7.0 start 701001 low 0 len 0 members 0.699990 1.699990 2.699990\n+ send 11 to 0 decision 7.0\n+ send 12 to 2 decision 7.0\n12 2 699990 703000 0 7.0 0 0 done\n13 2 699990 712000 1 7.1 0 0 done\n+ made 7.1 start 701001 low 0 len 0 members 0.699990 1.699990 2.699990\n+ send 13 to 0 decision 7.1\n+ send 14 to 1 decision 7.1\n14 1 699990 713000 1 7.1 0 0 done\n15 0 699990 713000 1 7.1 0 0 done\n16 1 699990 714000 1 7.1 0 0 sent 1\n+ send 15 to 0 update 1.699990.1\n+ send 16 to 2 update 1.699990.1\n17 0 699990 722000 1 7.2 0 0 done\n+ made 7.2 start 701001 low 0 len 0 members 0.699990 1.699990 2.699990\n+ send 17 to 1 decision 7.2\n+ send 18 to 2 decision 7.2\n+ send 19 to 1 sync\n+ send 20 to 2 sync\n18 1 699990 723000 1 7.2 0 0 done\n+ send 21 to 0 sync\n+ send 22 to 2 sync\n19 1 699990 732000 1 7.3 1 1 done\n+ made 7.3 start 701001 low 0 len 1 members 0.699990 1.699990 2.699990\n+ pass 0 1.699990.1 total weak 714000 now 61\n+ send 23 to 0 decision 7.3\n+ send 24 to 2 decision 7.3\n20 0 699990 733000 1 7.2 0 0 dropped missing 1.699990.1\n+ send 25 to 1 ask\n21 2 699990 733000 1 7.1 0 0 done\n+ send 26 to 0 decision 7.1\n+ send 27 to 1 decision 7.1\n+ send 28 to 0 sync\n+ send 29 to 1 sync\n22 2 699990 733000 1 7.3 1 1 done\n+ pass 0 1.699990.1 total weak 714000 now 61\n23 2 699990 833001 1 7.4 1 1 done\n+ made 7.4 start 701001 low 0 len 1 members 0.699990 1.699990 2.699990\n+ send 30 to 0 decision 7.4\n+ send 31 to 1 decision 7.4\n+ send 32 to 0 sync\n+ send 33 to 1 sync\n24 0 699990 834000 1 7.2 0 0 dropped missing 1.699990.1\n+ send 34 to 2 ask\n+ send 35 to 2 ask\n+ send 36 to 1 decision 7.2\n+ send 37 to 2 decision 7.2\n+ send 38 to 1 sync\n+ send 39 to 2 sync\n25 0 699990 835000 1 7.4 1 1 done\n+ pass 0 1.699990.1 total weak 714000 now 61\n"
unfolding digits is_up step kind_rule timed_duties duties appended_list appended_kept passes run_passed earlies earlies_marked
a_newer_one_is_held_rows = refl

-- What was held before a promise is let go when its last payload comes. Only process 1 passes the update, for only its list has it.
abbrev a_promise_releases : List Step
a_promise_releases =
    at 837000 0 837000 (Recv 15)
    ∷ at 836000 0 836000 (Recv 15)
    ∷ at 835000 0 835000 (Recv 15)
    ∷ at 834000 0 834000 (Recv 28)
    ∷ at 833001 2 833001 Tick
    ∷ at 733000 0 733000 (Recv 25)
    ∷ at 732000 1 732000 Tick
    ∷ at 723000 2 723000 (Recv 18)
    ∷ at 723000 1 723000 (Recv 17)
    ∷ at 722000 0 722000 Tick
    ∷ at 714000 1 714000 (Send orders.Total atoms.Weak (record { items = (97 ∷ []) }))
    ∷ formed

a_promise_releases_rows : text_of (rows_of no_entries team_a a_promise_releases) ≡ codes "1 0 699990 - 0 0.0 0 0 start\n2 1 699990 - 0 0.0 0 0 start\n3 2 699990 - 0 0.0 0 0 start\n4 0 699990 700000 0 0.0 0 0 done\n5 1 699990 700000 0 0.0 0 0 done\n6 2 699990 700000 0 0.0 0 0 done\n7 1 699990 700000 0 0.0 0 0 done\n+ send 1 to 0 election 7\n+ send 2 to 2 election 7\n+ send 3 to 0 sync\n+ send 4 to 2 sync\n8 0 699990 701000 0 0.0 0 0 done\n+ send 5 to 1 promise 7\n+ send 6 to 1 sync\n+ send 7 to 2 sync\n9 2 699990 701000 0 0.0 0 0 done\n+ send 8 to 1 promise 7\n+ send 9 to 0 sync\n+ send 10 to 1 sync\n10 1 699990 702000 0 0.0 0 0 done\n11 1 699990 702000 0 7.0 0 0 done\n+ made 7.0 start 701001 low 0 len 0 members 0.699990 1.699990 2.699990\n+ send 11 to 0 decision 7.0\n+ send 12 to 2 decision 7.0\n12 2 699990 703000 0 7.0 0 0 done\n13 2 699990 712000 1 7.1 0 0 done\n+ made 7.1 start 701001 low 0 len 0 members 0.699990 1.699990 2.699990\n+ send 13 to 0 decision 7.1\n+ send 14 to 1 decision 7.1\n14 1 699990 713000 1 7.1 0 0 done\n15 0 699990 713000 1 7.1 0 0 done\n16 1 699990 714000 1 7.1 0 0 sent 1\n+ send 15 to 0 update 1.699990.1\n+ send 16 to 2 update 1.699990.1\n17 0 699990 722000 1 7.2 0 0 done\n+ made 7.2 start 701001 low 0 len 0 members 0.699990 1.699990 2.699990\n+ send 17 to 1 decision 7.2\n+ send 18 to 2 decision 7.2\n+ send 19 to 1 sync\n+ send 20 to 2 sync\n18 1 699990 723000 1 7.2 0 0 done\n+ send 21 to 0 sync\n+ send 22 to 2 sync\n19 2 699990 723000 1 7.2 0 0 done\n+ send 23 to 0 sync\n+ send 24 to 1 sync\n20 1 699990 732000 1 7.3 1 1 done\n+ made 7.3 start 701001 low 0 len 1 members 0.699990 1.699990 2.699990\n+ pass 0 1.699990.1 total weak 714000 now 61\n+ send 25 to 0 decision 7.3\n+ send 26 to 2 decision 7.3\n21 0 699990 733000 1 7.2 0 0 dropped missing 1.699990.1\n+ send 27 to 1 ask\n22 2 699990 833001 1 7.2 0 0 done\n+ send 28 to 0 election 8\n+ send 29 to 1 election 8\n+ send 30 to 0 sync\n+ send 31 to 1 sync\n23 0 699990 834000 1 7.2 0 0 done\n+ send 32 to 2 promise 8\n+ send 33 to 1 ask\n+ send 34 to 1 sync\n+ send 35 to 2 sync\n24 0 699990 835000 1 7.2 0 0 done\n25 0 699990 836000 1 7.2 0 0 done\n26 0 699990 837000 1 7.2 0 0 dropped old\n"
unfolding digits is_up step kind_rule timed_duties duties appended_list appended_kept passes run_passed earlies earlies_marked
a_promise_releases_rows = refl

-- A ballot whose best decision lacks a payload waits for that. Processes 1 and 2 pass the update by 7.3; 0 isn't up by the group that it
-- makes, and passes nothing.
abbrev pub a_group_lacks_a_payload : List Step
a_group_lacks_a_payload =
    at 953000 0 953000 (Recv 41)
    ∷ at 952000 0 952000 (Recv 41)
    ∷ at 951000 2 951000 (Recv 36)
    ∷ at 950500 0 950500 Tick
    ∷ at 950000 0 950000 Tick
    ∷ at 902000 0 902000 (Recv 33)
    ∷ at 901000 2 901000 (Recv 30)
    ∷ at 900000 0 900000 Tick
    ∷ at 733000 2 733000 (Recv 24)
    ∷ at 733000 2 733000 (Recv 16)
    ∷ at 732000 1 732000 Tick
    ∷ at 723000 1 723000 (Recv 17)
    ∷ at 722000 0 722000 Tick
    ∷ at 714000 1 714000 (Send orders.Total atoms.Weak (record { items = (97 ∷ []) }))
    ∷ formed

a_group_lacks_a_payload_rows : text_of (rows_of no_entries team_a a_group_lacks_a_payload) ≡ codes "1 0 699990 - 0 0.0 0 0 start\n2 1 699990 - 0 0.0 0 0 start\n3 2 699990 - 0 0.0 0 0 start\n4 0 699990 700000 0 0.0 0 0 done\n5 1 699990 700000 0 0.0 0 0 done\n6 2 699990 700000 0 0.0 0 0 done\n7 1 699990 700000 0 0.0 0 0 done\n+ send 1 to 0 election 7\n+ send 2 to 2 election 7\n+ send 3 to 0 sync\n+ send 4 to 2 sync\n8 0 699990 701000 0 0.0 0 0 done\n+ send 5 to 1 promise 7\n+ send 6 to 1 sync\n+ send 7 to 2 sync\n9 2 699990 701000 0 0.0 0 0 done\n+ send 8 to 1 promise 7\n+ send 9 to 0 sync\n+ send 10 to 1 sync\n10 1 699990 702000 0 0.0 0 0 done\n11 1 699990 702000 0 7.0 0 0 done\n+ made 7.0 start 701001 low 0 len 0 members 0.699990 1.699990 2.699990\n+ send 11 to 0 decision 7.0\n+ send 12 to 2 decision 7.0\n12 2 699990 703000 0 7.0 0 0 done\n13 2 699990 712000 1 7.1 0 0 done\n+ made 7.1 start 701001 low 0 len 0 members 0.699990 1.699990 2.699990\n+ send 13 to 0 decision 7.1\n+ send 14 to 1 decision 7.1\n14 1 699990 713000 1 7.1 0 0 done\n15 0 699990 713000 1 7.1 0 0 done\n16 1 699990 714000 1 7.1 0 0 sent 1\n+ send 15 to 0 update 1.699990.1\n+ send 16 to 2 update 1.699990.1\n17 0 699990 722000 1 7.2 0 0 done\n+ made 7.2 start 701001 low 0 len 0 members 0.699990 1.699990 2.699990\n+ send 17 to 1 decision 7.2\n+ send 18 to 2 decision 7.2\n+ send 19 to 1 sync\n+ send 20 to 2 sync\n18 1 699990 723000 1 7.2 0 0 done\n+ send 21 to 0 sync\n+ send 22 to 2 sync\n19 1 699990 732000 1 7.3 1 1 done\n+ made 7.3 start 701001 low 0 len 1 members 0.699990 1.699990 2.699990\n+ pass 0 1.699990.1 total weak 714000 now 61\n+ send 23 to 0 decision 7.3\n+ send 24 to 2 decision 7.3\n20 2 699990 733000 1 7.1 0 0 done\n+ send 25 to 0 decision 7.1\n+ send 26 to 1 decision 7.1\n+ send 27 to 0 sync\n+ send 28 to 1 sync\n21 2 699990 733000 1 7.3 1 1 done\n+ pass 0 1.699990.1 total weak 714000 now 61\n22 0 699990 900000 1 7.2 0 0 done\n+ send 29 to 1 election 9\n+ send 30 to 2 election 9\n+ send 31 to 1 sync\n+ send 32 to 2 sync\n23 2 699990 901000 1 7.3 1 1 done\n+ send 33 to 0 promise 9\n+ send 34 to 0 sync\n+ send 35 to 1 sync\n24 0 699990 902000 1 7.2 0 0 done\n25 0 699990 950000 1 7.2 0 0 done\n+ send 36 to 2 ask\n+ send 37 to 2 ask\n+ send 38 to 1 sync\n+ send 39 to 2 sync\n26 0 699990 950500 1 7.2 0 0 done\n+ send 40 to 2 ask\n27 2 699990 951000 1 7.3 1 1 done\n+ send 41 to 0 update 1.699990.1\n+ send 42 to 0 sync\n+ send 43 to 1 sync\n28 0 699990 952000 0 9.0 1 0 done\n+ made 9.0 start 1122001 low 0 len 1 members 0.699990 2.699990\n+ send 44 to 1 decision 9.0\n+ send 45 to 2 decision 9.0\n29 0 699990 953000 0 9.0 1 0 dropped not_member\n"
unfolding digits is_up step kind_rule timed_duties duties appended_list appended_kept passes run_passed earlies earlies_marked
a_group_lacks_a_payload_rows = refl

-- The list's low rises once every member has the entry. Each passes it with 7.2, which 0 makes and the others take.
abbrev low_rises : List Step
low_rises =
    at 743000 1 743000 (Recv 28)
    ∷ at 743000 0 743000 (Recv 27)
    ∷ at 742000 2 742000 Tick
    ∷ at 733000 0 733000 (Recv 25)
    ∷ at 733000 2 733000 (Recv 26)
    ∷ at 732000 1 732000 Tick
    ∷ at 723000 2 723000 (Recv 18)
    ∷ at 723000 1 723000 (Recv 17)
    ∷ at 722000 0 722000 Tick
    ∷ at 714500 2 714500 (Recv 16)
    ∷ at 714500 0 714500 (Recv 15)
    ∷ at 714000 1 714000 (Send orders.Total atoms.Weak (record { items = (97 ∷ []) }))
    ∷ formed

low_rises_rows : text_of (rows_of no_entries team_a low_rises) ≡ codes "1 0 699990 - 0 0.0 0 0 start\n2 1 699990 - 0 0.0 0 0 start\n3 2 699990 - 0 0.0 0 0 start\n4 0 699990 700000 0 0.0 0 0 done\n5 1 699990 700000 0 0.0 0 0 done\n6 2 699990 700000 0 0.0 0 0 done\n7 1 699990 700000 0 0.0 0 0 done\n+ send 1 to 0 election 7\n+ send 2 to 2 election 7\n+ send 3 to 0 sync\n+ send 4 to 2 sync\n8 0 699990 701000 0 0.0 0 0 done\n+ send 5 to 1 promise 7\n+ send 6 to 1 sync\n+ send 7 to 2 sync\n9 2 699990 701000 0 0.0 0 0 done\n+ send 8 to 1 promise 7\n+ send 9 to 0 sync\n+ send 10 to 1 sync\n10 1 699990 702000 0 0.0 0 0 done\n11 1 699990 702000 0 7.0 0 0 done\n+ made 7.0 start 701001 low 0 len 0 members 0.699990 1.699990 2.699990\n+ send 11 to 0 decision 7.0\n+ send 12 to 2 decision 7.0\n12 2 699990 703000 0 7.0 0 0 done\n13 2 699990 712000 1 7.1 0 0 done\n+ made 7.1 start 701001 low 0 len 0 members 0.699990 1.699990 2.699990\n+ send 13 to 0 decision 7.1\n+ send 14 to 1 decision 7.1\n14 1 699990 713000 1 7.1 0 0 done\n15 0 699990 713000 1 7.1 0 0 done\n16 1 699990 714000 1 7.1 0 0 sent 1\n+ send 15 to 0 update 1.699990.1\n+ send 16 to 2 update 1.699990.1\n17 0 699990 714500 1 7.1 0 0 done\n18 2 699990 714500 1 7.1 0 0 done\n19 0 699990 722000 1 7.2 1 1 done\n+ made 7.2 start 701001 low 0 len 1 members 0.699990 1.699990 2.699990\n+ pass 0 1.699990.1 total weak 714000 now 61\n+ send 17 to 1 decision 7.2\n+ send 18 to 2 decision 7.2\n+ send 19 to 1 sync\n+ send 20 to 2 sync\n20 1 699990 723000 1 7.2 1 1 done\n+ pass 0 1.699990.1 total weak 714000 now 61\n+ send 21 to 0 sync\n+ send 22 to 2 sync\n21 2 699990 723000 1 7.2 1 1 done\n+ pass 0 1.699990.1 total weak 714000 now 61\n+ send 23 to 0 sync\n+ send 24 to 1 sync\n22 1 699990 732000 1 7.3 1 1 done\n+ made 7.3 start 701001 low 0 len 1 members 0.699990 1.699990 2.699990\n+ send 25 to 0 decision 7.3\n+ send 26 to 2 decision 7.3\n23 2 699990 733000 1 7.3 1 1 done\n24 0 699990 733000 1 7.3 1 1 done\n25 2 699990 742000 1 7.4 1 1 done\n+ made 7.4 start 701001 low 1 len 1 members 0.699990 1.699990 2.699990\n+ send 27 to 0 decision 7.4\n+ send 28 to 1 decision 7.4\n26 0 699990 743000 1 7.4 1 1 done\n+ send 29 to 1 sync\n+ send 30 to 2 sync\n27 1 699990 743000 1 7.4 1 1 done\n+ send 31 to 0 sync\n+ send 32 to 2 sync\n"
unfolding digits is_up step kind_rule timed_duties duties appended_list appended_kept passes run_passed earlies earlies_marked
low_rises_rows = refl

-- a ninth send and one of 129 bytes are refused
abbrev eight_wait : List Step
eight_wait =
    at 714000 1 714000 (Send orders.Total atoms.Weak (record { items = (map (λ i. 97) (range_with_len 0 129)) }))
    ∷ at 714000 1 714000 (Send orders.Total atoms.Weak (record { items = (97 ∷ []) }))
    ∷ at 714000 1 714000 (Send orders.Total atoms.Weak (record { items = (97 ∷ []) }))
    ∷ at 714000 1 714000 (Send orders.Total atoms.Weak (record { items = (97 ∷ []) }))
    ∷ at 714000 1 714000 (Send orders.Total atoms.Weak (record { items = (97 ∷ []) }))
    ∷ at 714000 1 714000 (Send orders.Total atoms.Weak (record { items = (97 ∷ []) }))
    ∷ at 714000 1 714000 (Send orders.Total atoms.Weak (record { items = (97 ∷ []) }))
    ∷ at 714000 1 714000 (Send orders.Total atoms.Weak (record { items = (97 ∷ []) }))
    ∷ at 714000 1 714000 (Send orders.Total atoms.Weak (record { items = (97 ∷ []) }))
    ∷ at 714000 1 714000 (Send orders.Total atoms.Weak (record { items = (97 ∷ []) }))
    ∷ formed

eight_wait_rows : text_of (rows_of no_entries team_a eight_wait) ≡ codes "1 0 699990 - 0 0.0 0 0 start\n2 1 699990 - 0 0.0 0 0 start\n3 2 699990 - 0 0.0 0 0 start\n4 0 699990 700000 0 0.0 0 0 done\n5 1 699990 700000 0 0.0 0 0 done\n6 2 699990 700000 0 0.0 0 0 done\n7 1 699990 700000 0 0.0 0 0 done\n+ send 1 to 0 election 7\n+ send 2 to 2 election 7\n+ send 3 to 0 sync\n+ send 4 to 2 sync\n8 0 699990 701000 0 0.0 0 0 done\n+ send 5 to 1 promise 7\n+ send 6 to 1 sync\n+ send 7 to 2 sync\n9 2 699990 701000 0 0.0 0 0 done\n+ send 8 to 1 promise 7\n+ send 9 to 0 sync\n+ send 10 to 1 sync\n10 1 699990 702000 0 0.0 0 0 done\n11 1 699990 702000 0 7.0 0 0 done\n+ made 7.0 start 701001 low 0 len 0 members 0.699990 1.699990 2.699990\n+ send 11 to 0 decision 7.0\n+ send 12 to 2 decision 7.0\n12 2 699990 703000 0 7.0 0 0 done\n13 2 699990 712000 1 7.1 0 0 done\n+ made 7.1 start 701001 low 0 len 0 members 0.699990 1.699990 2.699990\n+ send 13 to 0 decision 7.1\n+ send 14 to 1 decision 7.1\n14 1 699990 713000 1 7.1 0 0 done\n15 0 699990 713000 1 7.1 0 0 done\n16 1 699990 714000 1 7.1 0 0 sent 1\n+ send 15 to 0 update 1.699990.1\n+ send 16 to 2 update 1.699990.1\n17 1 699990 714000 1 7.1 0 0 sent 2\n+ send 17 to 0 update 1.699990.2\n+ send 18 to 2 update 1.699990.2\n18 1 699990 714000 1 7.1 0 0 sent 3\n+ send 19 to 0 update 1.699990.3\n+ send 20 to 2 update 1.699990.3\n19 1 699990 714000 1 7.1 0 0 sent 4\n+ send 21 to 0 update 1.699990.4\n+ send 22 to 2 update 1.699990.4\n20 1 699990 714000 1 7.1 0 0 sent 5\n+ send 23 to 0 update 1.699990.5\n+ send 24 to 2 update 1.699990.5\n21 1 699990 714000 1 7.1 0 0 sent 6\n+ send 25 to 0 update 1.699990.6\n+ send 26 to 2 update 1.699990.6\n22 1 699990 714000 1 7.1 0 0 sent 7\n+ send 27 to 0 update 1.699990.7\n+ send 28 to 2 update 1.699990.7\n23 1 699990 714000 1 7.1 0 0 sent 8\n+ send 29 to 0 update 1.699990.8\n+ send 30 to 2 update 1.699990.8\n24 1 699990 714000 1 7.1 0 0 refused full\n25 1 699990 714000 1 7.1 0 0 refused too_long\n"
unfolding digits is_up step kind_rule timed_duties duties appended_list appended_kept passes run_passed earlies earlies_marked
eight_wait_rows = refl

-- so is one of a process that isn't up
abbrev not_up : List Step
not_up =
    at 6 0 6 (Send orders.Total atoms.Weak (record { items = (map (λ i. 97) (range_with_len 0 129)) }))
    ∷ at 6 0 6 (Send orders.Total atoms.Weak (record { items = (97 ∷ []) }))
    ∷ at 5 0 5 (Reference 5 5)
    ∷ at 5 0 5 First
    ∷ []

not_up_rows : text_of (rows_of no_entries team_a not_up) ≡ codes "1 0 5 - 0 0.0 0 0 start\n2 0 5 5 0 0.0 0 0 done\n3 0 5 6 0 0.0 0 0 refused not_up\n+ send 1 to 1 sync\n+ send 2 to 2 sync\n4 0 5 6 0 0.0 0 0 refused too_long\n"
unfolding digits is_up step kind_rule timed_duties duties appended_list
not_up_rows = refl
