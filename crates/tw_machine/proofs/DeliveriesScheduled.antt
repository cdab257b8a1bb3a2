-- Schedules in which updates are delivered, computed. By a decision of three members a weak update may pass where its list has the
-- position, a strong one where two members acknowledged more than the position, and a strict one where all three did. Who makes a
-- decision acknowledges its length.
use Rattle.std.proofs.Common.{◌≡◌, refl, ℕ, ◌+◌, ◌-◌, nat_eq, if◌then◌else◌, Bool, true, ◌&&◌, is_none, List, [], ◌∷◌, ◌++◌, map, drop, length}
use Rattle.std.specs.List.{flat_map, range_with_len, list_all}
use Rattle.std.specs.Prelude.{codes}
use Rattle.std.specs.Fmt.{digits}
use Rattle.tw_machine.specs.Types.{Order, Atom, Act, Step}
use Rattle.tw_types.specs.declared.message.Order.TheVariants.{Unordered, Total, Timed}
use Rattle.tw_types.specs.declared.message.Atom.TheVariants.{Weak, Strong, Strict}
use Rattle.tw_types.specs.declared.step.Act.TheVariants as acts
use Rattle.tw_types.specs.declared.step.Act.TheVariants.{Tick, Recv, Look}
use Rattle.tw_types.specs.Examples.{team_a}
use Rattle.tw_types.specs.Appending.{appended_list, appended_kept}
use Rattle.tw_types.specs.Deliveries.{passes, run_passed, earlies, earlies_marked}
use Rattle.tw_types.specs.Flag.{is_up}
use Rattle.tw_types.specs.Row.{Row}
use Rattle.tw_machine.specs.Admissible.{cause_of}
use Rattle.tw_machine.specs.World.{world}
use Rattle.tw_machine.specs.Step.{step}
use Rattle.tw_machine.specs.Rules.{kind_rule}
use Rattle.tw_machine.specs.Duties.{timed_duties, duties}
use Rattle.tw_machine.specs.Rows.{rows_of}
use Rattle.tw_machine.specs.RowText.{row_line, pass_line, early_line, text_of}
use Rattle.tw_machine.proofs.Meanings.{puts}
use Rattle.tw_machine.proofs.SendsScheduled.{at, formed}

-- a send of these bytes
abbrev send : Order → Atom → List ℕ → Act
send order atom bytes = acts.Send order atom (record { items = bytes })

-- the payload that gives a small key a small value
abbrev pub put : (key value : ℕ) → List ℕ
put key value = 0 ∷ 0 ∷ 0 ∷ key ∷ 0 ∷ 0 ∷ 0 ∷ 0 ∷ 0 ∷ 0 ∷ 0 ∷ value ∷ []

-- the text of the rows from the step of this number on
abbrev rows_from : (number : ℕ) → List Step → List ℕ
rows_from number past = text_of (drop (number - 1) (rows_of puts team_a past))

-- the text of the rows that deliver something, without what they make and send
abbrev rows_that_deliver : List Step → List ℕ
rows_that_deliver past = flat_map delivered (rows_of puts team_a past)
  where
    delivered : Row → List ℕ
    delivered r = if nat_eq (length r.passes + length r.earlies) 0 then [] else row_line r ++ flat_map pass_line r.passes ++ flat_map early_line r.earlies

-- ---- An unordered weak update is delivered early as it is sent, and passed as such by its sender in its next decision.

abbrev weak_unordered : List Step
weak_unordered =
    at 732000 1 732000 Tick
    ∷ at 723000 1 723000 (Recv 17)
    ∷ at 722000 0 722000 Tick
    ∷ at 714000 1 714000 (send Unordered Weak (98 ∷ []))
    ∷ formed

weak_unordered_rows : rows_from 16 weak_unordered ≡ codes "16 1 699990 714000 1 7.1 0 0 sent 1\n+ early 1.699990.1 unordered weak 714000 62\n+ send 15 to 0 update 1.699990.1\n+ send 16 to 2 update 1.699990.1\n17 0 699990 722000 1 7.2 0 0 done\n+ made 7.2 start 701001 low 0 len 0 members 0.699990 1.699990 2.699990\n+ send 17 to 1 decision 7.2\n+ send 18 to 2 decision 7.2\n+ send 19 to 1 sync\n+ send 20 to 2 sync\n18 1 699990 723000 1 7.2 0 0 done\n+ send 21 to 0 sync\n+ send 22 to 2 sync\n19 1 699990 732000 1 7.3 1 1 done\n+ made 7.3 start 701001 low 0 len 1 members 0.699990 1.699990 2.699990\n+ pass 0 1.699990.1 unordered weak 714000 earlier 62\n+ send 23 to 0 decision 7.3\n+ send 24 to 2 decision 7.3\n"
unfolding digits is_up step kind_rule timed_duties duties appended_list appended_kept passes run_passed earlies earlies_marked
weak_unordered_rows = refl

-- ---- A total update that process 1 puts into 7.3, which 0 takes as it gets the payload, and 2 at once. The decisions that have it are 7.3
-- by 1, 7.4 by 2 and 7.5 by 0.

abbrev by_atomicity : Atom → List Step
by_atomicity atom =
    at 752000 0 752000 Tick
    ∷ at 743000 0 743000 (Recv 31)
    ∷ at 742000 2 742000 Tick
    ∷ at 735000 0 735000 (Recv 23)
    ∷ at 735000 0 735000 (Recv 26)
    ∷ at 734000 2 734000 (Recv 24)
    ∷ at 734000 2 734000 (Recv 16)
    ∷ at 734000 1 734000 (Recv 25)
    ∷ at 733000 0 733000 (Recv 23)
    ∷ at 732000 1 732000 Tick
    ∷ at 723000 1 723000 (Recv 17)
    ∷ at 722000 0 722000 Tick
    ∷ at 714000 1 714000 (send Total atom (97 ∷ []))
    ∷ formed

-- 7.4 has the acknowledgements of 1 and 2, so 2 passes it as it makes that, and 0 as it takes it.
strong_by_two : rows_that_deliver (by_atomicity Strong) ≡ codes "26 2 699990 742000 1 7.4 1 1 done\n+ pass 0 1.699990.1 total strong 714000 now 61\n27 0 699990 743000 1 7.4 1 1 done\n+ pass 0 1.699990.1 total strong 714000 now 61\n"
unfolding digits is_up step kind_rule timed_duties duties appended_list appended_kept passes run_passed earlies earlies_marked
strong_by_two = refl

-- that of 0 comes with 7.5
strict_by_three : rows_that_deliver (by_atomicity Strict) ≡ codes "28 0 699990 752000 1 7.5 1 1 done\n+ pass 0 1.699990.1 total strict 714000 now 61\n"
unfolding digits is_up step kind_rule timed_duties duties appended_list appended_kept passes run_passed earlies earlies_marked
strict_by_three = refl

-- ---- Timed updates of 1 and 2 with one stamp enter 7.4 thirty milliseconds later, that of 1 first. One of 0 with a smaller stamp, which
-- comes to the others afterwards, enters 7.5 as late, and is passed as such. The table that 1 has then is that of the other two.

abbrev one_comes_late : List Step
one_comes_late =
    at 756000 1 756000 Look
    ∷ at 755000 1 755000 (Recv 39)
    ∷ at 754000 0 754000 Tick
    ∷ at 746000 1 746000 (Recv 15)
    ∷ at 745000 1 745000 (Recv 32)
    ∷ at 745000 0 745000 (Recv 31)
    ∷ at 744000 2 744000 Tick
    ∷ at 733000 2 733000 (Recv 30)
    ∷ at 733000 0 733000 (Recv 29)
    ∷ at 732000 1 732000 Tick
    ∷ at 723000 2 723000 (Recv 22)
    ∷ at 723000 1 723000 (Recv 21)
    ∷ at 722000 0 722000 Tick
    ∷ at 715000 2 715000 (Recv 18)
    ∷ at 715000 1 715000 (Recv 20)
    ∷ at 715000 0 715000 (Recv 19)
    ∷ at 715000 0 715000 (Recv 17)
    ∷ at 714000 2 714000 (send Timed Weak (put 6 2))
    ∷ at 714000 1 714000 (send Timed Weak (put 5 1))
    ∷ at 713000 0 713000 (send Timed Weak (put 7 3))
    ∷ formed

passed_as_late : rows_that_deliver one_comes_late ≡ codes "29 2 699990 744000 1 7.4 2 2 done\n+ pass 0 1.699990.1 timed weak 714000 now 000000050000000000000001\n+ pass 1 2.699990.1 timed weak 714000 now 000000060000000000000002\n30 0 699990 745000 1 7.4 2 2 done\n+ pass 0 1.699990.1 timed weak 714000 now 000000050000000000000001\n+ pass 1 2.699990.1 timed weak 714000 now 000000060000000000000002\n31 1 699990 745000 1 7.4 2 2 done\n+ pass 0 1.699990.1 timed weak 714000 now 000000050000000000000001\n+ pass 1 2.699990.1 timed weak 714000 now 000000060000000000000002\n33 0 699990 754000 1 7.5 3 3 done\n+ pass 2 0.699990.1 timed weak 713000 late 000000070000000000000003\n34 1 699990 755000 1 7.5 3 3 done\n+ pass 2 0.699990.1 timed weak 713000 late 000000070000000000000003\n"
unfolding digits is_up step kind_rule timed_duties duties appended_list appended_kept passes run_passed earlies earlies_marked
passed_as_late = refl

a_late_one_is_not_applied : rows_from 35 one_comes_late ≡ codes "35 1 699990 756000 1 7.5 3 3 look\n+ entry 5 1\n+ entry 6 2\n"
unfolding digits is_up step kind_rule timed_duties duties appended_list appended_kept passes run_passed earlies earlies_marked
a_late_one_is_not_applied = refl

-- ---- One update of each order and atomicity, sent by 1 and received by 0 and 2 at once. The decisions 7.2 to 7.7 are made by 0, 1 and 2 in
-- turn, ten milliseconds apart, and reach the others one millisecond later. It enters 7.2 by 0, a timed one 7.5 by 0 as its stamp is
-- thirty milliseconds old; so the second acknowledgement comes with the decision after that, and the third with the next.

abbrev of_kind : Order → Atom → List Step
of_kind order atom =
    at 773000 1 773000 (Recv 42)
    ∷ at 773000 0 773000 (Recv 41)
    ∷ at 772000 2 772000 Tick
    ∷ at 763000 2 763000 (Recv 38)
    ∷ at 763000 0 763000 (Recv 37)
    ∷ at 762000 1 762000 Tick
    ∷ at 753000 2 753000 (Recv 34)
    ∷ at 753000 1 753000 (Recv 33)
    ∷ at 752000 0 752000 Tick
    ∷ at 743000 1 743000 (Recv 28)
    ∷ at 743000 0 743000 (Recv 27)
    ∷ at 742000 2 742000 Tick
    ∷ at 733000 2 733000 (Recv 26)
    ∷ at 733000 0 733000 (Recv 25)
    ∷ at 732000 1 732000 Tick
    ∷ at 723000 2 723000 (Recv 18)
    ∷ at 723000 1 723000 (Recv 17)
    ∷ at 722000 0 722000 Tick
    ∷ at 715000 2 715000 (Recv 16)
    ∷ at 715000 0 715000 (Recv 15)
    ∷ at 714000 1 714000 (send order atom (97 ∷ []))
    ∷ formed

unordered_weak : rows_that_deliver (of_kind Unordered Weak) ≡ codes "16 1 699990 714000 1 7.1 0 0 sent 1\n+ early 1.699990.1 unordered weak 714000 61\n17 0 699990 715000 1 7.1 0 0 done\n+ early 1.699990.1 unordered weak 714000 61\n18 2 699990 715000 1 7.1 0 0 done\n+ early 1.699990.1 unordered weak 714000 61\n19 0 699990 722000 1 7.2 1 1 done\n+ pass 0 1.699990.1 unordered weak 714000 earlier 61\n20 1 699990 723000 1 7.2 1 1 done\n+ pass 0 1.699990.1 unordered weak 714000 earlier 61\n21 2 699990 723000 1 7.2 1 1 done\n+ pass 0 1.699990.1 unordered weak 714000 earlier 61\n"
unfolding digits is_up step kind_rule timed_duties duties appended_list appended_kept passes run_passed earlies earlies_marked
unordered_weak = refl

unordered_strong : rows_that_deliver (of_kind Unordered Strong) ≡ codes "22 1 699990 732000 1 7.3 1 1 done\n+ pass 0 1.699990.1 unordered strong 714000 now 61\n23 0 699990 733000 1 7.3 1 1 done\n+ pass 0 1.699990.1 unordered strong 714000 now 61\n24 2 699990 733000 1 7.3 1 1 done\n+ pass 0 1.699990.1 unordered strong 714000 now 61\n"
unfolding digits is_up step kind_rule timed_duties duties appended_list appended_kept passes run_passed earlies earlies_marked
unordered_strong = refl

unordered_strict : rows_that_deliver (of_kind Unordered Strict) ≡ codes "25 2 699990 742000 1 7.4 1 1 done\n+ pass 0 1.699990.1 unordered strict 714000 now 61\n26 0 699990 743000 1 7.4 1 1 done\n+ pass 0 1.699990.1 unordered strict 714000 now 61\n27 1 699990 743000 1 7.4 1 1 done\n+ pass 0 1.699990.1 unordered strict 714000 now 61\n"
unfolding digits is_up step kind_rule timed_duties duties appended_list appended_kept passes run_passed earlies earlies_marked
unordered_strict = refl

total_weak : rows_that_deliver (of_kind Total Weak) ≡ codes "19 0 699990 722000 1 7.2 1 1 done\n+ pass 0 1.699990.1 total weak 714000 now 61\n20 1 699990 723000 1 7.2 1 1 done\n+ pass 0 1.699990.1 total weak 714000 now 61\n21 2 699990 723000 1 7.2 1 1 done\n+ pass 0 1.699990.1 total weak 714000 now 61\n"
unfolding digits is_up step kind_rule timed_duties duties appended_list appended_kept passes run_passed earlies earlies_marked
total_weak = refl

total_strong : rows_that_deliver (of_kind Total Strong) ≡ codes "22 1 699990 732000 1 7.3 1 1 done\n+ pass 0 1.699990.1 total strong 714000 now 61\n23 0 699990 733000 1 7.3 1 1 done\n+ pass 0 1.699990.1 total strong 714000 now 61\n24 2 699990 733000 1 7.3 1 1 done\n+ pass 0 1.699990.1 total strong 714000 now 61\n"
unfolding digits is_up step kind_rule timed_duties duties appended_list appended_kept passes run_passed earlies earlies_marked
total_strong = refl

total_strict : rows_that_deliver (of_kind Total Strict) ≡ codes "25 2 699990 742000 1 7.4 1 1 done\n+ pass 0 1.699990.1 total strict 714000 now 61\n26 0 699990 743000 1 7.4 1 1 done\n+ pass 0 1.699990.1 total strict 714000 now 61\n27 1 699990 743000 1 7.4 1 1 done\n+ pass 0 1.699990.1 total strict 714000 now 61\n"
unfolding digits is_up step kind_rule timed_duties duties appended_list appended_kept passes run_passed earlies earlies_marked
total_strict = refl

timed_weak : rows_that_deliver (of_kind Timed Weak) ≡ codes "28 0 699990 752000 1 7.5 1 1 done\n+ pass 0 1.699990.1 timed weak 714000 now 61\n29 1 699990 753000 1 7.5 1 1 done\n+ pass 0 1.699990.1 timed weak 714000 now 61\n30 2 699990 753000 1 7.5 1 1 done\n+ pass 0 1.699990.1 timed weak 714000 now 61\n"
unfolding digits is_up step kind_rule timed_duties duties appended_list appended_kept passes run_passed earlies earlies_marked
timed_weak = refl

timed_strong : rows_that_deliver (of_kind Timed Strong) ≡ codes "31 1 699990 762000 1 7.6 1 1 done\n+ pass 0 1.699990.1 timed strong 714000 now 61\n32 0 699990 763000 1 7.6 1 1 done\n+ pass 0 1.699990.1 timed strong 714000 now 61\n33 2 699990 763000 1 7.6 1 1 done\n+ pass 0 1.699990.1 timed strong 714000 now 61\n"
unfolding digits is_up step kind_rule timed_duties duties appended_list appended_kept passes run_passed earlies earlies_marked
timed_strong = refl

timed_strict : rows_that_deliver (of_kind Timed Strict) ≡ codes "34 2 699990 772000 1 7.7 1 1 done\n+ pass 0 1.699990.1 timed strict 714000 now 61\n35 0 699990 773000 1 7.7 1 1 done\n+ pass 0 1.699990.1 timed strict 714000 now 61\n36 1 699990 773000 1 7.7 1 1 done\n+ pass 0 1.699990.1 timed strict 714000 now 61\n"
unfolding digits is_up step kind_rule timed_duties duties appended_list appended_kept passes run_passed earlies earlies_marked
timed_strict = refl

-- ---- Four updates of 1 that stand behind one another. The strict one at the front waits for the third acknowledgement, in 7.4. The strong
-- one behind it is delivered early with the second, in 7.3, and the weak one at the end as it is sent or comes; the total one waits.

abbrev one_list : List Step
one_list =
    at 743000 1 743000 (Recv 34)
    ∷ at 743000 0 743000 (Recv 33)
    ∷ at 742000 2 742000 Tick
    ∷ at 733000 2 733000 (Recv 32)
    ∷ at 733000 0 733000 (Recv 31)
    ∷ at 732000 1 732000 Tick
    ∷ at 723000 2 723000 (Recv 24)
    ∷ at 723000 1 723000 (Recv 23)
    ∷ at 722000 0 722000 Tick
    ∷ at 715000 2 715000 (Recv 22)
    ∷ at 715000 2 715000 (Recv 20)
    ∷ at 715000 2 715000 (Recv 18)
    ∷ at 715000 2 715000 (Recv 16)
    ∷ at 715000 0 715000 (Recv 21)
    ∷ at 715000 0 715000 (Recv 19)
    ∷ at 715000 0 715000 (Recv 17)
    ∷ at 715000 0 715000 (Recv 15)
    ∷ at 714000 1 714000 (send Unordered Weak (100 ∷ []))
    ∷ at 714000 1 714000 (send Total Weak (99 ∷ []))
    ∷ at 714000 1 714000 (send Unordered Strong (98 ∷ []))
    ∷ at 714000 1 714000 (send Unordered Strict (97 ∷ []))
    ∷ formed

one_list_rows : rows_that_deliver one_list ≡ codes "19 1 699990 714000 1 7.1 0 0 sent 4\n+ early 1.699990.4 unordered weak 714000 64\n23 0 699990 715000 1 7.1 0 0 done\n+ early 1.699990.4 unordered weak 714000 64\n27 2 699990 715000 1 7.1 0 0 done\n+ early 1.699990.4 unordered weak 714000 64\n31 1 699990 732000 1 7.3 4 0 done\n+ early 1.699990.2 unordered strong 714000 62\n32 0 699990 733000 1 7.3 4 0 done\n+ early 1.699990.2 unordered strong 714000 62\n33 2 699990 733000 1 7.3 4 0 done\n+ early 1.699990.2 unordered strong 714000 62\n34 2 699990 742000 1 7.4 4 4 done\n+ pass 0 1.699990.1 unordered strict 714000 now 61\n+ pass 1 1.699990.2 unordered strong 714000 earlier 62\n+ pass 2 1.699990.3 total weak 714000 now 63\n+ pass 3 1.699990.4 unordered weak 714000 earlier 64\n35 0 699990 743000 1 7.4 4 4 done\n+ pass 0 1.699990.1 unordered strict 714000 now 61\n+ pass 1 1.699990.2 unordered strong 714000 earlier 62\n+ pass 2 1.699990.3 total weak 714000 now 63\n+ pass 3 1.699990.4 unordered weak 714000 earlier 64\n36 1 699990 743000 1 7.4 4 4 done\n+ pass 0 1.699990.1 unordered strict 714000 now 61\n+ pass 1 1.699990.2 unordered strong 714000 earlier 62\n+ pass 2 1.699990.3 total weak 714000 now 63\n+ pass 3 1.699990.4 unordered weak 714000 earlier 64\n"
unfolding digits is_up step kind_rule timed_duties duties appended_list appended_kept passes run_passed earlies earlies_marked
one_list_rows = refl

-- ---- A strong update that 1 and 2 have when 2 makes group 8 is below the window of 8.0, which they acknowledge with 8.0 and 8.1. It is
-- passed once the group has started, in the first step with duties: a look has none, and a refused send has.

abbrev below_the_window : List Step
below_the_window =
    at 1112001 1 1112001 (send Total Weak (map (λ i. 97) (range_with_len 0 129)))
    ∷ at 1112001 1 1112001 Look
    ∷ at 1112000 1 1112000 Look
    ∷ at 860000 1 860000 Tick
    ∷ at 851000 1 851000 (Recv 33)
    ∷ at 850000 2 850000 Tick
    ∷ at 824000 2 824000 (Recv 29)
    ∷ at 823000 1 823000 (Recv 26)
    ∷ at 822001 2 822001 Tick
    ∷ at 723000 2 723000 (Recv 18)
    ∷ at 723000 1 723000 (Recv 17)
    ∷ at 722000 0 722000 Tick
    ∷ at 715000 2 715000 (Recv 16)
    ∷ at 715000 0 715000 (Recv 15)
    ∷ at 714000 1 714000 (send Total Strong (97 ∷ []))
    ∷ formed

below_the_window_rows : rows_from 25 below_the_window ≡ codes "25 2 699990 850000 0 8.0 1 0 done\n+ made 8.0 start 1112001 low 1 len 1 members 1.699990 2.699990\n+ send 32 to 0 decision 8.0\n+ send 33 to 1 decision 8.0\n+ send 34 to 0 sync\n+ send 35 to 1 sync\n26 1 699990 851000 0 8.0 1 0 done\n+ send 36 to 0 sync\n+ send 37 to 2 sync\n27 1 699990 860000 0 8.1 1 0 done\n+ made 8.1 start 1112001 low 1 len 1 members 1.699990 2.699990\n+ send 38 to 0 decision 8.1\n+ send 39 to 2 decision 8.1\n28 1 699990 1112000 0 8.1 1 0 look\n29 1 699990 1112001 1 8.1 1 0 look\n30 1 699990 1112001 1 8.1 1 1 refused too_long\n+ pass 0 1.699990.1 total strong 714000 now 61\n+ send 40 to 0 decision 8.1\n+ send 41 to 2 decision 8.1\n+ send 42 to 0 sync\n+ send 43 to 2 sync\n"
unfolding digits is_up step kind_rule timed_duties duties appended_list appended_kept passes run_passed earlies earlies_marked
below_the_window_rows = refl

-- ---- Process 0 puts its own update into 7.2, of which nothing reaches the others. They make group 8 without it, and another one has its
-- position.

abbrev pub lost : Atom → List Step
lost atom =
    at 1112001 2 1112001 (send Total Weak (put 5 7))
    ∷ at 1112001 0 1112001 Look
    ∷ at 1112000 0 1112000 Look
    ∷ at 861000 2 861000 (Recv 35)
    ∷ at 860000 1 860000 Tick
    ∷ at 851000 1 851000 (Recv 29)
    ∷ at 850000 2 850000 Tick
    ∷ at 814000 2 814000 (Recv 25)
    ∷ at 813000 1 813000 (Recv 22)
    ∷ at 812001 2 812001 Tick
    ∷ at 722000 0 722000 Tick
    ∷ at 721000 0 721000 (send Total atom (put 5 9))
    ∷ formed

a_weak_one_was_passed : rows_that_deliver (lost Weak) ≡ codes "17 0 699990 722000 1 7.2 1 1 done\n+ pass 0 0.699990.1 total weak 721000 now 000000050000000000000009\n27 2 699990 1112001 1 8.2 1 1 sent 1\n+ pass 0 2.699990.1 total weak 1112001 now 000000050000000000000007\n"
unfolding digits is_up step kind_rule timed_duties duties appended_list appended_kept passes run_passed earlies earlies_marked
a_weak_one_was_passed = refl

-- only 0 acknowledged it
a_strong_one_never : rows_that_deliver (lost Strong) ≡ codes "27 2 699990 1112001 1 8.2 1 1 sent 1\n+ pass 0 2.699990.1 total weak 1112001 now 000000050000000000000007\n"
unfolding digits is_up step kind_rule timed_duties duties appended_list appended_kept passes run_passed earlies earlies_marked
a_strong_one_never = refl

-- 0 is up until the support of 2 in 7.1 ends, and no longer when group 8 starts; what it applied it shows at both looks
the_looks : rows_from 25 (lost Weak) ≡ codes "25 0 699990 1112000 1 7.2 1 1 look\n+ entry 5 9\n26 0 699990 1112001 0 7.2 1 1 look\n+ entry 5 9\n27 2 699990 1112001 1 8.2 1 1 sent 1\n+ made 8.2 start 1112001 low 0 len 1 members 1.699990 2.699990\n+ pass 0 2.699990.1 total weak 1112001 now 000000050000000000000007\n+ send 36 to 0 update 2.699990.1\n+ send 37 to 1 update 2.699990.1\n+ send 38 to 0 decision 8.2\n+ send 39 to 1 decision 8.2\n+ send 40 to 0 sync\n+ send 41 to 1 sync\n"
unfolding digits is_up step kind_rule timed_duties duties appended_list appended_kept passes run_passed earlies earlies_marked
the_looks = refl

-- ---- In one step 2 sends an update, makes 7.4, which has the third acknowledgement of the first update, and both of its own, passes the
-- first one, and delivers its second one early, for its own strict one stands before that.

abbrev all_in_one_step : List Step
all_in_one_step =
    at 742000 2 742000 (send Unordered Weak (99 ∷ []))
    ∷ at 735000 2 735000 (send Total Strict (98 ∷ []))
    ∷ at 733000 2 733000 (Recv 26)
    ∷ at 732000 1 732000 Tick
    ∷ at 723000 2 723000 (Recv 18)
    ∷ at 723000 1 723000 (Recv 17)
    ∷ at 722000 0 722000 Tick
    ∷ at 715000 2 715000 (Recv 16)
    ∷ at 715000 0 715000 (Recv 15)
    ∷ at 714000 1 714000 (send Total Strict (97 ∷ []))
    ∷ formed

all_in_one_step_rows : rows_from 25 all_in_one_step ≡ codes "25 2 699990 742000 1 7.4 3 1 sent 2\n+ made 7.4 start 701001 low 1 len 3 members 0.699990 1.699990 2.699990\n+ pass 0 1.699990.1 total strict 714000 now 61\n+ early 2.699990.2 unordered weak 742000 63\n+ send 29 to 0 update 2.699990.2\n+ send 30 to 1 update 2.699990.2\n+ send 31 to 0 decision 7.4\n+ send 32 to 1 decision 7.4\n"
unfolding digits is_up step kind_rule timed_duties duties appended_list appended_kept passes run_passed earlies earlies_marked
all_in_one_step_rows = refl

-- ---- An update that comes again after its early delivery, and again after its pass, gives nothing.

abbrev comes_again : List Step
comes_again =
    at 723000 0 723000 (Recv 15)
    ∷ at 722000 0 722000 Tick
    ∷ at 716000 0 716000 (Recv 15)
    ∷ at 715000 0 715000 (Recv 15)
    ∷ at 714000 1 714000 (send Unordered Weak (97 ∷ []))
    ∷ formed

comes_again_rows : rows_from 17 comes_again ≡ codes "17 0 699990 715000 1 7.1 0 0 done\n+ early 1.699990.1 unordered weak 714000 61\n18 0 699990 716000 1 7.1 0 0 dropped old\n19 0 699990 722000 1 7.2 1 1 done\n+ made 7.2 start 701001 low 0 len 1 members 0.699990 1.699990 2.699990\n+ pass 0 1.699990.1 unordered weak 714000 earlier 61\n+ send 17 to 1 decision 7.2\n+ send 18 to 2 decision 7.2\n+ send 19 to 1 sync\n+ send 20 to 2 sync\n20 0 699990 723000 1 7.2 1 1 dropped old\n"
unfolding digits is_up step kind_rule timed_duties duties appended_list appended_kept passes run_passed earlies earlies_marked
comes_again_rows = refl

-- ---- Each of these schedules is admissible.

abbrev is_admissible : List Step → Bool
is_admissible [] = true
is_admissible (s ∷ past) = is_admissible past && is_none (cause_of team_a (world team_a past).sent past s)

abbrev schedules : List (List Step)
schedules =
    weak_unordered
    ∷ by_atomicity Strong
    ∷ by_atomicity Strict
    ∷ one_comes_late
    ∷ of_kind Unordered Weak
    ∷ of_kind Unordered Strong
    ∷ of_kind Unordered Strict
    ∷ of_kind Total Weak
    ∷ of_kind Total Strong
    ∷ of_kind Total Strict
    ∷ of_kind Timed Weak
    ∷ of_kind Timed Strong
    ∷ of_kind Timed Strict
    ∷ one_list
    ∷ below_the_window
    ∷ lost Weak
    ∷ lost Strong
    ∷ all_in_one_step
    ∷ comes_again
    ∷ []

all_admissible : list_all is_admissible schedules ≡ true
unfolding is_up step kind_rule timed_duties duties appended_list appended_kept passes run_passed earlies earlies_marked
all_admissible = refl
