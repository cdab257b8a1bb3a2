-- More rows written by hand, at the edges of the clauses of safe rows: each tells a clause from one that is nearly it.
use Rattle.std.proofs.Common.{refl, true, false, List, [], ◌∷◌}
use Rattle.tw_types.specs.declared.message.Order.TheVariants.{Unordered, Total, Timed}
use Rattle.tw_types.specs.declared.message.Atom.TheVariants.{Weak, Strict}
use Rattle.tw_types.specs.Row.{Row}
use Rattle.tw_types.specs.declared.outputs.How.TheVariants.{Now, Earlier, Late}
use Rattle.tw_machine.proofs.SafeWords.{Meets, meets, team, row, member, everyone, telling, making, up, long, passing, early, showing, looking, entry, update, pass, seven, strong_update, strict_update, weak_of}

-- One started group at a reading.

-- up at the very reading at which the group starts
abbrev at_the_start : List Row
at_the_start = seven everyone (up (row 3 1 100 7) ∷ [])

at_the_start_tested : Meets team at_the_start true true true true true true true
at_the_start_tested = meets team at_the_start true true true true true true true refl

-- a process that the group does not name
abbrev not_named : List Row
not_named =
    making 0 100 (member 0 ∷ member 1 ∷ []) (row 1 0 90 7)
    ∷ making 1 100 (member 0 ∷ member 1 ∷ []) (long 2 (row 2 1 100 7))
    ∷ up (row 3 2 110 7) ∷ []

not_named_tested : Meets team not_named false true true true true true true
not_named_tested = meets team not_named false true true true true true true refl

-- of two lines of turn 0 the first tells the members, one of them
abbrev first_members : List Row
first_members =
    making 0 100 (member 0 ∷ []) (row 1 0 90 7)
    ∷ making 0 100 everyone (row 2 0 90 7)
    ∷ making 1 100 everyone (long 2 (row 3 1 100 7))
    ∷ up (row 4 0 110 7) ∷ []

first_members_tested : Meets team first_members false true true true true true true
first_members_tested = meets team first_members false true true true true true true refl

-- a greater group has started at a greater reading, not above this one
abbrev later_group : List Row
later_group = seven everyone (up (row 3 0 110 7) ∷ making 0 105 everyone (row 4 2 105 8) ∷ [])

later_group_tested : Meets team later_group false true true true true true true
later_group_tested = meets team later_group false true true true true true true refl

-- nobody made a group 0, and nobody supports it
abbrev no_group_zero : List Row
no_group_zero = up (row 1 0 110 0) ∷ []

no_group_zero_tested : Meets team no_group_zero false true true true true true false
no_group_zero_tested = meets team no_group_zero false true true true true true false refl

-- Same deliveries in one group.

-- one row passes two updates at a position
abbrev two_in_one_row : List Row
two_in_one_row = passing (pass 0 (weak_of 0) Now ∷ pass 0 (weak_of 1) Now ∷ []) (row 1 0 1 7) ∷ []

two_in_one_row_tested : Meets team two_in_one_row true false true true true true true
two_in_one_row_tested = meets team two_in_one_row true false true true true true true refl

-- two incarnations of a process pass different updates in one group
abbrev two_lives_in_one_group : List Row
two_lives_in_one_group =
    passing (pass 0 (weak_of 0) Now ∷ []) (row 1 0 1 7)
    ∷ passing (pass 0 (weak_of 1) Now ∷ []) (record (row 2 0 2 7) { incarnation = 6 }) ∷ []

two_lives_in_one_group_tested : Meets team two_lives_in_one_group true false true true true true true
two_lives_in_one_group_tested = meets team two_lives_in_one_group true false true true true true true refl

-- and in two groups they may
abbrev two_lives_in_two_groups : List Row
two_lives_in_two_groups =
    passing (pass 0 (weak_of 0) Now ∷ []) (row 1 0 1 7)
    ∷ passing (pass 0 (weak_of 1) Now ∷ []) (record (row 2 0 2 8) { incarnation = 6 }) ∷ []

two_lives_in_two_groups_tested : Meets team two_lives_in_two_groups true true true true true true true
two_lives_in_two_groups_tested = meets team two_lives_in_two_groups true true true true true true true refl

-- processes without a group may pass different updates
abbrev without_a_group : List Row
without_a_group = passing (pass 0 (weak_of 0) Now ∷ []) (row 1 0 1 0) ∷ passing (pass 0 (weak_of 1) Now ∷ []) (row 2 1 2 0) ∷ []

without_a_group_tested : Meets team without_a_group true true true true true true true
without_a_group_tested = meets team without_a_group true true true true true true true refl

-- two processes were of one group, and pass different updates in different groups later
abbrev parted_before : List Row
parted_before =
    row 1 0 1 7
    ∷ row 2 1 1 7
    ∷ passing (pass 0 (weak_of 0) Now ∷ []) (row 3 0 2 8)
    ∷ passing (pass 0 (weak_of 1) Now ∷ []) (row 4 1 3 9) ∷ []

parted_before_tested : Meets team parted_before true true true true true true true
parted_before_tested = meets team parted_before true true true true true true true refl

-- one passes in an earlier group, the other in a later one, and then they are of one group
abbrev met_again : List Row
met_again =
    row 1 0 1 7
    ∷ passing (pass 0 (weak_of 0) Now ∷ []) (row 2 1 2 7)
    ∷ passing (pass 0 (weak_of 1) Now ∷ []) (row 3 0 3 8)
    ∷ row 4 1 4 8 ∷ []

met_again_tested : Meets team met_again true false true true true true true
met_again_tested = meets team met_again true false true true true true true refl

-- one delivers with its pass what the other delivered early
abbrev early_for_one : List Row
early_for_one =
    early (weak_of 0) (row 1 0 1 7)
    ∷ passing (pass 0 (weak_of 0) Earlier ∷ []) (row 2 0 2 7)
    ∷ passing (pass 0 (weak_of 0) Now ∷ []) (row 3 1 3 7) ∷ []

early_for_one_tested : Meets team early_for_one true true true true true true true
early_for_one_tested = meets team early_for_one true true true true true true true refl

-- one passes a weak update as late, and the other delivers it
abbrev late_in_one_group : List Row
late_in_one_group =
    passing (pass 0 (update 0 Timed Weak 50) Late ∷ []) (row 1 0 2 7)
    ∷ passing (pass 0 (update 0 Timed Weak 50) Now ∷ []) (row 2 1 3 7) ∷ []

late_in_one_group_tested : Meets team late_in_one_group true false true true true true true
late_in_one_group_tested = meets team late_in_one_group true false true true true true true refl

-- one update with two stamps
abbrev other_stamp : List Row
other_stamp =
    passing (pass 0 (weak_of 0) Now ∷ []) (row 1 0 1 7)
    ∷ passing (pass 0 (update 0 Unordered Weak 51) Now ∷ []) (row 2 1 2 7) ∷ []

other_stamp_tested : Meets team other_stamp true false true true true true true
other_stamp_tested = meets team other_stamp true false true true true true true refl

-- one update with two payloads
abbrev other_payload : List Row
other_payload =
    passing (pass 0 (weak_of 0) Now ∷ []) (row 1 0 1 7)
    ∷ passing (pass 0 (record (weak_of 0) { payload = [] }) Now ∷ []) (row 2 1 2 7) ∷ []

other_payload_tested : Meets team other_payload true false true true true true true
other_payload_tested = meets team other_payload true false true true true true true refl

-- one update that is weak for one and strict for the other
abbrev other_atomicity : List Row
other_atomicity =
    passing (pass 0 (weak_of 0) Now ∷ []) (row 1 0 1 7)
    ∷ passing (pass 0 (update 0 Unordered Strict 50) Now ∷ []) (row 2 1 2 7) ∷ []

other_atomicity_tested : Meets team other_atomicity true false false true true true true
other_atomicity_tested = meets team other_atomicity true false false true true true true refl

-- an update that was delivered early is delivered again with another payload
abbrev early_then_now : List Row
early_then_now =
    early (weak_of 0) (row 1 0 1 7)
    ∷ passing (pass 0 (record (weak_of 0) { payload = 9 ∷ [] }) Now ∷ []) (row 2 0 2 7) ∷ []

early_then_now_tested : Meets team early_then_now true false true true true true true
early_then_now_tested = meets team early_then_now true false true true true true true refl

-- in another incarnation it may be delivered again
abbrev early_in_a_life : List Row
early_in_a_life =
    early (weak_of 0) (row 1 0 1 7)
    ∷ passing (pass 0 (weak_of 0) Now ∷ []) (record (row 2 0 2 7) { incarnation = 6 }) ∷ []

early_in_a_life_tested : Meets team early_in_a_life true true true true true true true
early_in_a_life_tested = meets team early_in_a_life true true true true true true true refl

-- its early line comes in a later row
abbrev early_too_late : List Row
early_too_late = passing (pass 0 (weak_of 0) Earlier ∷ []) (row 1 0 1 7) ∷ early (weak_of 0) (row 2 0 2 7) ∷ []

early_too_late_tested : Meets team early_too_late true false true true true true true
early_too_late_tested = meets team early_too_late true false true true true true true refl

-- its early line is of another incarnation
abbrev early_of_another_life : List Row
early_of_another_life =
    early (weak_of 0) (row 1 0 1 7)
    ∷ passing (pass 0 (weak_of 0) Earlier ∷ []) (record (row 2 0 2 7) { incarnation = 6 }) ∷ []

early_of_another_life_tested : Meets team early_of_another_life true false true true true true true
early_of_another_life_tested = meets team early_of_another_life true false true true true true true refl

-- the early line before it is of another update
abbrev early_of_another_update : List Row
early_of_another_update = early (weak_of 1) (row 1 0 1 7) ∷ passing (pass 0 (weak_of 0) Earlier ∷ []) (row 2 0 2 7) ∷ []

early_of_another_update_tested : Meets team early_of_another_update true false true true true true true
early_of_another_update_tested = meets team early_of_another_update true false true true true true true refl

-- Strong deliveries last.

-- what is passed as strong without a group lasts too, and wants backing
abbrev strong_without_a_group : List Row
strong_without_a_group =
    passing (pass 0 strong_update Now ∷ []) (long 1 (row 1 0 1 0))
    ∷ long 1 (row 2 2 1 0)
    ∷ passing (pass 0 (weak_of 1) Now ∷ []) (row 3 1 2 7) ∷ []

strong_without_a_group_tested : Meets team strong_without_a_group true true false false true true true
strong_without_a_group_tested = meets team strong_without_a_group true true false false true true true refl

-- what is passed as late may be replaced
abbrev late_is_replaced : List Row
late_is_replaced = passing (pass 0 strong_update Late ∷ []) (row 1 0 1 7) ∷ passing (pass 0 (weak_of 1) Now ∷ []) (row 2 1 2 8) ∷ []

late_is_replaced_tested : Meets team late_is_replaced true true true true true true true
late_is_replaced_tested = meets team late_is_replaced true true true true true true true refl

-- a greater group passes another update as late in the place of a strong one
abbrev replaced_by_late : List Row
replaced_by_late =
    long 1 (row 1 2 1 7)
    ∷ passing (pass 0 strong_update Now ∷ []) (long 1 (row 2 0 1 7))
    ∷ passing (pass 0 (weak_of 1) Late ∷ []) (row 3 1 2 8) ∷ []

replaced_by_late_tested : Meets team replaced_by_late true true false true true true true
replaced_by_late_tested = meets team replaced_by_late true true false true true true true refl

-- and in the place of one that was delivered earlier
abbrev replaced_after_earlier : List Row
replaced_after_earlier =
    early strong_update (row 1 0 1 9)
    ∷ long 1 (row 2 2 2 7)
    ∷ passing (pass 0 strong_update Earlier ∷ []) (long 1 (row 3 0 3 7))
    ∷ passing (pass 0 (weak_of 1) Now ∷ []) (row 4 1 4 8) ∷ []

replaced_after_earlier_tested : Meets team replaced_after_earlier true true false true true true true
replaced_after_earlier_tested = meets team replaced_after_earlier true true false true true true true refl

-- a strict update that was delivered early has two positions in a greater group
abbrev early_strict_twice : List Row
early_strict_twice =
    early strict_update (row 1 0 1 7)
    ∷ passing (pass 0 strict_update Late ∷ pass 1 strict_update Late ∷ []) (row 2 1 2 8) ∷ []

early_strict_twice_tested : Meets team early_strict_twice true true false true true true true
early_strict_twice_tested = meets team early_strict_twice true true false true true true true refl

-- of a weak one that was delivered early nothing is asked
abbrev early_weak_is_replaced : List Row
early_weak_is_replaced =
    early (weak_of 0) (row 1 0 1 7)
    ∷ passing (pass 0 (weak_of 0) Late ∷ []) (row 2 1 2 8)
    ∷ passing (pass 0 (weak_of 1) Late ∷ []) (row 3 2 3 9) ∷ []

early_weak_is_replaced_tested : Meets team early_weak_is_replaced true true true true true true true
early_weak_is_replaced_tested = meets team early_weak_is_replaced true true true true true true true refl

-- the position of a strong one that was delivered early is taken in a greater group
abbrev early_place_taken : List Row
early_place_taken =
    early strong_update (row 1 0 1 7)
    ∷ passing (pass 0 strong_update Late ∷ []) (row 2 1 2 8)
    ∷ passing (pass 0 (weak_of 1) Late ∷ []) (row 3 2 3 9) ∷ []

early_place_taken_tested : Meets team early_place_taken true true false true true true true
early_place_taken_tested = meets team early_place_taken true true false true true true true refl

-- in a lower group it may have had another position
abbrev early_below : List Row
early_below =
    early strong_update (row 1 0 1 7)
    ∷ passing (pass 5 strong_update Late ∷ []) (row 2 1 2 6)
    ∷ passing (pass 0 strong_update Late ∷ []) (row 3 1 3 7) ∷ []

early_below_tested : Meets team early_below true true true true true true true
early_below_tested = meets team early_below true true true true true true true refl

-- an update is known by its id: its order, atomicity and payload may differ
abbrev early_with_another_text : List Row
early_with_another_text =
    early strong_update (row 1 0 1 7)
    ∷ passing (pass 0 (record (weak_of 0) { payload = 8 ∷ [] }) Late ∷ []) (row 2 1 2 8) ∷ []

early_with_another_text_tested : Meets team early_with_another_text true true true true true true true
early_with_another_text_tested = meets team early_with_another_text true true true true true true true refl

-- Backed deliveries.

-- the list of the other process does not reach the position
abbrev backed_by_a_shorter : List Row
backed_by_a_shorter = row 1 1 1 7 ∷ passing (pass 0 strong_update Now ∷ []) (long 1 (row 2 0 1 7)) ∷ []

backed_by_a_shorter_tested : Meets team backed_by_a_shorter true true true false true true true
backed_by_a_shorter_tested = meets team backed_by_a_shorter true true true false true true true refl

-- what was delivered earlier wants backing too
abbrev earlier_unbacked : List Row
earlier_unbacked =
    early strong_update (long 1 (row 1 0 1 7))
    ∷ passing (pass 0 strong_update Earlier ∷ []) (long 1 (row 2 0 2 7)) ∷ []

earlier_unbacked_tested : Meets team earlier_unbacked true true true false true true true
earlier_unbacked_tested = meets team earlier_unbacked true true true false true true true refl

-- one process has it in two incarnations
abbrev backed_by_two_lives : List Row
backed_by_two_lives =
    long 1 (record (row 1 0 1 7) { incarnation = 4 })
    ∷ passing (pass 0 strong_update Now ∷ []) (long 1 (row 2 0 1 7)) ∷ []

backed_by_two_lives_tested : Meets team backed_by_two_lives true true true false true true true
backed_by_two_lives_tested = meets team backed_by_two_lives true true true false true true true refl

-- a member has it in a greater group alone
abbrev strict_of_a_greater_group : List Row
strict_of_a_greater_group = seven everyone (long 1 (row 3 2 105 8) ∷ passing (pass 0 strict_update Now ∷ []) (long 1 (row 4 0 110 7)) ∷ [])

strict_of_a_greater_group_tested : Meets team strict_of_a_greater_group true true true false true true true
strict_of_a_greater_group_tested = meets team strict_of_a_greater_group true true true false true true true refl

-- Timed order.

-- two updates of one stamp, proposer and number
abbrev equal_marks : List Row
equal_marks =
    passing (pass 0 (update 0 Timed Weak 60) Now ∷ []) (row 1 0 1 0)
    ∷ passing (pass 1 (record (update 0 Timed Weak 60) { id = record { who = 0; incarnation = 6; seq = 1 } }) Now ∷ []) (row 2 0 2 0) ∷ []

equal_marks_tested : Meets team equal_marks true true true true false true true
equal_marks_tested = meets team equal_marks true true true true false true true refl

-- of one stamp and proposer the numbers decide
abbrev numbers_rise : List Row
numbers_rise =
    passing (pass 0 (update 0 Timed Weak 60) Now ∷ pass 1 (record (update 0 Timed Weak 60) { id = record { who = 0; incarnation = 5; seq = 2 } }) Now ∷ []) (row 1 0 1 7) ∷ []

numbers_rise_tested : Meets team numbers_rise true true true true true true true
numbers_rise_tested = meets team numbers_rise true true true true true true true refl

-- another incarnation begins anew
abbrev timed_in_another_life : List Row
timed_in_another_life =
    passing (pass 0 (update 0 Timed Weak 60) Now ∷ []) (row 1 0 1 7)
    ∷ passing (pass 1 (update 1 Timed Weak 50) Now ∷ []) (record (row 2 0 2 8) { incarnation = 6 }) ∷ []

timed_in_another_life_tested : Meets team timed_in_another_life true true true true true true true
timed_in_another_life_tested = meets team timed_in_another_life true true true true true true true refl

-- what was delivered earlier is outside the order
abbrev timed_but_earlier : List Row
timed_but_earlier =
    early (update 1 Timed Weak 50) (row 1 0 0 7)
    ∷ passing (pass 0 (update 0 Timed Weak 60) Now ∷ []) (row 2 0 1 7)
    ∷ passing (pass 1 (update 1 Timed Weak 50) Earlier ∷ []) (row 3 0 2 8) ∷ []

timed_but_earlier_tested : Meets team timed_but_earlier true true true true true true true
timed_but_earlier_tested = meets team timed_but_earlier true true true true true true true refl

-- and so is what is not timed
abbrev not_timed : List Row
not_timed =
    passing (pass 0 (update 0 Timed Weak 60) Now ∷ []) (row 1 0 1 7)
    ∷ passing (pass 1 (update 1 Total Weak 50) Now ∷ []) (row 2 0 2 8) ∷ []

not_timed_tested : Meets team not_timed true true true true true true true
not_timed_tested = meets team not_timed true true true true true true true refl

-- Equal tables.

-- two looks of one process
abbrev own_tables : List Row
own_tables = looking 1 (entry 1 2 ∷ []) (row 1 0 1 7) ∷ looking 1 [] (row 2 0 1 7) ∷ []

own_tables_tested : Meets team own_tables true true true true true false true
own_tables_tested = meets team own_tables true true true true true false true refl

-- two looks at two turns of a group
abbrev tables_of_two_turns : List Row
tables_of_two_turns = looking 1 (entry 1 2 ∷ []) (row 1 0 1 7) ∷ looking 1 (entry 1 3 ∷ []) (record (row 2 1 1 7) { turn = 4 }) ∷ []

tables_of_two_turns_tested : Meets team tables_of_two_turns true true true true true false true
tables_of_two_turns_tested = meets team tables_of_two_turns true true true true true false true refl

-- two looks at two lengths of the list
abbrev tables_of_two_lengths : List Row
tables_of_two_lengths = looking 1 (entry 1 2 ∷ []) (long 1 (row 1 0 1 7)) ∷ looking 1 (entry 1 3 ∷ []) (long 2 (row 2 1 1 7)) ∷ []

tables_of_two_lengths_tested : Meets team tables_of_two_lengths true true true true true false true
tables_of_two_lengths_tested = meets team tables_of_two_lengths true true true true true false true refl

-- in two groups the tables may differ
abbrev tables_of_two_groups : List Row
tables_of_two_groups = looking 1 (entry 1 2 ∷ []) (row 1 0 1 7) ∷ looking 1 (entry 1 3 ∷ []) (row 2 1 1 8) ∷ []

tables_of_two_groups_tested : Meets team tables_of_two_groups true true true true true true true
tables_of_two_groups_tested = meets team tables_of_two_groups true true true true true true true refl

-- and without a group
abbrev tables_without_a_group : List Row
tables_without_a_group = looking 1 (entry 1 2 ∷ []) (row 1 0 1 0) ∷ looking 1 (entry 1 3 ∷ []) (row 2 1 1 0) ∷ []

tables_without_a_group_tested : Meets team tables_without_a_group true true true true true true true
tables_without_a_group_tested = meets team tables_without_a_group true true true true true true true refl

-- and where one of the rows is no look
abbrev no_look : List Row
no_look = looking 1 (entry 1 2 ∷ []) (row 1 0 1 7) ∷ showing 1 (entry 1 3 ∷ []) (row 2 1 1 7) ∷ []

no_look_tested : Meets team no_look true true true true true true true
no_look_tested = meets team no_look true true true true true true true refl

-- Leased support.

-- a lease reaches to this very reading
abbrev lease_to_the_end : List Row
lease_to_the_end = making 0 100 everyone (row 1 0 100 7) ∷ telling 7 1 100 everyone (row 2 1 110 7) ∷ up (row 3 2 400100 7) ∷ []

lease_to_the_end_tested : Meets team lease_to_the_end true true true true true true true
lease_to_the_end_tested = meets team lease_to_the_end true true true true true true true refl

-- and not to the next one
abbrev lease_over : List Row
lease_over = making 0 100 everyone (row 1 0 100 7) ∷ telling 7 1 100 everyone (row 2 1 110 7) ∷ up (row 3 2 400101 7) ∷ []

lease_over_tested : Meets team lease_over true true true true true true false
lease_over_tested = meets team lease_over true true true true true true false refl

-- the row itself counts
abbrev support_in_its_row : List Row
support_in_its_row = making 0 100 everyone (row 1 0 90 7) ∷ up (telling 7 1 100 everyone (row 2 1 110 7)) ∷ []

support_in_its_row_tested : Meets team support_in_its_row true true true true true true true
support_in_its_row_tested = meets team support_in_its_row true true true true true true true refl

-- a later row does not
abbrev support_after : List Row
support_after = making 0 100 everyone (row 1 0 90 7) ∷ up (row 2 0 110 7) ∷ telling 7 1 100 everyone (row 3 1 111 7) ∷ []

support_after_tested : Meets team support_after true true true true true true false
support_after_tested = meets team support_after true true true true true true false refl

-- a decision of a greater group is no support
abbrev support_of_a_greater_group : List Row
support_of_a_greater_group =
    making 0 100 everyone (row 1 0 90 7)
    ∷ telling 8 1 100 everyone (row 2 1 95 7)
    ∷ up (row 3 0 110 7) ∷ []

support_of_a_greater_group_tested : Meets team support_of_a_greater_group true true true true true true false
support_of_a_greater_group_tested = meets team support_of_a_greater_group true true true true true true false refl

-- two incarnations are one process
abbrev support_of_two_lives : List Row
support_of_two_lives =
    making 0 100 everyone (row 1 0 90 7)
    ∷ telling 7 1 100 everyone (record (row 2 0 95 7) { incarnation = 6 })
    ∷ up (row 3 0 110 7) ∷ []

support_of_two_lives_tested : Meets team support_of_two_lives true true true true true true false
support_of_two_lives_tested = meets team support_of_two_lives true true true true true true false refl
