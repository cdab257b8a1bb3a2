-- The clauses of safe rows, evaluated on rows written by hand: rows that meet all seven, and for each sentence of each clause
-- rows that break that clause and meet the other six.
use Rattle.std.proofs.Common.{◌≡◌, refl, true, false, List, [], ◌∷◌, Some, None}
use Rattle.tw_types.specs.declared.message.Order.TheVariants.{Unordered, Timed}
use Rattle.tw_types.specs.declared.message.Atom.TheVariants.{Weak, Strong}
use Rattle.tw_types.specs.Row.{Row}
use Rattle.tw_types.specs.declared.outputs.How.TheVariants.{Now, Earlier, Late}
use Rattle.tw_machine.specs.Started.{started_at}
use Rattle.tw_machine.specs.SafeRows.{SafeRows}
use Rattle.tw_machine.proofs.SafeWords.{Meets, meets, team, row, member, everyone, making, up, long, passing, early, looking, entry, update, pass, seven, strong_update, strict_update, weak_update}

-- All seven are met: two processes are up at one reading and pass the same; process 2 delivered the weak update early.
abbrev all_met : List Row
all_met = seven everyone (
    early weak_update (long 2 (row 3 2 105 7))
    ∷ up (passing (pass 0 strong_update Now ∷ pass 1 strict_update Now ∷ pass 2 weak_update Now ∷ []) (long 3 (row 4 0 110 7)))
    ∷ up (passing (pass 0 strong_update Now ∷ pass 1 strict_update Now ∷ pass 2 weak_update Earlier ∷ []) (long 3 (row 5 2 110 7)))
    ∷ looking 3 (entry 1 2 ∷ []) (long 3 (row 6 0 115 7)) ∷ looking 3 (entry 1 2 ∷ []) (long 3 (row 7 2 120 7)) ∷ [])

all_met_tested : Meets team all_met true true true true true true true
all_met_tested = meets team all_met true true true true true true true refl

all_met_safe : SafeRows team all_met
all_met_safe = record {
  one_started_group = all_met_tested.one_started_group;
  same_deliveries = all_met_tested.same_deliveries;
  strong_last = all_met_tested.strong_last;
  backed = all_met_tested.backed;
  timed_order = all_met_tested.timed_order;
  equal_tables = all_met_tested.equal_tables;
  leased_support = all_met_tested.leased_support;
}

-- One started group at a reading.

-- two processes are up at one reading in two groups; group 8 has started
abbrev two_groups : List Row
two_groups = seven everyone (making 0 105 everyone (row 3 0 100 8) ∷ making 1 105 everyone (row 4 1 102 8)
    ∷ up (row 5 0 110 8) ∷ up (row 6 2 110 7) ∷ [])

two_groups_tested : Meets team two_groups false true true true true true true
two_groups_tested = meets team two_groups false true true true true true true refl

-- a process is up before its group starts
abbrev too_soon : List Row
too_soon = seven everyone (up (row 3 0 99 7) ∷ [])

too_soon_tested : Meets team too_soon false true true true true true true
too_soon_tested = meets team too_soon false true true true true true true refl

-- the group has one member
abbrev minority : List Row
minority = seven (member 0 ∷ []) (up (row 3 0 110 7) ∷ [])

minority_tested : Meets team minority false true true true true true true
minority_tested = meets team minority false true true true true true true refl

-- the group names process 2 in another incarnation
abbrev outsider : List Row
outsider = seven (member 0 ∷ member 1 ∷ record { who = 2; incarnation = 4 } ∷ []) (up (row 3 2 110 7) ∷ [])

outsider_tested : Meets team outsider false true true true true true true
outsider_tested = meets team outsider false true true true true true true refl

-- Same deliveries in one group.

-- two processes of a group pass different updates at a position
abbrev two_updates : List Row
two_updates = passing (pass 0 weak_update Now ∷ []) (row 1 0 110 7) ∷ passing (pass 0 (update 1 Unordered Weak 70) Now ∷ []) (row 2 1 110 7) ∷ []

two_updates_tested : Meets team two_updates true false true true true true true
two_updates_tested = meets team two_updates true false true true true true true refl

-- one passes an update as late, and another doesn't
abbrev late_for_one : List Row
late_for_one = passing (pass 0 (update 1 Timed Weak 70) Now ∷ []) (row 1 0 110 7) ∷ passing (pass 0 (update 1 Timed Weak 70) Late ∷ []) (row 2 1 110 7) ∷ []

late_for_one_tested : Meets team late_for_one true false true true true true true
late_for_one_tested = meets team late_for_one true false true true true true true refl

-- what was passed in an earlier group counts, for the two are of one group in the end
abbrev passed_before : List Row
passed_before = passing (pass 0 weak_update Now ∷ []) (row 1 0 110 7) ∷ passing (pass 0 (update 1 Unordered Weak 70) Now ∷ []) (row 2 1 110 6) ∷ row 3 1 120 7 ∷ []

passed_before_tested : Meets team passed_before true false true true true true true
passed_before_tested = meets team passed_before true false true true true true true refl

-- what was delivered early is delivered again
abbrev twice : List Row
twice = early weak_update (row 1 0 110 7) ∷ passing (pass 0 weak_update Now ∷ []) (row 2 0 120 7) ∷ []

twice_tested : Meets team twice true false true true true true true
twice_tested = meets team twice true false true true true true true refl

-- passed as delivered earlier in the row of its early line
abbrev never_early : List Row
never_early = early weak_update (passing (pass 0 weak_update Earlier ∷ []) (row 1 0 110 7)) ∷ []

never_early_tested : Meets team never_early true false true true true true true
never_early_tested = meets team never_early true false true true true true true refl

-- Strong deliveries last.

-- a later group has another update at the position of a strong one
abbrev replaced : List Row
replaced = long 1 (row 1 1 100 7) ∷ passing (pass 0 strong_update Now ∷ []) (long 1 (row 2 0 110 7)) ∷ passing (pass 0 weak_update Now ∷ []) (row 3 1 120 8) ∷ []

replaced_tested : Meets team replaced true true false true true true true
replaced_tested = meets team replaced true true false true true true true refl

-- the same, with the row of the later group in front
abbrev replaced_in_front : List Row
replaced_in_front = passing (pass 0 weak_update Now ∷ []) (row 1 2 90 8) ∷ long 1 (row 2 1 100 7) ∷ passing (pass 0 strong_update Now ∷ []) (long 1 (row 3 0 110 7)) ∷ []

replaced_in_front_tested : Meets team replaced_in_front true true false true true true true
replaced_in_front_tested = meets team replaced_in_front true true false true true true true refl

-- an update that was delivered early as strong has two positions later
abbrev two_places : List Row
two_places = early strong_update (row 1 0 90 7) ∷ long 2 (row 2 1 100 8) ∷ passing (pass 0 strong_update Now ∷ []) (long 2 (row 3 2 110 8))
    ∷ passing (pass 1 strong_update Now ∷ []) (long 2 (row 4 1 120 8)) ∷ []

two_places_tested : Meets team two_places true true false true true true true
two_places_tested = meets team two_places true true false true true true true refl

-- it is passed as late in one group, and a greater group has another update in its place
abbrev late_place : List Row
late_place = early strong_update (row 1 0 90 7) ∷ passing (pass 0 strong_update Late ∷ []) (row 2 1 110 8) ∷ passing (pass 0 weak_update Now ∷ []) (row 3 2 120 9) ∷ []

late_place_tested : Meets team late_place true true false true true true true
late_place_tested = meets team late_place true true false true true true true refl

-- Backed deliveries.

-- a strong update is in the list of one process alone
abbrev alone : List Row
alone = passing (pass 0 strong_update Now ∷ []) (long 1 (row 1 0 110 7)) ∷ long 1 (row 2 1 120 7) ∷ []

alone_tested : Meets team alone true true true false true true true
alone_tested = meets team alone true true true false true true true refl

-- a strict update isn't in the list of each member
abbrev not_all : List Row
not_all = seven everyone (passing (pass 0 strict_update Now ∷ []) (long 1 (row 3 0 110 7)) ∷ [])

not_all_tested : Meets team not_all true true true false true true true
not_all_tested = meets team not_all true true true false true true true refl

-- member 2 has it in another incarnation alone
abbrev lost : List Row
lost = seven everyone (record (long 1 (row 3 2 105 7)) { incarnation = 6 } ∷ passing (pass 0 strict_update Now ∷ []) (long 1 (row 4 0 110 7)) ∷ [])

lost_tested : Meets team lost true true true false true true true
lost_tested = meets team lost true true true false true true true refl

-- Timed order.

-- a later row passes an update with a lower stamp
abbrev falling : List Row
falling = passing (pass 0 (update 0 Timed Weak 60) Now ∷ []) (row 1 0 110 7) ∷ passing (pass 1 (update 1 Timed Weak 50) Now ∷ []) (row 2 0 120 7) ∷ []

falling_tested : Meets team falling true true true true false true true
falling_tested = meets team falling true true true true false true true refl

-- one row does, with equal stamps and a lower proposer
abbrev falling_in_row : List Row
falling_in_row = passing (pass 0 (update 1 Timed Weak 60) Now ∷ pass 1 (update 0 Timed Weak 60) Now ∷ []) (row 1 0 110 7) ∷ []

falling_in_row_tested : Meets team falling_in_row true true true true false true true
falling_in_row_tested = meets team falling_in_row true true true true false true true refl

-- Equal tables.

-- two looks after as many passes show two values of a key
abbrev two_tables : List Row
two_tables = looking 1 (entry 1 2 ∷ []) (row 1 0 110 7) ∷ looking 1 (entry 1 3 ∷ []) (row 2 1 120 7) ∷ []

two_tables_tested : Meets team two_tables true true true true true false true
two_tables_tested = meets team two_tables true true true true true false true refl

-- Leased support.

-- one process alone supports the group
abbrev unsupported : List Row
unsupported = making 0 100 everyone (row 1 0 90 7) ∷ up (making 1 100 everyone (row 2 0 110 7)) ∷ making 2 100 everyone (row 3 1 120 7) ∷ []

unsupported_tested : Meets team unsupported true true true true true true false
unsupported_tested = meets team unsupported true true true true true true false refl

-- the support of process 1, of reading 100, reached to 400100
abbrev expired : List Row
expired = seven everyone (up (making 2 100 everyone (row 3 0 400101 7)) ∷ [])

expired_tested : Meets team expired true true true true true true false
expired_tested = meets team expired true true true true true true false refl

-- What looks broken and isn't.

-- up without a reading
abbrev no_reading : List Row
no_reading = record (up (row 1 0 110 7)) { reading = None } ∷ []

no_reading_tested : Meets team no_reading true true true true true true true
no_reading_tested = meets team no_reading true true true true true true true refl

-- another group has another weak update at the position
abbrev weak_replaced : List Row
weak_replaced = passing (pass 0 weak_update Now ∷ []) (row 1 0 110 7) ∷ passing (pass 0 (update 1 Unordered Weak 70) Now ∷ []) (row 2 1 120 8) ∷ []

weak_replaced_tested : Meets team weak_replaced true true true true true true true
weak_replaced_tested = meets team weak_replaced true true true true true true true refl

-- a process delivers an update again in another incarnation, and a timed one of a lower stamp
abbrev born_again : List Row
born_again = passing (pass 0 (update 1 Timed Weak 50) Now ∷ pass 1 (update 0 Timed Weak 60) Now ∷ []) (row 1 0 110 7)
    ∷ record (passing (pass 0 (update 1 Timed Weak 50) Now ∷ []) (row 2 0 120 7)) { incarnation = 6 } ∷ []

born_again_tested : Meets team born_again true true true true true true true
born_again_tested = meets team born_again true true true true true true true refl

-- a strong update that is passed as late needs no backing, and a greater group may have another in its place
abbrev late_strong : List Row
late_strong = passing (pass 0 (update 1 Timed Strong 50) Late ∷ []) (row 1 0 110 7) ∷ passing (pass 0 weak_update Now ∷ []) (row 2 1 120 8) ∷ []

late_strong_tested : Meets team late_strong true true true true true true true
late_strong_tested = meets team late_strong true true true true true true true refl

-- two tables after a different number of passes
abbrev more_passed : List Row
more_passed = looking 1 (entry 1 2 ∷ []) (row 1 0 110 7) ∷ looking 2 (entry 1 3 ∷ []) (row 2 1 120 7) ∷ []

more_passed_tested : Meets team more_passed true true true true true true true
more_passed_tested = meets team more_passed true true true true true true true refl

-- The started group at a reading.

abbrev starts : List Row
starts = making 0 105 everyone (row 1 0 90 9) ∷ making 0 103 [] (row 2 1 90 9) ∷ making 1 90 everyone (row 3 0 100 7) ∷ making 0 100 everyone (row 4 0 100 8) ∷ []

-- group 7 has no line of turn 0, and of the two lines of group 9 the first counts
none_started : started_at starts 99 ≡ None
none_started = refl

eight_started : started_at starts 104 ≡ Some 8
eight_started = refl

nine_started : started_at starts 105 ≡ Some 9
nine_started = refl
