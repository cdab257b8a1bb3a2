-- The clauses of safe rows, evaluated on what processes deliver over two groups. Process 0 passes a weak update that nobody else
-- has; the others make group 8 without it, and another update has its position there. Here stand the rows of this that make, pass
-- or look or say that a process is up, written out by hand. They meet all seven clauses. If the pass line of process 0 said
-- `strong`, two of the clauses would be broken.
use Rattle.std.proofs.Common.{◌≡◌, refl, ℕ, Bool, true, false, ◌||◌, not, is_none, List, [], ◌∷◌, Option, Some, None, filter, length}
use Rattle.std.specs.Prelude.{nat_eq}
use Rattle.tw_types.specs.declared.message.Order.TheVariants.{Total}
use Rattle.tw_machine.specs.Types.{Atom, Member, UpdateId, RowAnswer}
use Rattle.tw_types.specs.declared.message.Atom.TheVariants.{Weak, Strong}
use Rattle.tw_types.specs.declared.outputs.How.TheVariants.{Now}
use Rattle.tw_types.specs.declared.row.RowAnswer.TheVariants.{Look, Done, Sent}
use Rattle.tw_types.specs.Appending.{appended_list, appended_kept}
use Rattle.tw_types.specs.Contents.{Contents, Decision, Election, Promise, Sync}
use Rattle.tw_types.specs.Contents as contents
use Rattle.tw_types.specs.Deliveries.{passes, run_passed, earlies, earlies_marked}
use Rattle.tw_types.specs.Flag.{is_up}
use Rattle.tw_types.specs.Row.{Row, Made, Update, Sending}
use Rattle.tw_machine.specs.Duties.{timed_duties, duties}
use Rattle.tw_machine.specs.Rows.{rows_of}
use Rattle.tw_machine.specs.Rules.{kind_rule}
use Rattle.tw_machine.specs.SafeRows.{SafeRows, StrongLast, Backed}
use Rattle.tw_machine.specs.Step.{step}
use Rattle.tw_machine.proofs.DeliveriesScheduled.{lost, put}
use Rattle.tw_machine.proofs.Meanings.{puts}
use Rattle.tw_machine.proofs.SafeTests.{is_look}
use Rattle.tw_machine.proofs.SafeWords.{Meets, meets, team, entry, pass}

-- a row by its columns, of a process that began at 699990
abbrev row : (step who reading : ℕ) (up : Bool) (group turn length passed : ℕ) → RowAnswer → Row
row step who reading up group turn length passed answer = record {
  step = step;
  who = who;
  incarnation = 699990;
  reading = Some reading;
  up = up;
  group = group;
  turn = turn;
  length = length;
  passed = passed;
  answer = answer;
  made = None;
  passes = [];
  earlies = [];
  sends = [];
  entries = [];
}

abbrev member : ℕ → Member
member who = record { who = who; incarnation = 699990 }

abbrev all_three : List Member
all_three = member 0 ∷ member 1 ∷ member 2 ∷ []

abbrev without_0 : List Member
without_0 = member 1 ∷ member 2 ∷ []

abbrev made : (group turn start low length : ℕ) → List Member → Option Made
made group turn start low length members = Some (record { group = group; turn = turn; start = start; low = low; length = length; members = members })

abbrev send : (number to : ℕ) → Contents → Sending
send number to contents = record { number = number; to = to; contents = contents }

-- the first update of a process
abbrev first_of : ℕ → UpdateId
first_of who = record { who = who; incarnation = 699990; seq = 1 }

abbrev total : (who : ℕ) → Atom → (stamp : ℕ) → List ℕ → Update
total who atom stamp payload = record { id = first_of who; order = Total; atom = atom; stamp = stamp; payload = payload }

-- The rows, with the atomicity that the pass line of process 0 says. Group 7 has all three and starts at 701001; the leases of 1 and 2
-- in it reach to 1102000 and 1112000, so group 8 starts at 1112001.
abbrev rows : Atom → List Row
rows atom =
    record (row 11 1 702000 false 7 0 0 0 Done) {
      made = made 7 0 701001 0 0 all_three;
      sends = send 11 0 (Decision 7 0) ∷ send 12 2 (Decision 7 0) ∷ [];
    }
    ∷ record (row 13 2 712000 true 7 1 0 0 Done) {
      made = made 7 1 701001 0 0 all_three;
      sends = send 13 0 (Decision 7 1) ∷ send 14 1 (Decision 7 1) ∷ [];
    }
    ∷ row 14 1 713000 true 7 1 0 0 Done
    ∷ row 15 0 713000 true 7 1 0 0 Done
    ∷ record (row 16 0 721000 true 7 1 0 0 (Sent 1)) {
      sends = send 15 1 (contents.Update (first_of 0)) ∷ send 16 2 (contents.Update (first_of 0)) ∷ send 17 1 Sync ∷ send 18 2 Sync ∷ [];
    }
    ∷ record (row 17 0 722000 true 7 2 1 1 Done) {
      made = made 7 2 701001 0 1 all_three;
      passes = pass 0 (total 0 atom 721000 (put 5 9)) Now ∷ [];
      sends = send 19 1 (Decision 7 2) ∷ send 20 2 (Decision 7 2) ∷ [];
    }
    ∷ record (row 18 2 812001 true 7 1 0 0 Done) {
      sends = send 21 0 (Election 8) ∷ send 22 1 (Election 8) ∷ send 23 0 Sync ∷ send 24 1 Sync ∷ [];
    }
    ∷ record (row 19 1 813000 true 7 1 0 0 Done) {
      sends = send 25 2 (Promise 8) ∷ send 26 0 Sync ∷ send 27 2 Sync ∷ [];
    }
    ∷ row 20 2 814000 true 7 1 0 0 Done
    ∷ record (row 21 2 850000 false 8 0 0 0 Done) {
      made = made 8 0 1112001 0 0 without_0;
      sends = send 28 0 (Decision 8 0) ∷ send 29 1 (Decision 8 0) ∷ send 30 0 Sync ∷ send 31 1 Sync ∷ [];
    }
    ∷ record (row 23 1 860000 false 8 1 0 0 Done) {
      made = made 8 1 1112001 0 0 without_0;
      sends = send 34 0 (Decision 8 1) ∷ send 35 2 (Decision 8 1) ∷ [];
    }
    ∷ record (row 25 0 1112000 true 7 2 1 1 Look) { entries = entry 5 9 ∷ [] }
    ∷ record (row 26 0 1112001 false 7 2 1 1 Look) { entries = entry 5 9 ∷ [] }
    ∷ record (row 27 2 1112001 true 8 2 1 1 (Sent 1)) {
      made = made 8 2 1112001 0 1 without_0;
      passes = pass 0 (total 2 Weak 1112001 (put 5 7)) Now ∷ [];
      sends =
          send 36 0 (contents.Update (first_of 2))
          ∷ send 37 1 (contents.Update (first_of 2))
          ∷ send 38 0 (Decision 8 2)
          ∷ send 39 1 (Decision 8 2)
          ∷ send 40 0 Sync
          ∷ send 41 1 Sync
          ∷ [];
    }
    ∷ []

-- a row that says up, makes, passes or looks
abbrev is_told : Row → Bool
is_told r = r.up || not (is_none r.made) || not (nat_eq (length r.passes) 0) || is_look r.answer

-- They are the rows of the schedule: all of them that say up, make, pass or look.
rows_of_the_schedule : filter is_told (rows_of puts team (lost Weak)) ≡ rows Weak
unfolding is_up step kind_rule timed_duties duties appended_list appended_kept passes run_passed earlies earlies_marked
rows_of_the_schedule = refl

-- What weak may lose: the position is passed with one update in group 7 and with another in group 8, and all seven clauses hold.
weak_tested : Meets team (rows Weak) true true true true true true true
weak_tested = meets team (rows Weak) true true true true true true true refl

weak_is_safe : SafeRows team (rows Weak)
weak_is_safe = record {
  one_started_group = weak_tested.one_started_group;
  same_deliveries = weak_tested.same_deliveries;
  strong_last = weak_tested.strong_last;
  backed = weak_tested.backed;
  timed_order = weak_tested.timed_order;
  equal_tables = weak_tested.equal_tables;
  leased_support = weak_tested.leased_support;
}

-- With `strong` in the pass line of 0, and nothing else changed, two clauses are broken and five hold.
strong_tested : Meets team (rows Strong) true true false false true true true
strong_tested = meets team (rows Strong) true true false false true true true refl

-- group 8 has another update at the position
strong_is_not_last : StrongLast (rows Strong) → ⊥
strong_is_not_last = strong_tested.strong_last

-- only the list of process 0 has the position
strong_is_not_backed : Backed team (rows Strong) → ⊥
strong_is_not_backed = strong_tested.backed
