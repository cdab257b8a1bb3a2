-- What is applied of a list, and which looks show a table, computed.
use Rattle.std.proofs.Common.{◌≡◌, refl, ℕ, Bool, true, false, List, [], ◌∷◌, Some, None}
use Rattle.std.specs.Prelude.{codes}
use Rattle.std.specs.Fmt.{digits}
use Rattle.tw_machine.specs.Types.{Order, Kept, Step}
use Rattle.tw_types.specs.declared.message.Order.TheVariants.{Unordered, Total, Timed}
use Rattle.tw_types.specs.declared.message.Atom.TheVariants.{Strong}
use Rattle.tw_types.specs.declared.step.Act.TheVariants.{First, Again, Crash, Tick, Reference, Look}
use Rattle.tw_types.specs.Beliefs.{Informed, Blank, Log}
use Rattle.tw_types.specs.Examples.{team_a}
use Rattle.tw_types.specs.Flag.{is_up}
use Rattle.tw_machine.specs.Applied.{payloads_applied, content_of, table_by}
use Rattle.tw_machine.specs.Duties.{timed_duties, duties}
use Rattle.tw_machine.specs.Rows.{rows_of}
use Rattle.tw_machine.specs.Rules.{kind_rule}
use Rattle.tw_machine.specs.RowText.{text_of}
use Rattle.tw_machine.specs.Step.{step}
use Rattle.tw_machine.proofs.Meanings.{puts, counts}
use Rattle.tw_machine.proofs.SendsScheduled.{at}

-- an update of one byte
abbrev update : Order → (late : Bool) → (byte : ℕ) → Kept
update order late byte = record { entry = record { id = record { who = 1; incarnation = 5; seq = byte }; order = order; atom = Strong; stamp = 7; late = late }; early = false; payload = record { items = byte ∷ [] } }

-- a list that begins at position 3
abbrev log : (passed : ℕ) → Log
log passed = record {
  base = 3;
  entries = update Total false 1 ∷ update Unordered false 2 ∷ update Timed true 3 ∷ update Timed false 4 ∷ update Total true 5 ∷ update Total false 6 ∷ [];
  passed = passed;
}

-- Below the cursor, in order of position, ordered ones that aren't late.
none_passed : payloads_applied (log 3) ≡ []
none_passed = refl

one_passed : payloads_applied (log 4) ≡ (1 ∷ []) ∷ []
one_passed = refl

not_unordered : payloads_applied (log 5) ≡ (1 ∷ []) ∷ []
not_unordered = refl

not_late : payloads_applied (log 6) ≡ (1 ∷ []) ∷ []
not_late = refl

timed_too : payloads_applied (log 7) ≡ (1 ∷ []) ∷ (4 ∷ []) ∷ []
timed_too = refl

all_passed : payloads_applied (log 9) ≡ (1 ∷ []) ∷ (4 ∷ []) ∷ (6 ∷ []) ∷ []
all_passed = refl

counted : content_of counts (log 9) ≡ 3
counted = refl

informed_has_one : table_by counts (Informed None) (log 9) ≡ Some 3
informed_has_one = refl

blank_has_none : table_by counts (Blank None) (log 9) ≡ None
blank_has_none = refl

-- the first one first, so the last value of a key stays
abbrev five : (value : ℕ) → Kept
five value = record (update Total false 1) { payload = record { items = 0 ∷ 0 ∷ 0 ∷ 5 ∷ 0 ∷ 0 ∷ 0 ∷ 0 ∷ 0 ∷ 0 ∷ 0 ∷ value ∷ [] } }

last_stays : content_of puts (record { base = 0; entries = five 9 ∷ five 7 ∷ five 8 ∷ []; passed = 2 }) ≡ (5, 7) ∷ []
last_stays = refl

-- An informed process shows its table when it is looked at, though it is up in no group, and in no other step; one that was started
-- again shows none.

abbrev looks : List Step
looks =
    at 12 0 12 Look
    ∷ at 11 0 11 Tick
    ∷ at 10 0 10 Again
    ∷ at 9 0 9 Crash
    ∷ at 8 0 8 Look
    ∷ at 7 0 7 (Reference 7 7)
    ∷ at 6 0 6 Look
    ∷ at 5 0 5 First
    ∷ []

looks_rows : text_of (rows_of counts team_a looks) ≡ codes "1 0 5 - 0 0.0 0 0 start\n2 0 5 - 0 0.0 0 0 look\n+ entry 0 0\n3 0 5 7 0 0.0 0 0 done\n4 0 5 8 0 0.0 0 0 look\n+ entry 0 0\n5 0 5 - 0 0.0 0 0 crash\n6 0 10 - 0 0.0 0 0 start\n7 0 10 - 0 0.0 0 0 done\n+ send 1 to 1 sync\n+ send 2 to 2 sync\n8 0 10 - 0 0.0 0 0 look\n"
unfolding digits is_up step duties timed_duties kind_rule
looks_rows = refl

-- an empty table has no entry to show
nothing_to_show : text_of (rows_of puts team_a (at 6 0 6 Look ∷ at 5 0 5 First ∷ [])) ≡ codes "1 0 5 - 0 0.0 0 0 start\n2 0 5 - 0 0.0 0 0 look\n"
unfolding digits is_up step
nothing_to_show = refl
