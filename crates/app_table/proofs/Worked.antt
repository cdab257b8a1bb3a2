-- What a table has after some payloads, worked out by hand.
use Rattle.std.proofs.Common.{◌≡◌, refl, ℕ, List, [], ◌∷◌, map, Some, None}
use Rattle.std.specs.Prelude.{replicate}
use Rattle.app_table.specs.declared.machine.Applied.TheVariants.{Put, Removed, Absent, TableFull, BadCommand}
use Rattle.app_table.specs.Machine.{content_after}
use Rattle.app_table.specs.Table.{Entry, value_at, with_value, without, put_answer, key_of, value_of, after_payload, payload_answer}

abbrev put_five : List ℕ
put_five = 0 ∷ 0 ∷ 0 ∷ 5 ∷ 0 ∷ 0 ∷ 0 ∷ 0 ∷ 0 ∷ 0 ∷ 0 ∷ 9 ∷ []

abbrev remove_five : List ℕ
remove_five = 0 ∷ 0 ∷ 0 ∷ 5 ∷ []

-- the highest byte comes first
key : key_of (1 ∷ 2 ∷ 3 ∷ 4 ∷ []) ≡ 16909060
key = refl

value : value_of (0 ∷ 0 ∷ 0 ∷ 0 ∷ 1 ∷ 2 ∷ 3 ∷ 4 ∷ 5 ∷ 6 ∷ 7 ∷ 8 ∷ []) ≡ 72623859790382856
value = refl

first_put : after_payload [] put_five ≡ (5, 9) ∷ []
first_put = refl

first_answer : payload_answer [] put_five ≡ Put
first_answer = refl

-- keys 5 and 260, which end by the bytes 5 and 4
abbrev two : List Entry
two = (5, 9) ∷ (260, 7) ∷ []

between : with_value 6 1 two ≡ (5, 9) ∷ (6, 1) ∷ (260, 7) ∷ []
between = refl

in_front : with_value 0 1 two ≡ (0, 1) ∷ two
in_front = refl

behind : with_value 261 1 two ≡ (5, 9) ∷ (260, 7) ∷ (261, 1) ∷ []
behind = refl

put_again : with_value 260 1 two ≡ (5, 9) ∷ (260, 1) ∷ []
put_again = refl

known : value_at 260 two ≡ Some 7
known = refl

unknown : value_at 4 two ≡ None
unknown = refl

removed : without 5 two ≡ (260, 7) ∷ []
removed = refl

removed_answer : payload_answer two remove_five ≡ Removed
removed_answer = refl

nothing_removed : without 4 two ≡ two
nothing_removed = refl

absent_answer : payload_answer [] remove_five ≡ Absent
absent_answer = refl

-- no byte, one less and one more than each command has
others : map (payload_answer two) ([] ∷ replicate 3 0 ∷ replicate 5 0 ∷ replicate 11 0 ∷ replicate 13 0 ∷ replicate 128 0 ∷ []) ≡ replicate 6 BadCommand
others = refl

unchanged : map (after_payload two) ([] ∷ replicate 3 0 ∷ replicate 5 0 ∷ replicate 11 0 ∷ replicate 13 0 ∷ replicate 128 0 ∷ []) ≡ replicate 6 two
unchanged = refl

-- 256 entries, among them key 5. They need not ascend for this.
abbrev full : List Entry
full = (5, 9) ∷ replicate 255 (7, 0)

new_key : put_answer 6 full ≡ TableFull
new_key = refl

known_key : put_answer 5 full ≡ Put
known_key = refl

last_room : put_answer 6 ((5, 9) ∷ replicate 254 (7, 0)) ≡ Put
last_room = refl

-- what is put last stays; what is removed is gone
one_after_the_other : content_after after_payload [] (put_five ∷ (0 ∷ 0 ∷ 1 ∷ 4 ∷ 0 ∷ 0 ∷ 0 ∷ 0 ∷ 0 ∷ 0 ∷ 0 ∷ 7 ∷ []) ∷ [] ∷ put_five ∷ []) ≡ two
one_after_the_other = refl

put_and_removed : content_after after_payload [] (put_five ∷ remove_five ∷ []) ≡ []
put_and_removed = refl
