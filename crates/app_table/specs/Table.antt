-- The table: which lists of entries are one, and what a payload does to it.
use Rattle.std.specs.Prelude.{ℕ, ◌<◌, ◌≤◌, ◌==◌, nat_lt, nat_le, Bool, ◌&&◌, not, if◌then◌else◌, List, [], ◌∷◌, ◌++◌, length, take, drop, filter, Option, Some, None, is_some}
use Rattle.std.specs.Int.{w32, w64, from_be_bytes, to_be_bytes}
use Rattle.std.specs.List.{AllByRecursion}
use Rattle.app_table.specs.declared.machine.Applied.{Applied}
use Rattle.app_table.specs.declared.machine.Applied.TheVariants as answers

-- a key, and its value
abbrev pub Entry : Type 0
Entry = ℕ × ℕ

-- each key is below all that follow
abbrev pub Ascends : List Entry → Type 0
Ascends [] = Unit {0}
Ascends (e ∷ entries) = AllByRecursion (λ (other : Entry). e.0 < other.0) entries × Ascends entries

-- so many keys a table has at most
abbrev pub table_room : ℕ
table_room = 256

pub record IsTable (entries : List Entry) : Type 0 where
  pub ascending : Ascends entries
  pub few : length entries ≤ table_room

-- the value of a key, where it has one
abbrev pub value_at : ℕ → List Entry → Option ℕ
value_at key [] = None
value_at key (e ∷ entries) = if e.0 == key then Some e.1 else value_at key entries

abbrev pub has_key : ℕ → List Entry → Bool
has_key key entries = is_some (value_at key entries)

-- the entries whose keys are below a key, and those whose keys are above it
abbrev pub below : ℕ → List Entry → List Entry
below key entries = filter (λ (e : Entry). nat_lt e.0 key) entries

abbrev pub above : ℕ → List Entry → List Entry
above key entries = filter (λ (e : Entry). nat_lt key e.0) entries

-- with this value at a key, whether it had one or not
abbrev pub with_value : ℕ → ℕ → List Entry → List Entry
with_value key value entries = below key entries ++ (key, value) ∷ above key entries

-- with no value at a key
abbrev pub without : ℕ → List Entry → List Entry
without key entries = below key entries ++ above key entries

-- the key is new, and there is no room for one more
abbrev pub is_too_many : ℕ → List Entry → Bool
is_too_many key entries = not (has_key key entries) && nat_le table_room (length entries)

abbrev pub put_answer : ℕ → List Entry → Applied
put_answer key entries = if is_too_many key entries then answers.TableFull else answers.Put

abbrev pub after_put : ℕ → ℕ → List Entry → List Entry
after_put key value entries = if is_too_many key entries then entries else with_value key value entries

abbrev pub remove_answer : ℕ → List Entry → Applied
remove_answer key entries = if has_key key entries then answers.Removed else answers.Absent

-- the key that a payload names: its first four bytes, the highest one first
abbrev pub key_of : List ℕ → ℕ
key_of payload = from_be_bytes w32 (take 4 payload)

-- the value that it gives: the eight bytes behind, the highest one first
abbrev pub value_of : List ℕ → ℕ
value_of payload = from_be_bytes w64 (drop 4 payload)

-- the payloads that put a value at a key and that remove a key
abbrev pub put_payload : ℕ → ℕ → List ℕ
put_payload key value = to_be_bytes w32 key ++ to_be_bytes w64 value

abbrev pub remove_payload : ℕ → List ℕ
remove_payload key = to_be_bytes w32 key

-- Twelve bytes put a value, four remove a key, and all else does nothing.
abbrev pub after_payload : List Entry → List ℕ → List Entry
after_payload entries payload =
    if length payload == 12 then after_put (key_of payload) (value_of payload) entries
    else if length payload == 4 then without (key_of payload) entries
    else entries

abbrev pub payload_answer : List Entry → List ℕ → Applied
payload_answer entries payload =
    if length payload == 12 then put_answer (key_of payload) entries
    else if length payload == 4 then remove_answer (key_of payload) entries
    else answers.BadCommand
