-- Machines for rows that are computed: one that shows nothing, a small table, and a count.
use Rattle.std.proofs.Common.{ℕ, ◌+◌, ◌==◌, ◌++◌, if◌then◌else◌, List, [], ◌∷◌, filter, length, take, drop}
use Rattle.std.specs.Prelude.{nat_lt}
use Rattle.std.specs.Int.{w32, w64, from_be_bytes}
use Rattle.tw_machine.specs.Applied.{Meaning}

-- for rows of which no table is looked at
abbrev pub no_entries : Meaning (Unit {0})
no_entries = record { empty = tt; after = λ content payload. content; shown = λ content. [] }

-- with this value at a key
abbrev with_value : ℕ → ℕ → List (ℕ × ℕ) → List (ℕ × ℕ)
with_value key value entries = filter (λ (e : ℕ × ℕ). nat_lt e.0 key) entries ++ (key, value) ∷ filter (λ (e : ℕ × ℕ). nat_lt key e.0) entries

-- A payload of twelve bytes, four for a key and eight for a value, puts the value, and any other does nothing.
abbrev after_put : List (ℕ × ℕ) → List ℕ → List (ℕ × ℕ)
after_put entries payload = if length payload == 12 then with_value (from_be_bytes w32 (take 4 payload)) (from_be_bytes w64 (drop 4 payload)) entries else entries

-- keys ascend
abbrev pub puts : Meaning (List (ℕ × ℕ))
puts = record { empty = []; after = after_put; shown = λ entries. entries }

-- how many payloads were applied, as the value of one key; so a machine to which none was applied shows something
abbrev pub counts : Meaning ℕ
counts = record { empty = 0; after = λ count payload. count + 1; shown = λ count. (0, count) ∷ [] }
