-- The snapshot of a table: its entries as bytes, and the table that bytes stand for.
use Rattle.std.specs.Prelude.{ℕ, zero, suc, ◌+◌, ◌*◌, ◌<◌, ◌^◌, ◌==◌, nat_lt, nat_le, Bool, true, ◌&&◌, if◌then◌else◌, List, [], ◌∷◌, ◌++◌, length, take, drop, Option, Some, None}
use Rattle.std.specs.Int.{w16, w32, w64, from_be_bytes, to_be_bytes}
use Rattle.std.specs.List.{AllByRecursion, list_all, flat_map}
use Rattle.app_table.specs.Table.{Entry, IsTable, table_room}

-- a key that four bytes hold, and a value that eight do
abbrev pub FitsBytes : Entry → Type 0
FitsBytes e = (e.0 < 2 ^ 32) × (e.1 < 2 ^ 64)

-- the lists of entries that a table may have
pub record IsContent (entries : List Entry) : Type 0 where
  pub table : IsTable entries
  pub fits : AllByRecursion FitsBytes entries

-- key and value of an entry, the highest byte of each first
abbrev pub entry_bytes : Entry → List ℕ
entry_bytes e = to_be_bytes w32 e.0 ++ to_be_bytes w64 e.1

-- how many entries there are, in two bytes, and then each entry
abbrev pub table_bytes : List Entry → List ℕ
table_bytes entries = to_be_bytes w16 (length entries) ++ flat_map entry_bytes entries

-- ---- what bytes stand for

-- how many entries the bytes say that they have
abbrev pub count_in : List ℕ → ℕ
count_in bytes = from_be_bytes w16 (take 2 bytes)

-- the entry of twelve bytes
abbrev pub entry_in : List ℕ → Entry
entry_in bytes = (from_be_bytes w32 (take 4 bytes), from_be_bytes w64 (take 8 (drop 4 bytes)))

-- so many entries, twelve bytes each
abbrev pub entries_in : ℕ → List ℕ → List Entry
entries_in zero bytes = []
entries_in (suc n) bytes = entry_in bytes ∷ entries_in n (drop 12 bytes)

-- the entries behind the count
abbrev pub entries_of : List ℕ → List Entry
entries_of bytes = entries_in (count_in bytes) (drop 2 bytes)

-- each key is below all that follow
abbrev pub ascend : List Entry → Bool
ascend [] = true
ascend (e ∷ entries) = list_all (λ (other : Entry). nat_lt e.0 other.0) entries && ascend entries

-- The bytes are of this form: a count of at most 256, so many entries, keys ascending, and nothing behind them.
abbrev pub is_snapshot : List ℕ → Bool
is_snapshot bytes = (length bytes == 2 + 12 * count_in bytes) && (nat_le (count_in bytes) table_room && ascend (entries_of bytes))

abbrev pub table_of_bytes : List ℕ → Option (List Entry)
table_of_bytes bytes = if is_snapshot bytes then Some (entries_of bytes) else None
