-- What a snapshot of a table shows.
use Rattle.std.specs.Prelude.{ℕ, ◌+◌, ◌*◌, nat_le, Bool, ◌&&◌, if◌then◌else◌, List, [], length}
use Rattle.app_table.specs.Table.{table_room}
use Rattle.app_table.specs.Snapshots.{count_in, entries_of, ascend}

-- The bytes begin as those of a table: a count of at most 256, so many entries, keys ascending. What stands behind them doesn't matter.
abbrev pub begins_table : List ℕ → Bool
begins_table bytes = nat_le (2 + 12 * count_in bytes) (length bytes) && (nat_le (count_in bytes) table_room && ascend (entries_of bytes))

-- the entries at the front of the bytes, and none where the bytes don't begin so
abbrev pub entries_shown : List ℕ → List (ℕ × ℕ)
entries_shown bytes = if begins_table bytes then entries_of bytes else []
