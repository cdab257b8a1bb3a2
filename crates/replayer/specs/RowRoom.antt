-- The text of a row, in memory.
use Rattle.std.specs.Prelude.{ℕ, List, take}
use Rattle.replayer.specs.declared.row_room.RowRoom.{RowRoom}

abbrev pub kept : RowRoom → List ℕ
kept r = take r.len r.room.items
