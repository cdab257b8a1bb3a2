-- The record of an event, by the bytes of its datagrams.
use Rattle.std.specs.Prelude.{ℕ, List, ◌++◌}
use Rattle.std.specs.List.{flat_map}
use Rattle.tw_types.specs.Row.{Row}
use Rattle.tw_machine.specs.Record.{Input, in_line, packet_line}
use Rattle.tw_machine.specs.RowText.{row_line, lines_around}

-- the input at its reading, the row, and for its datagrams these, each with its receiver
abbrev pub event_text : ℕ → Input → Row → List (ℕ × List ℕ) → List ℕ
event_text h input row packets = in_line h input ++ (row_line row ++ lines_around (flat_map packet_line packets) row)
