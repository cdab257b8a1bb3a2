use Rattle.std.proofs.Common.{take}
use Rattle.std.specs.List.{flat_map}
use Rattle.schedule_text.specs.Puts.{Written}
use Rattle.schedule_text.specs.RowLines.{entry_text}
use Rattle.schedule_text.proofs.row.put_entries.Given as goal

abbrev pub invariant-loop-key : goal.invariant-loop-key
invariant-loop-key g l = Written (g.K.Sink.taken l.fn.sink) (g.K.Sink.taken l.sink) (g.K.Sink.faults l.fn.sink) (g.K.Sink.faults l.sink) (flat_map entry_text (take l.key-index l.entries))
