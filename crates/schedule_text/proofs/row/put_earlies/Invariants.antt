use Rattle.std.proofs.Common.{take}
use Rattle.std.specs.List.{flat_map}
use Rattle.schedule_text.specs.Puts.{Written}
use Rattle.schedule_text.specs.RowLines.{early_text}
use Rattle.schedule_text.proofs.row.put_earlies.Given as goal

abbrev pub invariant-loop-kept : goal.invariant-loop-kept
invariant-loop-kept g l = Written (g.K.Sink.taken l.fn.sink) (g.K.Sink.taken l.sink) (g.K.Sink.faults l.fn.sink) (g.K.Sink.faults l.sink) (flat_map early_text (take l.kept-index l.earlies))
