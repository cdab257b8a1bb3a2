use Rattle.std.proofs.Common.{take}
use Rattle.std.specs.List.{flat_map}
use Rattle.schedule_text.specs.Puts.{Written}
use Rattle.schedule_text.specs.RowLines.{pass_text}
use Rattle.schedule_text.proofs.row.put_passes.Given as goal

abbrev pub invariant-loop-pass : goal.invariant-loop-pass
invariant-loop-pass g l = Written (g.K.Sink.taken l.fn.sink) (g.K.Sink.taken l.sink) (g.K.Sink.faults l.fn.sink) (g.K.Sink.faults l.sink) (flat_map pass_text (take l.pass-index l.passes))
