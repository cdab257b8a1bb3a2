use Rattle.std.proofs.Common.{take}
use Rattle.std.specs.List.{flat_map}
use Rattle.schedule_text.specs.Puts.{Written}
use Rattle.schedule_text.specs.LineFields.{two_digits}
use Rattle.schedule_text.proofs.line.put_digits.Given as goal

abbrev pub invariant-loop-byte : goal.invariant-loop-byte
invariant-loop-byte g l = Written (g.K.Sink.taken l.fn.sink) (g.K.Sink.taken l.sink) (g.K.Sink.faults l.fn.sink) (g.K.Sink.faults l.sink) (flat_map two_digits (take l.byte-index l.bytes))
