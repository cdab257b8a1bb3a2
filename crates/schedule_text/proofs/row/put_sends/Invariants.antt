use Rattle.std.proofs.Common.{◌≡◌, ◌+◌}
use Rattle.schedule_text.proofs.Sends.{SendsWritten}
use Rattle.schedule_text.proofs.row.put_sends.Given as goal

abbrev pub invariant-loop-to : goal.invariant-loop-to
invariant-loop-to g l = record {
  sends : SendsWritten (g.K.Sink.taken l.fn.sink) (g.K.Sink.taken l.sink) (g.K.Sink.faults l.fn.sink) (g.K.Sink.faults l.sink) l.first l.sends l.number l.to-index;
  number : l.number ≡ l.first + l.to-index;
}
