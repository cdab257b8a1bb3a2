use Rattle.std.proofs.Common.{◌≡◌, ◌≤◌, ◌++◌, ℕ, List, Some}
use Rattle.tw_io.specs.LineReader.{held}
use Rattle.replayer.proofs.Replays.{Going}
use Rattle.replayer.proofs.steps.take_steps.Given as goal

abbrev pub invariant-loop-steps : goal.invariant-loop-steps
invariant-loop-steps g l = record {
  going : (bytes before : List ℕ) → g.S.Source.left l.fn.src ≡ Some bytes → g.K.Sink.taken l.fn.sink ≡ Some before
      → Going l.team (held l.fn.rooms.reader ++ bytes) before (held l.rooms.reader) (g.S.Source.left l.src) (g.K.Sink.taken l.sink) l.world;
  count : l.world.steps ≡ l.steps;
  same_team : l.world.team ≡ l.team;
  limit : l.rooms.reader.limit ≡ 9000;
  read : g.S.Source.faults l.fn.src ≤ g.S.Source.faults l.src;
  write : g.K.Sink.faults l.fn.sink ≤ g.K.Sink.faults l.sink;
}
