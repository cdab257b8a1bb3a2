use Rattle.std.proofs.Common.{◌≡◌, ◌++◌, List, ℕ, Some, ◌≤◌}
use Rattle.call_outside.proofs.copying.copy.Given as goal

-- what was read so far was written, and the counts did not fall
abbrev pub invariant-loop : goal.invariant-loop
invariant-loop g l =
    let left = g.S.Source.left in
    let taken = g.K.Sink.taken in
    record {
      read : (bytes : List ℕ) → left l.fn.source ≡ Some bytes → (rest : List ℕ) × (left l.source ≡ Some rest);
      written : (bytes before : List ℕ) → left l.fn.source ≡ Some bytes → taken l.fn.sink ≡ Some before → (done : List ℕ) × (rest : List ℕ) × (left l.source ≡ Some rest) × (taken l.sink ≡ Some (before ++ done)) × (done ++ rest ≡ bytes);
      read_faults : g.S.Source.faults l.fn.source ≤ g.S.Source.faults l.source;
      write_faults : g.K.Sink.faults l.fn.sink ≤ g.K.Sink.faults l.sink;
    }
