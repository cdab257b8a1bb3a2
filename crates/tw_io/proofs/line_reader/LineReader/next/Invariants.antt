use Rattle.std.proofs.Common.{◌≡◌, ◌≤◌, ◌+◌, ◌-◌, ◌++◌, ℕ, List, Some, None, length}
use Rattle.tw_io.specs.LineReader.{held}
use Rattle.tw_io.proofs.line_reader.LineReader.next.Given as goal

abbrev pub invariant-loop-end : goal.invariant-loop-end
invariant-loop-end g l = record {
  text : (bytes : List ℕ) → g.S.Source.left l.fn.src ≡ Some bytes → (rest : List ℕ) × (g.S.Source.left l.src ≡ Some rest) × (held l.fn.self ++ bytes ≡ held l.self ++ rest);
  kept : (more : List ℕ) × (held l.self ≡ held l.fn.self ++ more);
  limit : l.self.limit ≡ l.fn.self.limit;
  untold : g.S.Source.left l.fn.src ≡ None → g.S.Source.left l.src ≡ None;
  monotone : g.S.Source.faults l.fn.src ≤ g.S.Source.faults l.src;
}

abbrev pub decreases-loop-end : goal.decreases-loop-end
decreases-loop-end g l = (l.self.limit + 1) - length (held l.self)
