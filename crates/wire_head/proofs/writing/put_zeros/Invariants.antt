use Rattle.std.proofs.Common.{◌≡◌, ◌+◌, ◌*◌}
use Rattle.tw_types.specs.Bytes.{zeros}
use Rattle.wire_head.specs.Writing.{Writes}
use Rattle.wire_head.proofs.writing.put_zeros.Given as goal

-- the fields written so far
abbrev pub invariant-loop : goal.invariant-loop
invariant-loop l = record {
  end_is : l.end ≡ l.place + 8 * l.counter;
  text : Writes l.fn.out l.place (zeros l.counter) l.out l.end;
}
