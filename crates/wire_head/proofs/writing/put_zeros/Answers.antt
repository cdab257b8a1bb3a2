use Rattle.std.proofs.Common.{arith}
use Rattle.wire_head.proofs.Zeros.{written_more}
use Rattle.wire_head.proofs.writing.put_zeros.Goals as goal

pub loop-preserved : goal.loop-preserved
loop-preserved c = record {
  end_is = omega (arith, c.put_u64-end.ensures.end, c.loop.invariant.end_is);
  text = written_more _ _ _ _ _ _ _ c.loop.invariant.text c.put_u64-end.ensures.text;
}
