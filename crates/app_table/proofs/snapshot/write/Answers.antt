use Rattle.std.proofs.Common.{arith, ◌∙◌, ap, drop, ◌++◌, List, ℕ}
use Rattle.app_table.proofs.Snapshots.{written_more, written_all, length_flat}
use Rattle.app_table.proofs.snapshot.write.Goals as goal

pub loop-key-preserved : goal.loop-key-preserved
loop-key-preserved c = (
  omega (arith, c.loop-key.invariant.0),
  written_more c.args.entries.now c.loop-key.key-index c.args.out.now c.loop-key.out c.put-in-loop-key.new.out c.bytes_of.result c.loop-key.end c.loop-key-test.true
      c.bytes_of.ensures c.loop-key.invariant.0 c.loop-key.invariant.1 c.put-in-loop-key.ensures,
)

pub returns-clause-length : goal.returns-clause-length
returns-clause-length c = omega (arith, c.loop-key.invariant.0, length_flat c.args.entries.now, c.loop-key-test.false, c.loop-key.auto.key-index-end)

pub returns-clause-written : goal.returns-clause-written
returns-clause-written c = c.loop-key.invariant.1 ∙ ap (λ (xs : List ℕ). xs ++ drop c.loop-key.end c.args.out.now) (written_all c.args.entries.now c.loop-key.key-index c.loop-key-test.false)
