use Rattle.std.proofs.Common.{arith}
use Rattle.schedule_text.specs.RowLines.{entry_text}
use Rattle.schedule_text.proofs.Chains.{written_item, puts_item}
use Rattle.schedule_text.proofs.row.put_entries.Goals as goal

pub returns-in_err-put_entry : goal.returns-in_err-put_entry
returns-in_err-put_entry g c = puts_item _ entry_text c.args.entries.now c.loop-key.key-index _ (omega arith) c.loop-key.invariant c.from_residual.ensures.0 c.in_err-put_entry.ensures.cut

pub loop-key-preserved : goal.loop-key-preserved
loop-key-preserved g c = written_item entry_text c.args.entries.now c.loop-key.key-index _ (omega arith) c.loop-key.invariant c.in_ok-put_entry.ensures.written
