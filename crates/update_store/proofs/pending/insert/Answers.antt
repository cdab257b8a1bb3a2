use Rattle.std.proofs.Common.{arith}
use Rattle.std.proofs.lemmas.Grind.{common_steps}
use Rattle.update_store.proofs.Order.{placed}
use Rattle.update_store.proofs.pending.insert.Goals as goal

pub returns : goal.returns
returns c = grind (arith, common_steps, placed c.args.kept c.args.pending.now c.requires.order)
