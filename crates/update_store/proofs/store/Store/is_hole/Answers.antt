use Rattle.std.proofs.Common.{arith}
use Rattle.std.proofs.lemmas.Grind.{common_steps}
use Rattle.update_store.proofs.Ids.{hole_is}
use Rattle.update_store.proofs.store.Store.is_hole.Goals as goal

pub returns-then-wants : goal.returns-then-wants
returns-then-wants c = grind (arith, common_steps, hole_is c.args.id.now c.entries_from.result.now c.self.inside.payloads)

pub returns-else-wants : goal.returns-else-wants
returns-else-wants c = grind (arith, common_steps, hole_is c.args.id.now c.entries_from.result.now c.self.inside.payloads)
