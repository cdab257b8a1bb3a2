use Rattle.std.proofs.Common.{arith}
use Rattle.app_table.specs.TableLaws.{content_without}
use Rattle.app_table.proofs.Edits.{taken_out}
use Rattle.app_table.proofs.table.Table.remove.Goals as goal

pub invariant_of-self : goal.invariant_of-self
invariant_of-self c =
    let at = rw c.deref.ensures.value at c.in-Ok.ensures in (
      rw (c.remove.ensures.items, taken_out c.args.key _ _ at) (content_without c.args.key _ c.self.invariant.0),
      omega (arith, c.remove.ensures.capacity, c.self.invariant.1),
    )
