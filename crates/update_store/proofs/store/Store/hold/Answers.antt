use Rattle.std.proofs.Common.{◌++◌}
use Rattle.update_store.proofs.Facts.{held_inside}
use Rattle.update_store.proofs.store.Store.hold.Goals as goal

pub invariant_of-self : goal.invariant_of-self
invariant_of-self c =
    rw (c.copy.ensures, c.swap.ensures.x_after, c.collect.ensures, c.entries_from-entries.ensures.exact)
    (held_inside c.self.inside c.args.d.now c.args.first c.args.from (c.as_slice.result.now ++ c.as_slice-2.result.now) c.swap.new.y c.self.invariant c.entries_from-entries.ensures.window)
