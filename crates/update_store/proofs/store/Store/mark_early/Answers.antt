use Rattle.update_store.proofs.Facts.{marked_inside}
use Rattle.update_store.proofs.store.Store.mark_early.Goals as goal

pub invariant_of-self : goal.invariant_of-self
invariant_of-self c = rw c.mark_early.ensures (marked_inside c.args.id.now c.self.inside c.self.invariant)
