use Rattle.update_store.proofs.Facts.{settled_inside}
use Rattle.update_store.proofs.store.Store.settle.Goals as goal

pub invariant_of-self : goal.invariant_of-self
invariant_of-self c = rw c.settle.ensures (settled_inside c.args.d.now c.self.inside c.self.invariant)
