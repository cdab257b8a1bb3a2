use Rattle.update_store.proofs.Facts.{released_inside}
use Rattle.update_store.proofs.store.Store.release.Goals as goal

pub invariant_of-self : goal.invariant_of-self
invariant_of-self c = rw c.clear.ensures (released_inside c.self.inside c.self.invariant)
