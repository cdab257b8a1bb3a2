use Rattle.update_store.proofs.Order.{least_early}
use Rattle.update_store.proofs.store.Store.next_weak.Goals as goal

pub returns-clause-least : goal.returns-clause-least
returns-clause-least c = rw (c.next_weak.ensures, c.as_slice.ensures.items, ← c.self.view_is) (least_early c.self.inside.pending c.self.invariant.stock.order)
