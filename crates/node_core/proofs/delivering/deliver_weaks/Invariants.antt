-- Some are delivered, and the others follow.
use Rattle.std.proofs.Common.{length}
use Rattle.tw_types.specs.Deliveries.{weaks}
use Rattle.node_core.proofs.InTurn.{WeaksSoFar}
use Rattle.node_core.proofs.delivering.deliver_weaks.Given as goal

abbrev pub invariant-loop-kept : goal.invariant-loop-kept
invariant-loop-kept l = WeaksSoFar l.fn.store l.fn.out l.out l.store

abbrev pub decreases-loop-kept : goal.decreases-loop-kept
decreases-loop-kept l = length (weaks l.store.waiting.pending)
