use Rattle.std.proofs.Common.{◌≡◌, ◌≤◌, length}
use Rattle.tw_types.specs.Updates.{stays_pending}
use Rattle.update_store.proofs.Order.{partly}
use Rattle.update_store.proofs.pending.settle.Given as goal

abbrev pub invariant-loop-place : goal.invariant-loop-place
invariant-loop-place l = record {
  within : l.place ≤ length l.initial.pending;
  rest : l.pending ≡ partly (stays_pending l.d) l.place l.initial.pending;
}

abbrev pub decreases-loop-place : goal.decreases-loop-place
decreases-loop-place l = l.place
