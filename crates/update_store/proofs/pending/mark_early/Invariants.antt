use Rattle.std.proofs.Common.{◌≡◌, ◌++◌, map, take, drop}
use Rattle.tw_types.specs.Updates.{marked}
use Rattle.update_store.proofs.pending.mark_early.Given as goal

abbrev pub invariant-loop-place : goal.invariant-loop-place
invariant-loop-place l = l.pending ≡ map (marked l.id) (take l.place l.initial.pending) ++ drop l.place l.initial.pending
