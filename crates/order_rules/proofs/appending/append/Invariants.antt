-- The decision grew by entries that came one after the other.
use Rattle.std.proofs.Common.{◌-◌, length}
use Rattle.tw_types.specs.Ranges.{Ascends}
use Rattle.order_rules.proofs.Grown.{Grown}
use Rattle.order_rules.proofs.appending.append.Given as goal

abbrev pub invariant-loop-entry : goal.invariant-loop-entry
invariant-loop-entry l = record {
  grown : Grown l.team l.t l.passed l.store.waiting.pending l.fn.d l.d;
  ascends : Ascends l.d.seats.items;
}

abbrev pub decreases-loop-entry : goal.decreases-loop-entry
decreases-loop-entry l = 32 - length l.d.window.items
