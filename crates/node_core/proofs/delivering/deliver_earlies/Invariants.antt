-- Some are delivered, and each other one stands at this position or behind it.
use Rattle.std.proofs.Common.{◌≡◌, ◌+◌, ◌-◌, ◌≤◌, length}
use Rattle.tw_types.specs.Beliefs.{Log}
use Rattle.oal.specs.StandsFor.{StandsFor}
use Rattle.node_core.proofs.InTurn.{MarkedSoFar}
use Rattle.node_core.proofs.delivering.deliver_earlies.Given as goal

abbrev pub invariant-loop-position : goal.invariant-loop-position
invariant-loop-position l = record {
  so_far : (before : Log) → StandsFor l.fn.log before → MarkedSoFar l.team l.last before l.out l.from l.log;
  unpassed : l.log.passed ≤ l.from;
  within : l.from ≤ l.log.length;
  count : length l.out + l.fn.log.passed ≤ l.from;
  length : l.log.length ≡ l.fn.log.length;
}

abbrev pub decreases-loop-position : goal.decreases-loop-position
decreases-loop-position l = l.log.length - l.from
