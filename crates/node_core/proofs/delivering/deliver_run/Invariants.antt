-- Some positions are passed, and the others follow.
use Rattle.std.proofs.Common.{◌≡◌, ◌+◌, ◌-◌, length}
use Rattle.tw_types.specs.Beliefs.{Log}
use Rattle.oal.specs.StandsFor.{StandsFor}
use Rattle.node_core.proofs.InTurn.{PassedSoFar}
use Rattle.node_core.proofs.delivering.deliver_run.Given as goal

abbrev pub invariant-loop-how : goal.invariant-loop-how
invariant-loop-how l = record {
  so_far : (before : Log) → StandsFor l.fn.log before → PassedSoFar l.team l.last before l.out l.log;
  count : length l.out + l.fn.log.passed ≡ l.log.passed;
  length : l.log.length ≡ l.fn.log.length;
}

abbrev pub decreases-loop-how : goal.decreases-loop-how
decreases-loop-how l = l.log.length - l.log.passed
