use Rattle.std.proofs.Common.{◌≡◌, true, vec_len}
use Rattle.std.specs.List.{AllByRecursion}
use Rattle.world.specs.NodeConditions.{IsFresh, are_of}
use Rattle.world.proofs.world.World.new.Given as goal

abbrev pub invariant-loop-who : goal.invariant-loop-who
invariant-loop-who l = record {
  count : vec_len l.processes ≡ l._who;
  fresh : AllByRecursion IsFresh l.processes.items;
  one_team : are_of l.team.n l.processes.items ≡ true;
}
