use Rattle.std.proofs.Common.{arith}
use Rattle.clock_sync.proofs.keys.Keys.ends.Goals as goal

pub returns-clause-exact : goal.returns-clause-exact
returns-clause-exact c = grind arith
