use Rattle.std.proofs.Common.{rules}
use Rattle.tw_num.proofs.elapsed.down.Goals as goal

pub returns-clause-exact : goal.returns-clause-exact
returns-clause-exact c = search rules
