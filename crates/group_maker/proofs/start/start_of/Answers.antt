use Rattle.std.proofs.Common.{rules}
use Rattle.group_maker.proofs.start.start_of.Goals as goal

pub returns-clause-exact : goal.returns-clause-exact
returns-clause-exact c = search rules
