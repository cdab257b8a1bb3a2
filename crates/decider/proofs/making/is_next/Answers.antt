use Rattle.std.proofs.Common.{rules}
use Rattle.decider.proofs.making.is_next.Goals as goal

pub returns-in-None : goal.returns-in-None
returns-in-None c = search rules
