use Rattle.std.proofs.Common.{rules}
use Rattle.delivery.proofs.atomicity.reaches.Goals as goal

pub returns : goal.returns
returns c = search rules
