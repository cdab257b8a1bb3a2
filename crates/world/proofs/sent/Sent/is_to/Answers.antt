use Rattle.std.proofs.Common.{rules}
use Rattle.world.proofs.sent.Sent.is_to.Goals as goal

pub returns : goal.returns
returns c = search rules
