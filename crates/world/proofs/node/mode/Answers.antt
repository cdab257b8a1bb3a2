use Rattle.std.proofs.Common.{refl}
use Rattle.world.proofs.node.mode.Goals as goal

pub returns-in-Again : goal.returns-in-Again
returns-in-Again c = rw c.in-Again.is refl
