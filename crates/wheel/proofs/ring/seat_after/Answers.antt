use Rattle.std.proofs.Common.{rules}
use Rattle.wheel.proofs.ring.seat_after.Goals as goal

pub returns : goal.returns
returns c = search rules
