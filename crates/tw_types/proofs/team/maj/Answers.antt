use Rattle.std.proofs.Common.{arith}
use Rattle.tw_types.proofs.team.maj.Goals as goal

pub returns : goal.returns
returns c = omega arith
