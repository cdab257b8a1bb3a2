use Rattle.std.proofs.Common.{rules}
use Rattle.order_rules.proofs.appending.raised_seat.Goals as goal

pub returns : goal.returns
returns c = search rules
