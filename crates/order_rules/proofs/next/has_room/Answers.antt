use Rattle.std.proofs.Common.{rules}
use Rattle.order_rules.proofs.next.has_room.Goals as goal

pub returns-then-end-saturating_add : goal.returns-then-end-saturating_add
returns-then-end-saturating_add c = search rules
