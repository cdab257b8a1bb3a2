use Rattle.std.proofs.Common.{rules}
use Rattle.order_rules.proofs.next.next_entry.Goals as goal

pub returns-then-not-has_room-clause-next : goal.returns-then-not-has_room-clause-next
returns-then-not-has_room-clause-next c = search rules

pub returns-clause-next : goal.returns-clause-next
returns-clause-next c = search rules
