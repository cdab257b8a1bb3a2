use Rattle.std.proofs.Common.{rules}
use Rattle.delivery.proofs.next.passes_at.Goals as goal

pub returns-else-kept : goal.returns-else-kept
returns-else-kept c = search rules
