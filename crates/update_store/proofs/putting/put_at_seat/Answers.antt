use Rattle.std.proofs.Common.{rules}
use Rattle.update_store.proofs.putting.put_at_seat.Goals as goal

pub returns-else-from : goal.returns-else-from
returns-else-from c = search rules
