use Rattle.std.proofs.Common.{rules}
use Rattle.slot_election.proofs.slot.complete.Goals as goal

pub returns-then-len-from : goal.returns-then-len-from
returns-then-len-from c = search rules

pub returns-else-len-from : goal.returns-else-len-from
returns-else-len-from c = search rules
