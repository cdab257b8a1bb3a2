use Rattle.std.proofs.Common.{rules}
use Rattle.slot_election.proofs.slot.begin_slot.Goals as goal

pub returns-clause-exact : goal.returns-clause-exact
returns-clause-exact c = search rules

pub returns-clause-fits : goal.returns-clause-fits
returns-clause-fits c = search rules
