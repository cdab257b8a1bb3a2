use Rattle.std.proofs.Common.{rules}
use Rattle.decider.proofs.taking.first_check.Goals as goal

pub returns-then-is_barred-clause-faults : goal.returns-then-is_barred-clause-faults
returns-then-is_barred-clause-faults c = search rules
