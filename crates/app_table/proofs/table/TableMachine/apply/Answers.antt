use Rattle.std.proofs.Common.{rules}
use Rattle.app_table.proofs.table.TableMachine.apply.Goals as goal

pub returns-in_default-clause-content : goal.returns-in_default-clause-content
returns-in_default-clause-content c = search rules

pub returns-in_default-clause-answer : goal.returns-in_default-clause-answer
returns-in_default-clause-answer c = search rules
