use Rattle.std.proofs.Common.{rules}
use Rattle.group_book.proofs.reports.is_older.Goals as goal

pub returns-then-a-b : goal.returns-then-a-b
returns-then-a-b c = search rules

pub returns-else-a-b-2 : goal.returns-else-a-b-2
returns-else-a-b-2 c = search rules
