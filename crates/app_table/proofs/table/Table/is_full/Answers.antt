use Rattle.std.proofs.Common.{rules}
use Rattle.app_table.proofs.table.Table.is_full.Goals as goal

pub returns : goal.returns
returns c = search rules
