use Rattle.std.proofs.Common.{rules}
use Rattle.tw_types.proofs.row.Row.fill.Goals as goal

pub returns : goal.returns
returns c = search rules
