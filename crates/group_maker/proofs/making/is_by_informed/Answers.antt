use Rattle.std.proofs.Common.{rules}
use Rattle.group_maker.proofs.making.is_by_informed.Goals as goal

pub returns : goal.returns
returns c = search rules
