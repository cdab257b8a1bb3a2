use Rattle.std.proofs.Common.{rules}
use Rattle.group_maker.proofs.members.next_of.Goals as goal

pub returns : goal.returns
returns c = search rules
