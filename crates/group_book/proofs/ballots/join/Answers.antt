use Rattle.std.proofs.Common.{rules}
use Rattle.group_book.proofs.ballots.join.Goals as goal

pub returns : goal.returns
returns c = search rules
