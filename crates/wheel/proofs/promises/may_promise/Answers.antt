use Rattle.std.proofs.Common.{rules}
use Rattle.wheel.proofs.promises.may_promise.Goals as goal

pub returns-then-number-promised : goal.returns-then-number-promised
returns-then-number-promised c = search rules

pub returns : goal.returns
returns c = search rules
