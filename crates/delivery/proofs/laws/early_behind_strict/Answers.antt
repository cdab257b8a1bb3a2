use Rattle.delivery.proofs.Nesting.{early_behind}
use Rattle.delivery.proofs.laws.early_behind_strict.Goals as goal

pub returns : goal.returns
returns c = early_behind
