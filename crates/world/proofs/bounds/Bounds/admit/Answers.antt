use Rattle.std.proofs.Common.{rules}
use Rattle.world.proofs.bounds.Bounds.admit.Goals as goal

pub returns-then-saturating_sub-self : goal.returns-then-saturating_sub-self
returns-then-saturating_sub-self c = search rules
