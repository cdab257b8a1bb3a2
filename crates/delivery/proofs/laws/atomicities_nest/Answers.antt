use Rattle.delivery.proofs.Nesting.{fulfils_lower, strict_is_strong, strong_is_weak}
use Rattle.delivery.proofs.laws.atomicities_nest.Goals as goal

pub returns-clause-lower : goal.returns-clause-lower
returns-clause-lower c = fulfils_lower

pub returns-clause-strong : goal.returns-clause-strong
returns-clause-strong c = strict_is_strong

pub returns-clause-weak : goal.returns-clause-weak
returns-clause-weak c = strong_is_weak
