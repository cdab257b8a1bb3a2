use Rattle.tw_types.proofs.Delivered.{weak_step}
use Rattle.delivery.proofs.InTurn.{in_turn, always_in_turn}
use Rattle.delivery.proofs.laws.deliveries_in_turn.Goals as goal

pub returns-clause-only : goal.returns-clause-only
returns-clause-only c = in_turn

pub returns-clause-always : goal.returns-clause-always
returns-clause-always c = always_in_turn

pub returns-clause-weak : goal.returns-clause-weak
returns-clause-weak c = weak_step
