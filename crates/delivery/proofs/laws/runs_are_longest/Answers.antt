use Rattle.tw_types.proofs.Delivered.{run_shape, run_is_longest}
use Rattle.delivery.proofs.laws.runs_are_longest.Goals as goal

pub returns-clause-neighbours : goal.returns-clause-neighbours
returns-clause-neighbours c = λ team d log. (run_shape team d log).neighbours

pub returns-clause-longest : goal.returns-clause-longest
returns-clause-longest c = run_is_longest
