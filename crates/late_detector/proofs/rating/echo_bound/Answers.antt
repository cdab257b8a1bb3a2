use Rattle.std.proofs.Common.{rules}
use Rattle.late_detector.proofs.rating.echo_bound.Goals as goal

pub returns-clause-exact : goal.returns-clause-exact
returns-clause-exact c = search rules
