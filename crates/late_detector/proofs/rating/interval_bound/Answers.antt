use Rattle.std.proofs.Common.{rules}
use Rattle.late_detector.proofs.rating.interval_bound.Goals as goal

pub returns : goal.returns
returns c = search rules
