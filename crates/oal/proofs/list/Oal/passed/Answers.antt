-- Each position that isn't passed is kept.
use Rattle.std.proofs.Common.{subst}
use Rattle.oal.specs.Recent.{IsRecent}
use Rattle.oal.proofs.Standing.{kept_from_passed}
use Rattle.oal.proofs.list.Oal.passed.Goals as goal

pub returns-clause-kept : goal.returns-clause-kept
returns-clause-kept c = λ log s. kept_from_passed c.args.self.now log (subst IsRecent c.self.view_is c.self.invariant) s
