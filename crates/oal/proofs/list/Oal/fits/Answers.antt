use Rattle.std.proofs.Common.{rules}
use Rattle.oal.proofs.list.Oal.fits.Goals as goal

pub returns-then-self-d-clause-log : goal.returns-then-self-d-clause-log
returns-then-self-d-clause-log g c = search rules
