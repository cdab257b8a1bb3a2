use Rattle.std.proofs.Common.{◌≡◌, ◌∙◌, arith, None}
use Rattle.clock_sync.proofs.KeptClock.{interval_kept}
use Rattle.clock_sync.proofs.team_clock.TeamClock.interval.Goals as goal

pub returns-clause-exact : goal.returns-clause-exact
returns-clause-exact c p eps k s before =
    let none : c.args.self.now.disjoint ≡ None = grind arith in
    c.shared.ensures.exact ∙ rw none at (interval_kept p eps c.args.h c.args.self.now k (grind arith) s before)
