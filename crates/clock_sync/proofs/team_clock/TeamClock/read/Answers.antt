use Rattle.std.proofs.Common.{◌≡◌, ◌+◌, ◌/◌, ◌∙◌, ap, sym, subst, arith, rules, true, Some}
use Rattle.std.proofs.lemmas.Bool.Decides.{nat_tests}
use Rattle.tw_num.specs.Clock.{interval_at, is_narrow, at_least, after_read}
use Rattle.clock_sync.specs.KeptClock.{KeptClock}
use Rattle.clock_sync.specs.StandsFor.{StandsFor}
use Rattle.clock_sync.proofs.KeptClock.{reading_kept, read_kept}
use Rattle.clock_sync.proofs.team_clock.TeamClock.read.Goals as goal

pub returns-clause-exact : goal.returns-clause-exact
returns-clause-exact c p eps k s before =
    let i = c.in_ok-interval.interval in
    let at : interval_at p c.args.h k ≡ Some i = sym (c.interval.ensures.exact p eps k s before) ∙ c.in_ok-interval.was in
    let narrow : is_narrow c.args.self.now.eps i ≡ true = grind (arith, nat_tests) in
    let reading : c.map_or-reading.result ≡ at_least c.args.self.now.greatest ((i.lo + i.hi) / 2) = search rules in
    ap Some reading ∙ reading_kept p eps c.args.h i c.args.self.now k s at narrow

pub returns-clause-read : goal.returns-clause-read
returns-clause-read c p eps k s before =
    let P : KeptClock → Type 0 = λ w. StandsFor p eps (record w { greatest = Some c.map_or-reading.result }) (after_read p eps c.args.h k) in
    subst P (sym c.self.view_is) (read_kept p eps c.args.h c.map_or-reading.result c.args.self.now k s (returns-clause-exact c p eps k s before))
