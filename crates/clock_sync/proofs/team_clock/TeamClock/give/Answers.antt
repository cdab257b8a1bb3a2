use Rattle.std.proofs.Common.{◌≡◌, ◌∙◌, sym, ap, subst, arith, Some, None}
use Rattle.tw_num.specs.declared.interval.Interval.{Interval}
use Rattle.tw_num.specs.Interval.{aged}
use Rattle.tw_num.specs.Clock.{clash, after_given}
use Rattle.clock_sync.specs.Keys.{interval_of, narrowed}
use Rattle.clock_sync.specs.KeptClock.{KeptClock}
use Rattle.clock_sync.specs.StandsFor.{StandsFor}
use Rattle.clock_sync.proofs.KeptClock.{refusal_kept, refused_kept, accepted_kept}
use Rattle.clock_sync.proofs.team_clock.TeamClock.give.Goals as goal

pub returns-in-Some-contradiction-clause-refusal : goal.returns-in-Some-contradiction-clause-refusal
returns-in-Some-contradiction-clause-refusal c p eps k s before =
    let v : KeptClock = c.args.self.now in
    let i : Interval = c.args.given in
    let e : clash (interval_of v.ppm c.args.h v.keys) (aged i 0 v.ppm) ≡ Some c.in-Some-contradiction.disjoint = grind arith in
    refusal_kept p eps c.args.h i v k (grind arith) (grind arith) s before ∙ e

pub returns-in-Some-contradiction-clause-given : goal.returns-in-Some-contradiction-clause-given
returns-in-Some-contradiction-clause-given c p eps k s before =
    let v : KeptClock = c.args.self.now in
    let i : Interval = c.args.given in
    let e : clash (interval_of v.ppm c.args.h v.keys) (aged i 0 v.ppm) ≡ Some c.in-Some-contradiction.disjoint = grind arith in
    let P : KeptClock → Type 0 = λ w. StandsFor p eps (record w { disjoint = Some c.in-Some-contradiction.disjoint }) (after_given p c.args.h i k) in
    subst P (sym c.self.view_is) (refused_kept p eps c.args.h i v k c.in-Some-contradiction.disjoint (grind arith) (grind arith) s before e)

pub returns-clause-refusal : goal.returns-clause-refusal
returns-clause-refusal c p eps k s before =
    let v : KeptClock = c.args.self.now in
    let i : Interval = c.args.given in
    let e : clash (interval_of v.ppm c.args.h v.keys) (aged i 0 v.ppm) ≡ None = grind arith in
    refusal_kept p eps c.args.h i v k (grind arith) (grind arith) s before ∙ e

pub returns-clause-given : goal.returns-clause-given
returns-clause-given c p eps k s before =
    let v : KeptClock = c.args.self.now in
    let i : Interval = c.args.given in
    let e : clash (interval_of v.ppm c.args.h v.keys) (aged i 0 v.ppm) ≡ None = grind arith in
    let keys : c.narrowed.result ≡ narrowed v.keys c.of.result = grind arith in
    let P : KeptClock → Type 0 = λ w. StandsFor p eps (record w { keys = Some c.narrowed.result }) (after_given p c.args.h i k) in
    subst P (sym c.self.view_is)
    (rw keys (accepted_kept p eps c.args.h i v k c.of.result (grind arith) (grind arith) c.requires.ordered (grind arith) (grind arith) s before e))

pub returns-in-Some-contradiction-clause-kept : goal.returns-in-Some-contradiction-clause-kept
returns-in-Some-contradiction-clause-kept c =
    let refused = λ (w : KeptClock). record w { disjoint = Some c.in-Some-contradiction.disjoint } in
    ap refused c.self.view_is
