use Rattle.std.proofs.Common.{◌≡◌, ◌∙◌, refl, sym, Some}
use Rattle.node_core.specs.Outcomes.{whole_held}
use Rattle.node_core.specs.StandsFor.{hold_seen}
use Rattle.node_core.proofs.Uses.{uses_is}
use Rattle.node_core.proofs.state.State.use_if_whole.Goals as goal

pub returns-in-Some-clause-stands : goal.returns-in-Some-clause-stands
returns-in-Some-clause-stands c = λ team r s.
    let whole : whole_held r.process ≡ Some (c.in-Some.d, hold_seen c.in-Some.hold) = sym (c.whole_held.ensures.exact r.process s.process) ∙ rw c.in-Some.is refl in
    rw (uses_is c.args.now.now r (c.in-Some.d, hold_seen c.in-Some.hold) whole) (c.use_held.ensures.stands team r s)
