use Rattle.std.proofs.Common.{◌≡◌, ◌∙◌, sym, subst, false, ◌≤◌}
use Rattle.tw_machine.specs.Updating.{is_stale}
use Rattle.node_core.specs.StandsFor.{hold_seen}
use Rattle.node_core.proofs.state.State.use_held.Goals as goal

pub enter_decision-requires-clause-promised : goal.enter_decision-requires-clause-promised
enter_decision-requires-clause-promised c = subst (λ x. c.args.d.now.group ≤ x) (c.is_stale.ensures.promised c.if-is_stale.false) (c.requires.group c.in-ToTake.is)

pub returns-in-ToTake-clause-stands : goal.returns-in-ToTake-clause-stands
returns-in-ToTake-clause-stands c = λ team r s.
    let fresh : is_stale (hold_seen c.args.hold) c.args.d.now r.process ≡ false = sym (c.is_stale.ensures.exact r.process s.process) ∙ c.if-is_stale.false in
    rw (fresh, c.in-ToTake.is) (c.enter_decision.ensures.stands team r s)
