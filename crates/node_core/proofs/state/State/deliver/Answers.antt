use Rattle.std.proofs.Common.{◌∙◌, sym, ap}
use Rattle.tw_types.specs.Beliefs.{last_of}
use Rattle.node_core.proofs.InTurn.{Delivers, delivers_up, up_alike}
use Rattle.node_core.proofs.state.State.deliver.Goals as goal

pub returns-then-is_up-clause-stands : goal.returns-then-is_up-clause-stands
returns-then-is_up-clause-stands c = λ team r s.
    let d : Delivers team c.args.t r = delivers_up team c.args.t r (up_alike team c.args.t c.args.self.now c.args.out.now r s ∙ sym c.is_up.ensures ∙ c.if-is_up.true) in
    rw d.is (c.deliver_all.ensures.stands team d.last r (sym (ap last_of s.process.belief) ∙ d.taken) s)
