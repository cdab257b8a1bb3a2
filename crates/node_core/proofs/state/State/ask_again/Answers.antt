use Rattle.std.proofs.Common.{◌∙◌, sym, ap, subst, Option, IfSome, ℕ}
use Rattle.tw_types.specs.declared.message.UpdateId.{UpdateId}
use Rattle.tw_types.specs.Waiting.{Waiting, first_hole}
use Rattle.node_core.proofs.Waits.{HoleFits, hole_fits}
use Rattle.node_core.proofs.Entered.{asks_is}
use Rattle.node_core.proofs.state.State.ask_again.Goals as goal

pub ask-requires-clause-id : goal.ask-requires-clause-id
ask-requires-clause-id c = (subst (λ (o : Option (UpdateId × ℕ)). IfSome o (HoleFits c.args.self.now.team.n)) (sym c.hole.ensures ∙ c.in-Some.is) (hole_fits c.args.self.now.team.n c.args.self.now.store.waiting.held c.requires.fits.waiting.held)).id

pub ask-requires-clause-source : goal.ask-requires-clause-source
ask-requires-clause-source c = (subst (λ (o : Option (UpdateId × ℕ)). IfSome o (HoleFits c.args.self.now.team.n)) (sym c.hole.ensures ∙ c.in-Some.is) (hole_fits c.args.self.now.team.n c.args.self.now.store.waiting.held c.requires.fits.waiting.held)).source

pub returns-in-Some-clause-stands : goal.returns-in-Some-clause-stands
returns-in-Some-clause-stands c = λ team r s.
    rw (asks_is c.args.now.now r (c.in-Some.id, c.in-Some.source) (ap (λ (w : Waiting). first_hole w.held) s.process.waiting ∙ sym c.hole.ensures ∙ c.in-Some.is)) (c.ask.ensures.stands team r s)
