use Rattle.std.proofs.Common.{◌≡◌, ◌∙◌, sym, ap, Option, Some}
use Rattle.std.specs.Option.{option_and_then}
use Rattle.tw_types.specs.declared.ballot.Ballot.{Ballot}
use Rattle.node_core.specs.Outcomes.{best_of}
use Rattle.node_core.proofs.Entered.{best_is}
use Rattle.node_core.proofs.state.State.hold_best.Goals as goal

pub returns-in-Some-clause-stands : goal.returns-in-Some-clause-stands
returns-in-Some-clause-stands c = λ team ballot r held s.
    let best : best_of ballot ≡ Some (c.in-Some.best, c.in-Some.source) = ap (λ (o : Option Ballot). option_and_then best_of o) (sym held ∙ s.process.ballot) ∙ sym c.best.ensures.exact ∙ c.in-Some.is in
    rw (best_is c.args.now.now ballot c.args.id r (Some (c.in-Some.best, c.in-Some.source)) best) (c.hold_for.ensures.stands team r s)
