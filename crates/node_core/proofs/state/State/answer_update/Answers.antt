use Rattle.std.proofs.Common.{◌≡◌, ◌∙◌, refl, sym, ap, subst, Option, Some, IfSome}
use Rattle.std.specs.Option.{option_copied}
use Rattle.tw_types.specs.declared.message.Kept.{Kept}
use Rattle.tw_types.specs.declared.datagram.Body.TheVariants as bodies
use Rattle.tw_machine.specs.Updating.{held_update}
use Rattle.node_core.specs.InRange.{ListedFits}
use Rattle.node_core.proofs.Concerns.{sent_alike}
use Rattle.node_core.proofs.Uses.{answer_found, sent_again_fits}
use Rattle.node_core.proofs.state.State.answer_update.Goals as goal

pub returns-clause-stands : goal.returns-clause-stands
returns-clause-stands c = λ team r s.
    let found : held_update c.args.id.now r.process ≡ Some c.in-Some.kept.now = sym (c.held_update.ensures.exact r.process s.process) ∙ rw c.in-Some.is refl in
    rw (answer_found c.args.now.now c.args.from c.args.id.now r c.in-Some.kept.now found)
    (sent_alike team c.args.self.now c.send_to.new.out c.args.now.now c.args.from r _ _ (ap (λ (k : Kept). bodies.Update k) c.as_sent.ensures) (c.send_to.ensures.stands team r s))

pub returns-clause-dropped : goal.returns-clause-dropped
returns-clause-dropped c = λ team r s.
    let found : held_update c.args.id.now r.process ≡ Some c.in-Some.kept.now = sym (c.held_update.ensures.exact r.process s.process) ∙ rw c.in-Some.is refl in
    rw (answer_found c.args.now.now c.args.from c.args.id.now r c.in-Some.kept.now found) refl

pub returns-clause-gives : goal.returns-clause-gives
returns-clause-gives c =
    let n = c.args.self.now.team.n in
    let is : option_copied c.held_update.result ≡ Some c.in-Some.kept.now = rw c.in-Some.is refl in
    let listed : ListedFits n c.in-Some.kept.now = subst (λ (o : Option Kept). IfSome o (ListedFits n)) is c.held_update.ensures.fits in
    record { fits = λ all. c.send_to.ensures.fits (λ head from incarnation. rw c.as_sent.ensures (sent_again_fits n c.in-Some.kept.now listed)) all; few = c.send_to.ensures.few; passes = c.send_to.ensures.passes; earlies = c.send_to.ensures.earlies }
