use Rattle.std.proofs.Common.{◌≡◌, ◌∙◌, refl, sym, subst, Option, Some, None, IfSome}
use Rattle.tw_types.specs.declared.message.Kept.{Kept}
use Rattle.tw_types.specs.Updates.{find_update, is_named}
use Rattle.tw_types.specs.Waiting.{payloads_of}
use Rattle.node_core.specs.InRange.{ListedFits}
use Rattle.node_core.proofs.Listing.{found_one}
use Rattle.node_core.proofs.Waits.{payloads_fit}
use Rattle.node_core.proofs.Uses.{held_here, found_in_front, found_behind, waits_listed}
use Rattle.node_core.proofs.state.State.held_update.Goals as goal

pub returns-in-Some-clause-exact : goal.returns-in-Some-clause-exact
returns-in-Some-clause-exact c = λ p s.
    let found : find_update c.args.id.now c.args.self.now.oal.kept ≡ Some c.in-Some.kept.now = sym c.find.ensures.exact ∙ rw c.in-Some.is refl in
    sym (held_here c.args.self.now p c.args.id.now s ∙ found_in_front (is_named c.args.id.now) c.args.self.now.oal.kept (payloads_of c.args.self.now.store.waiting) c.in-Some.kept.now found)

pub returns-in-Some-clause-fits : goal.returns-in-Some-clause-fits
returns-in-Some-clause-fits c =
    let found : find_update c.args.id.now c.args.self.now.oal.kept ≡ Some c.in-Some.kept.now = sym c.find.ensures.exact ∙ rw c.in-Some.is refl in
    subst (λ (o : Option Kept). IfSome o (ListedFits c.args.self.now.team.n)) found (found_one (ListedFits c.args.self.now.team.n) (is_named c.args.id.now) c.args.self.now.oal.kept c.requires.fits.updates.listed)

pub returns-clause-exact : goal.returns-clause-exact
returns-clause-exact c = λ p s.
    let none : find_update c.args.id.now c.args.self.now.oal.kept ≡ None = sym c.find.ensures.exact ∙ rw c.in_default.is refl in
    c.find-2.ensures.exact ∙ sym (held_here c.args.self.now p c.args.id.now s ∙ found_behind (is_named c.args.id.now) c.args.self.now.oal.kept (payloads_of c.args.self.now.store.waiting) none)

pub returns-clause-fits : goal.returns-clause-fits
returns-clause-fits c = rw c.find-2.ensures.exact (waits_listed c.args.self.now.team.n c.args.id.now (payloads_of c.args.self.now.store.waiting) (payloads_fit c.args.self.now.team.n c.args.self.now.store.waiting c.requires.fits.waiting))
