use Rattle.std.proofs.Common.{◌∙◌, sym, ap, subst, refl}
use Rattle.tw_machine.specs.Types.{Kept, Decision}
use Rattle.tw_types.specs.Ranges.{SentFits, Ascends, DecisionFits}
use Rattle.tw_types.specs.Appending.{IsAppended, appended_list, with_appended}
use Rattle.node_core.specs.InRange.{KeptFits}
use Rattle.node_core.specs.StandsFor.{identity_seen, belief_seen}
use Rattle.tw_machine.specs.Standing.{member_of}
use Rattle.node_core.proofs.Listing.{all_weaker}
use Rattle.node_core.proofs.Concerns.{last_has}
use Rattle.node_core.proofs.Drafts.{draft_up, draft_down}
use Rattle.node_core.proofs.state.State.draft.Goals as goal

pub append-requires : goal.append-requires
append-requires c = subst (λ (d : Decision). Ascends d.seats.items) (sym c.next_draft-draft.ensures.exact) (last_has (DecisionFits c.args.self.now.team.n) (belief_seen c.args.self.now.belief) c.args.last.now c.requires.fits.view c.requires.last).ascending

pub returns-then-is_up-clause-exact : goal.returns-then-is_up-clause-exact
returns-then-is_up-clause-exact c = draft_up c.args.self.now.team c.args.t c.args.self.now.oal.passed c.args.self.now.store.waiting.pending c.args.last.now c.args.self.now.identity.who _ c.next_draft-draft.result _ c.next_draft-draft.ensures.exact
    (subst (λ x. IsAppended c.args.self.now.team c.args.t x c.next_draft-draft.result c.args.self.now.store.waiting.pending c.append.ensures.exact.0) c.passed-passed.ensures.value c.append.ensures.exact.1) c.append.ensures.exact.2
    (c.append.ensures.listed ∙ ap (λ x. with_appended (appended_list c.args.self.now.team c.args.t x c.next_draft-draft.result c.args.self.now.store.waiting.pending) c.next_draft-draft.result) c.passed-passed.ensures.value) _ (sym c.is_up.ensures ∙ c.if-is_up.true)

pub returns-then-is_up-clause-fits : goal.returns-then-is_up-clause-fits
returns-then-is_up-clause-fits c = c.append.ensures.fits c.args.self.now.team.n (c.next_draft-draft.ensures.fits c.args.self.now.team.n c.args.self.now.vote.promised c.args.self.now.team (member_of (identity_seen c.args.self.now.identity))
    (last_has (DecisionFits c.args.self.now.team.n) (belief_seen c.args.self.now.belief) c.args.last.now c.requires.fits.view c.requires.last) refl c.requires.due c.requires.reading) (all_weaker (KeptFits c.args.self.now.team.n) (λ (k : Kept). SentFits c.args.self.now.team.n k.entry) (λ k h. h.entry) c.args.self.now.store.waiting.pending c.requires.fits.waiting.pending)

pub returns-else-is_up-clause-exact : goal.returns-else-is_up-clause-exact
returns-else-is_up-clause-exact c = draft_down c.args.self.now.team c.args.t c.args.self.now.oal.passed c.args.self.now.store.waiting.pending c.args.last.now c.args.self.now.identity.who c.next_draft-draft.result c.next_draft-draft.ensures.exact _ (sym c.is_up.ensures ∙ c.if-is_up.false)

pub returns-else-is_up-clause-fits : goal.returns-else-is_up-clause-fits
returns-else-is_up-clause-fits c = c.next_draft-draft.ensures.fits c.args.self.now.team.n c.args.self.now.vote.promised c.args.self.now.team (member_of (identity_seen c.args.self.now.identity))
    (last_has (DecisionFits c.args.self.now.team.n) (belief_seen c.args.self.now.belief) c.args.last.now c.requires.fits.view c.requires.last) refl c.requires.due c.requires.reading
