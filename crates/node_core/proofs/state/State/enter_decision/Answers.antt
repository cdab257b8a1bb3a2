use Rattle.std.proofs.Common.{◌≡◌, ◌∙◌, ap, refl}
use Rattle.tw_types.specs.Waiting.{payloads_of}
use Rattle.tw_types.specs.Process.{ToTake}
use Rattle.tw_types.specs.declared.answer.Reason.TheVariants.{Gap, Behind}
use Rattle.tw_machine.specs.Run.{done, dropped}
use Rattle.tw_machine.specs.Entering.{enter_decision, decision_entered, decision_held, dropped_missing}
use Rattle.node_core.specs.Outcomes.{list_reason}
use Rattle.node_core.proofs.Waits.{maker_below}
use Rattle.node_core.proofs.Fitting.{fault_is, by_answer, missing_fits}
use Rattle.node_core.proofs.state.State.enter_decision.Goals as goal

pub enter-requires-clause-list : goal.enter-requires-clause-list
enter-requires-clause-list c = c.fits_list.ensures ∙ ap list_reason c.in-Ok.is

pub hold_for-requires-clause-source : goal.hold_for-requires-clause-source
hold_for-requires-clause-source c = maker_below c.args.self.now.team.n c.args.d.now.maker c.args.d.now.made c.args.d.now.seats.items c.requires.decision.maker c.requires.decision.seats

pub hold_for-requires-clause-id : goal.hold_for-requires-clause-id
hold_for-requires-clause-id c = missing_fits c.args.self.now.team.n c.args.self.now.oal.length c.args.self.now.oal.passed (payloads_of c.args.self.now.store.waiting) c.args.d.now c.in-Err-Missing.id c.requires.decision.window
    (c.fits_list.ensures ∙ ap list_reason (fault_is c.fits_list.result c.in-Err-Missing.field-0 _ c.in-Err-Missing.is c.in-Err-Missing.field-0-is))

pub returns-in-Ok-clause-stands : goal.returns-in-Ok-clause-stands
returns-in-Ok-clause-stands c = λ team r s.
    let is : enter_decision c.args.now.now c.args.d.now r ≡ done (decision_entered c.args.d.now r) =
    by_answer c.args.now.now c.args.d.now r c.args.self.now.oal (payloads_of c.args.self.now.store.waiting) c.fits_list.result _ s.process.log (ap payloads_of s.process.waiting) c.fits_list.ensures c.in-Ok.is in
    rw is (record { same_team = c.enter.ensures.team ∙ s.same_team; process = c.enter.ensures.stands r.process s.process; given = s.given })

pub returns-in-Ok-clause-dropped : goal.returns-in-Ok-clause-dropped
returns-in-Ok-clause-dropped c = λ team r s.
    let is : enter_decision c.args.now.now c.args.d.now r ≡ done (decision_entered c.args.d.now r) =
    by_answer c.args.now.now c.args.d.now r c.args.self.now.oal (payloads_of c.args.self.now.store.waiting) c.fits_list.result _ s.process.log (ap payloads_of s.process.waiting) c.fits_list.ensures c.in-Ok.is in
    rw is refl

pub returns-in-Err-Missing-clause-stands : goal.returns-in-Err-Missing-clause-stands
returns-in-Err-Missing-clause-stands c = λ team r s.
    let is : enter_decision c.args.now.now c.args.d.now r ≡ dropped_missing c.in-Err-Missing.id (decision_held c.args.now.now ToTake c.args.d.now c.args.d.now.maker c.in-Err-Missing.id r) =
    by_answer c.args.now.now c.args.d.now r c.args.self.now.oal (payloads_of c.args.self.now.store.waiting) c.fits_list.result _ s.process.log (ap payloads_of s.process.waiting) c.fits_list.ensures (fault_is c.fits_list.result c.in-Err-Missing.field-0 _ c.in-Err-Missing.is c.in-Err-Missing.field-0-is) in
    rw is (c.hold_for.ensures.stands team r s)

pub returns-in-Err-Missing-clause-dropped : goal.returns-in-Err-Missing-clause-dropped
returns-in-Err-Missing-clause-dropped c = λ team r s.
    let is : enter_decision c.args.now.now c.args.d.now r ≡ dropped_missing c.in-Err-Missing.id (decision_held c.args.now.now ToTake c.args.d.now c.args.d.now.maker c.in-Err-Missing.id r) =
    by_answer c.args.now.now c.args.d.now r c.args.self.now.oal (payloads_of c.args.self.now.store.waiting) c.fits_list.result _ s.process.log (ap payloads_of s.process.waiting) c.fits_list.ensures (fault_is c.fits_list.result c.in-Err-Missing.field-0 _ c.in-Err-Missing.is c.in-Err-Missing.field-0-is) in
    rw is refl

pub returns-in-Err-Gap-clause-stands : goal.returns-in-Err-Gap-clause-stands
returns-in-Err-Gap-clause-stands c = λ team r s.
    let is : enter_decision c.args.now.now c.args.d.now r ≡ dropped Gap r =
    by_answer c.args.now.now c.args.d.now r c.args.self.now.oal (payloads_of c.args.self.now.store.waiting) c.fits_list.result _ s.process.log (ap payloads_of s.process.waiting) c.fits_list.ensures (fault_is c.fits_list.result c.in-Err-Gap.field-0 _ c.in-Err-Gap.is c.in-Err-Gap.field-0-is) in
    rw is s

pub returns-in-Err-Gap-clause-dropped : goal.returns-in-Err-Gap-clause-dropped
returns-in-Err-Gap-clause-dropped c = λ team r s.
    let is : enter_decision c.args.now.now c.args.d.now r ≡ dropped Gap r =
    by_answer c.args.now.now c.args.d.now r c.args.self.now.oal (payloads_of c.args.self.now.store.waiting) c.fits_list.result _ s.process.log (ap payloads_of s.process.waiting) c.fits_list.ensures (fault_is c.fits_list.result c.in-Err-Gap.field-0 _ c.in-Err-Gap.is c.in-Err-Gap.field-0-is) in
    rw is refl

pub returns-in-Err-Behind-clause-stands : goal.returns-in-Err-Behind-clause-stands
returns-in-Err-Behind-clause-stands c = λ team r s.
    let is : enter_decision c.args.now.now c.args.d.now r ≡ dropped Behind r =
    by_answer c.args.now.now c.args.d.now r c.args.self.now.oal (payloads_of c.args.self.now.store.waiting) c.fits_list.result _ s.process.log (ap payloads_of s.process.waiting) c.fits_list.ensures (fault_is c.fits_list.result c.in-Err-Behind.field-0 _ c.in-Err-Behind.is c.in-Err-Behind.field-0-is) in
    rw is s

pub returns-in-Err-Behind-clause-dropped : goal.returns-in-Err-Behind-clause-dropped
returns-in-Err-Behind-clause-dropped c = λ team r s.
    let is : enter_decision c.args.now.now c.args.d.now r ≡ dropped Behind r =
    by_answer c.args.now.now c.args.d.now r c.args.self.now.oal (payloads_of c.args.self.now.store.waiting) c.fits_list.result _ s.process.log (ap payloads_of s.process.waiting) c.fits_list.ensures (fault_is c.fits_list.result c.in-Err-Behind.field-0 _ c.in-Err-Behind.is c.in-Err-Behind.field-0-is) in
    rw is refl
