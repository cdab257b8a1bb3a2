use Rattle.std.proofs.Common.{arith, ◌≡◌, ◌∙◌, refl, sym, Some, None}
use Rattle.tw_types.specs.Refusals.{first_refusal}
use Rattle.tw_machine.specs.Taking.{decision_tests}
use Rattle.node_core.proofs.Concerns.{if_none, wanted_is, unwanted_is}
use Rattle.node_core.proofs.state.State.take_decision.Goals as goal

pub enter_decision-requires-clause-promised : goal.enter_decision-requires-clause-promised
enter_decision-requires-clause-promised c = let same : c.args.d.now.group ≡ c.args.self.now.vote.promised = if_none c.refuse_decision.result _ c.in_default.is c.refuse_decision.ensures.promised in omega (arith, same)

pub returns-in-Some-clause-stands : goal.returns-in-Some-clause-stands
returns-in-Some-clause-stands c = λ team r s.
    let some : first_refusal (decision_tests r.process c.args.d.now) ≡ Some c.in-Some.reason = sym (c.refuse_decision.ensures.exact r.process s.process) ∙ c.in-Some.is in
    rw (unwanted_is c.args.now.now c.args.d.now r c.in-Some.reason some) s

pub returns-in-Some-clause-dropped : goal.returns-in-Some-clause-dropped
returns-in-Some-clause-dropped c = λ team r s.
    let some : first_refusal (decision_tests r.process c.args.d.now) ≡ Some c.in-Some.reason = sym (c.refuse_decision.ensures.exact r.process s.process) ∙ c.in-Some.is in
    rw (unwanted_is c.args.now.now c.args.d.now r c.in-Some.reason some) refl

pub returns-clause-stands : goal.returns-clause-stands
returns-clause-stands c = λ team r s.
    let none : first_refusal (decision_tests r.process c.args.d.now) ≡ None = sym (c.refuse_decision.ensures.exact r.process s.process) ∙ c.in_default.is in
    rw (wanted_is c.args.now.now c.args.d.now r none) (c.enter_decision.ensures.stands team r s)

pub returns-clause-dropped : goal.returns-clause-dropped
returns-clause-dropped c = λ team r s.
    let none : first_refusal (decision_tests r.process c.args.d.now) ≡ None = sym (c.refuse_decision.ensures.exact r.process s.process) ∙ c.in_default.is in
    rw (wanted_is c.args.now.now c.args.d.now r none) (c.enter_decision.ensures.dropped team r s)
