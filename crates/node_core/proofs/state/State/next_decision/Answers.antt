use Rattle.std.proofs.Common.{◌≡◌, ◌≤◌, ◌+◌, ◌∙◌, refl, sym, ap, subst, List, [], None, arith}
use Rattle.tw_machine.specs.Types.{Entry, Decision}
use Rattle.tw_types.specs.Refusals.{first_refusal}
use Rattle.tw_types.specs.Logs.{fit_tests_at}
use Rattle.tw_types.specs.Waiting.{payloads_of, held_payloads}
use Rattle.tw_types.specs.Ranges.{DecisionFits}
use Rattle.tw_types.specs.Decisions.{or_none, decision_length}
use Rattle.tw_types.specs.Turns.{finished, next_decision}
use Rattle.tw_types.specs.Process.{Process}
use Rattle.tw_machine.specs.Deciding.{entries_to_add}
use Rattle.node_core.specs.StandsFor.{StandsFor, belief_seen}
use Rattle.node_core.proofs.Concerns.{last_has}
use Rattle.node_core.proofs.Next.{next_fits, added_there, added_near}
use Rattle.node_core.proofs.state.State.next_decision.Goals as goal

pub returns-clause-fits : goal.returns-clause-fits
returns-clause-fits c = c.finish.ensures.fits c.args.self.now.team.n c.draft.ensures.fits

pub returns-clause-exact : goal.returns-clause-exact
returns-clause-exact c = λ p s. c.finish.ensures.exact ∙ ap finished c.draft.ensures.exact.is
    ∙ ap (λ (es : List Entry). next_decision es c.args.last.now c.args.t c.args.self.now.identity.who) (to_add p s)
  where
    to_add : (p : Process) → StandsFor c.args.self.now p → c.draft.ensures.exact.entries ≡ entries_to_add c.args.self.now.team c.args.t c.args.last.now p
    to_add p s = c.draft.ensures.exact.list ∙ rw (s.vote, s.belief, s.waiting, ← s.log.passed) refl

pub returns-clause-group : goal.returns-clause-group
returns-clause-group c = ap (λ (d : Decision). d.group) (c.finish.ensures.exact ∙ ap finished c.draft.ensures.exact.is)

pub returns-clause-list : goal.returns-clause-list
returns-clause-list c =
    let n = c.args.self.now.team.n in
    let w = c.args.self.now.store.waiting in
    let entries : List Entry = c.draft.ensures.exact.entries in
    let fits : DecisionFits n c.args.last.now = last_has (DecisionFits n) (belief_seen c.args.self.now.belief) c.args.last.now c.requires.fits.view c.requires.last in
    let length_is : c.args.self.now.oal.length ≡ decision_length c.args.last.now = c.requires.fits.length ∙ ap (λ o. decision_length (or_none o)) c.requires.last in
    let near : decision_length c.args.last.now ≤ c.args.self.now.oal.passed + 64 = omega (arith, length_is, c.length.ensures.near) in
    let is : next_decision entries c.args.last.now c.args.t c.args.self.now.identity.who ≡ c.finish.result = sym (c.finish.ensures.exact ∙ ap finished c.draft.ensures.exact.is) in
    rw length_is (subst (λ (d : Decision). first_refusal (fit_tests_at (decision_length c.args.last.now) c.args.self.now.oal.passed (payloads_of w) d) ≡ None) is
    (next_fits n c.args.self.now.oal.passed c.args.t c.args.self.now.identity.who (payloads_of w) c.args.last.now entries c.args.self.now.sound.at_least_three fits
    (added_there c.args.self.now.team c.args.t c.args.last.now w.pending (held_payloads w.held) [] entries c.draft.ensures.exact.may.each)
    (added_near c.args.self.now.oal.passed c.args.last.now w.pending entries near c.draft.ensures.exact.may.room)))
