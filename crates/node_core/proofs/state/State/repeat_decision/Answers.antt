use Rattle.std.proofs.Common.{◌≡◌, ◌∙◌, refl, sym, ap, true, false, Some}
use Rattle.tw_types.specs.Beliefs.{last_of}
use Rattle.tw_machine.specs.Standing.{last_decision}
use Rattle.tw_machine.specs.Beating.{is_repeated}
use Rattle.node_core.specs.Outcomes.{says_again}
use Rattle.tw_types.specs.Ranges.{DecisionFits}
use Rattle.node_core.specs.StandsFor.{belief_seen}
use Rattle.node_core.proofs.Concerns.{last_has}
use Rattle.node_core.proofs.Entered.{said_by, says_nothing}
use Rattle.node_core.proofs.state.State.repeat_decision.Goals as goal

pub returns-then-is_repeated-clause-gives : goal.returns-then-is_repeated-clause-gives
returns-then-is_repeated-clause-gives c =
    let last : last_of (belief_seen c.args.self.now.belief) ≡ Some c.in-Some.last.now = sym c.last.ensures ∙ rw c.in-Some.is refl in
    let again : says_again c.args.self.now c.args.now.now.reading ≡ true = sym (c.is_repeated.ensures.here last) ∙ c.if-is_repeated.true in
    record {
      fits = λ all. c.send_to_others.ensures.fits (λ head from incarnation. rw c.copy.ensures (last_has (DecisionFits c.args.self.now.team.n) (belief_seen c.args.self.now.belief) c.in-Some.last.now c.requires.fits.view (sym c.last.ensures ∙ rw c.in-Some.is refl))) all;
      few = rw again c.send_to_others.ensures.few;
      passes = c.send_to_others.ensures.passes;
      earlies = c.send_to_others.ensures.earlies;
    }

pub returns-then-is_repeated-clause-stands : goal.returns-then-is_repeated-clause-stands
returns-then-is_repeated-clause-stands c = λ team r s.
    let last : last_decision r.process ≡ Some c.in-Some.last.now = ap last_of s.process.belief ∙ sym c.last.ensures ∙ rw c.in-Some.is refl in
    let again : is_repeated team r.process c.in-Some.last.now c.args.now.now.reading ≡ true = rw (← s.same_team) (sym (c.is_repeated.ensures.exact r.process s.process) ∙ c.if-is_repeated.true) in
    rw (said_by team c.args.now.now r c.in-Some.last.now true last again) (rw (← c.copy.ensures) (c.send_to_others.ensures.stands team r s))

pub returns-else-is_repeated-clause-stands : goal.returns-else-is_repeated-clause-stands
returns-else-is_repeated-clause-stands c = λ team r s.
    let last : last_decision r.process ≡ Some c.in-Some.last.now = ap last_of s.process.belief ∙ sym c.last.ensures ∙ rw c.in-Some.is refl in
    let again : is_repeated team r.process c.in-Some.last.now c.args.now.now.reading ≡ false = rw (← s.same_team) (sym (c.is_repeated.ensures.exact r.process s.process) ∙ c.if-is_repeated.false) in
    rw (said_by team c.args.now.now r c.in-Some.last.now false last again) s

pub returns-in_default-clause-stands : goal.returns-in_default-clause-stands
returns-in_default-clause-stands c = λ team r s. rw (says_nothing team c.args.now.now r (ap last_of s.process.belief ∙ sym c.last.ensures ∙ rw c.in_default.is refl)) s
