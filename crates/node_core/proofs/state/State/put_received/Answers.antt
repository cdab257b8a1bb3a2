use Rattle.std.proofs.Common.{◌∙◌, sym, true, false}
use Rattle.tw_types.specs.Beliefs.{view_decision}
use Rattle.tw_machine.specs.Standing.{member_of}
use Rattle.node_core.specs.StandsFor.{identity_seen, belief_seen}
use Rattle.node_core.proofs.Keeping.{own_received, received_here}
use Rattle.node_core.proofs.state.State.put_received.Goals as goal

pub returns-then-is_seated-clause-answer : goal.returns-then-is_seated-clause-answer
returns-then-is_seated-clause-answer c = λ p s. sym (received_here c.args.self.now p c.args.kept.now s
    ∙ own_received (member_of (identity_seen c.args.self.now.identity)) (view_decision (belief_seen c.args.self.now.belief)) c.args.kept.now c.args.self.now.store.waiting true (sym c.came_back.ensures ∙ c.if-not-came_back.false) (sym c.is_seated.ensures ∙ c.if-is_seated.true))

pub returns-else-is_seated-clause-answer : goal.returns-else-is_seated-clause-answer
returns-else-is_seated-clause-answer c = λ p s. sym (received_here c.args.self.now p c.args.kept.now s
    ∙ own_received (member_of (identity_seen c.args.self.now.identity)) (view_decision (belief_seen c.args.self.now.belief)) c.args.kept.now c.args.self.now.store.waiting false (sym c.came_back.ensures ∙ c.if-not-came_back.false) (sym c.is_seated.ensures ∙ c.if-is_seated.false))
