use Rattle.std.proofs.Common.{refl, sym, ap, ℕ, List}
use Rattle.tw_machine.specs.Event.{Tick, Send, Reference}
use Rattle.tw_machine.specs.World.{happen}
use Rattle.world.proofs.Acts.{event_done, receive_done}
use Rattle.world.proofs.node.happen.Goals as goal

pub returns-in-Tick-clause-done : goal.returns-in-Tick-clause-done
returns-in-Tick-clause-done c = λ team before sent sound line stands there ready runs. rw c.row_answer.ensures (event_done team c.args.step.now.who c.args.step.now.h c.args.step.now.act sent c.args.core.now c.step.new.self _ c.step.new.out before
    Tick (λ p. rw c.in-Tick.is refl) (rw c.in-Tick.is at ready) c.step.ensures.team (λ p s k. record { process = c.step.ensures.stands p s k; answer = c.step.ensures.answer p s k; out = c.step.ensures.out p s k }))

pub returns-in-Recv-clause-done : goal.returns-in-Recv-clause-done
returns-in-Recv-clause-done c = λ team before sent sound line stands there ready runs. rw c.row_answer-in-Recv.ensures (receive_done team c.args.step.now.who c.args.step.now.h c.in-Recv.number c.args.step.now.act c.args.sent.now sent c.bytes.result.now
    c.args.core.now c.receive.new.core _ c.receive.new.out before c.in-Recv.is stands (rw c.in-Recv.is at there) c.bytes.ensures ready c.receive.ensures.team
    (λ d p fits spelled same s k. c.receive.ensures.received team d p sound line fits spelled same s k))

pub returns-in-Send-clause-done : goal.returns-in-Send-clause-done
returns-in-Send-clause-done c = λ team before sent sound line stands there ready runs. rw c.send_answer.ensures (event_done team c.args.step.now.who c.args.step.now.h c.args.step.now.act sent c.args.core.now c.propose.new.self _ c.propose.new.out before
    (Send c.in-Send.order c.in-Send.atom c.as_slice.result.now) (λ p. rw c.in-Send.is (ap (λ (bytes : List ℕ). happen team c.args.step.now.h (Send c.in-Send.order c.in-Send.atom bytes) p) (sym c.as_slice.ensures.value))) (rw c.in-Send.is at ready) c.propose.ensures.team
    (λ p s k. record { process = c.propose.ensures.stands p s k; answer = c.propose.ensures.answer p s k; out = c.propose.ensures.out p s k }))

pub returns-in-Reference-clause-done : goal.returns-in-Reference-clause-done
returns-in-Reference-clause-done c = λ team before sent sound line stands there ready runs. rw c.row_answer-in-Reference.ensures (event_done team c.args.step.now.who c.args.step.now.h c.args.step.now.act sent c.args.core.now
    c.step-in-Reference.new.self _ c.step-in-Reference.new.out before (Reference c.in-Reference.lo c.in-Reference.hi) (λ p. rw c.in-Reference.is refl) (rw c.in-Reference.is at ready) c.step-in-Reference.ensures.team
    (λ p s k. record { process = c.step-in-Reference.ensures.stands p s k; answer = c.step-in-Reference.ensures.answer p s k; out = c.step-in-Reference.ensures.out p s k }))
