use Rattle.std.proofs.Common.{◌∙◌}
use Rattle.tw_machine.specs.Event as event
use Rattle.wire_body.specs.Reading.{datagram_at}
use Rattle.node_loop.proofs.Happened.{taken, to_look}
use Rattle.node_loop.proofs.process.take.Goals as goal

pub returns-in-Tick-clause-happened : goal.returns-in-Tick-clause-happened
returns-in-Tick-clause-happened g c = rw c.in-Tick.is (λ p s k.
    taken g.A.Machine.empty g.A.Machine.after c.args.core.now.state.team c.args.h event.Tick _ _ _ p k (c.step.ensures.stands p s k) (c.row_answer.ensures ∙ c.step.ensures.answer p s k) (c.step.ensures.out p s k))

pub returns-in-Packet-clause-happened : goal.returns-in-Packet-clause-happened
returns-in-Packet-clause-happened g c = rw c.in-Packet.is (λ p s k.
    taken g.A.Machine.empty g.A.Machine.after c.args.core.now.state.team c.args.h (event.Packet (datagram_at c.args.core.now.state.team c.in-Packet.bytes.now)) _ _ _ p k (c.step-in-Packet.ensures.stands p s k)
    (c.row_answer-in-Packet.ensures ∙ c.step-in-Packet.ensures.answer p s k) (c.step-in-Packet.ensures.out p s k))

pub returns-in-Reference-clause-happened : goal.returns-in-Reference-clause-happened
returns-in-Reference-clause-happened g c = rw c.in-Reference.is (λ p s k.
    taken g.A.Machine.empty g.A.Machine.after c.args.core.now.state.team c.args.h (event.Reference c.in-Reference.lo c.in-Reference.hi) _ _ _ p k (c.step-in-Reference.ensures.stands p s k)
    (c.row_answer-in-Reference.ensures ∙ c.step-in-Reference.ensures.answer p s k) (c.step-in-Reference.ensures.out p s k))

pub returns-in-Send-clause-happened : goal.returns-in-Send-clause-happened
returns-in-Send-clause-happened g c = rw c.in-Send.is (λ p s k.
    taken g.A.Machine.empty g.A.Machine.after c.args.core.now.state.team c.args.h (event.Send c.in-Send.order c.in-Send.atom c.in-Send.payload.now) _ _ _ p k (c.propose.ensures.stands p s k)
    (c.send_answer.ensures ∙ c.propose.ensures.answer p s k) (c.propose.ensures.out p s k))
