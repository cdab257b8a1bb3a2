use Rattle.std.proofs.Common.{◌≡◌, subst, Result, Ok, arith}
use Rattle.tw_machine.specs.Types.{Team, Datagram, WireFault}
use Rattle.tw_machine.specs.Event.{Packet}
use Rattle.tw_machine.specs.Step.{row_answer}
use Rattle.wire_body.specs.Reading.{datagram_at}
use Rattle.wire_body.proofs.Datagrams.{datagram_again}
use Rattle.world.specs.Deeds.{HasTaken}
use Rattle.world.proofs.node.receive.Goals as goal

pub returns-clause-received : goal.returns-clause-received
returns-clause-received c = λ team d p sound line fits spelled same stands known.
    let read : datagram_at team c.args.bytes.now ≡ Ok d = datagram_again team c.args.bytes.now line (omega (arith, sound.at_most_fifteen)) (λ i. omega (arith, c.type_inv.bytes i)) d fits spelled in
    subst (λ (r : Result Datagram WireFault). HasTaken team c.args.h (Packet r) c.step.new.self (row_answer c.step.result) c.step.new.out p) read
    (subst (λ (t : Team). HasTaken t c.args.h (Packet (datagram_at t c.args.bytes.now)) c.step.new.self (row_answer c.step.result) c.step.new.out p) same
    (record { process = c.step.ensures.stands p stands known; answer = c.step.ensures.answer p stands known; out = c.step.ensures.out p stands known }))
