use Rattle.std.proofs.Common.{arith}
use Rattle.tw_machine.specs.Record.{packet_line}
use Rattle.record_text.specs.Packets.{packet_seen}
use Rattle.schedule_text.proofs.Chains.{puts_lent, written_lent}
use Rattle.record_text.proofs.Written.{packet_text, over_map, all_written}
use Rattle.record_text.proofs.record.put_packets.Goals as goal

pub returns-in_err-put_packet : goal.returns-in_err-put_packet
returns-in_err-put_packet g c = rw (over_map packet_line packet_seen c.args.packets.now)
    (puts_lent _ packet_text c.args.packets.now c.loop-packet.packet-index c.packet-item.result (omega arith) c.packet-item.is c.loop-packet.invariant c.from_residual.ensures.0 c.in_err-put_packet.ensures.cut)

pub loop-packet-preserved : goal.loop-packet-preserved
loop-packet-preserved g c = written_lent packet_text c.args.packets.now c.loop-packet.packet-index c.packet-item.result (omega arith) c.packet-item.is c.loop-packet.invariant c.in_ok-put_packet.ensures.written

pub returns : goal.returns
returns g c = record { written = all_written c.args.packets.now c.loop-packet.packet-index c.loop-packet-test.false c.loop-packet.invariant; cut = tt }
