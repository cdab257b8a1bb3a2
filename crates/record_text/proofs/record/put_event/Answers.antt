use Rattle.schedule_text.proofs.Chains.{puts_more, puts_stop, puts_next}
use Rattle.std.proofs.Common.{map}
use Rattle.record_text.specs.Inputs.{input_seen}
use Rattle.record_text.specs.Packets.{packet_seen}
use Rattle.record_text.proofs.Written.{event_in_parts}
use Rattle.record_text.proofs.record.put_event.Goals as goal

pub returns-in_err-put_input : goal.returns-in_err-put_input
returns-in_err-put_input g c = rw (event_in_parts c.args.h (input_seen c.args.input.now) c.args.row.now (map packet_seen c.args.packets.now))
    (puts_stop _ _ c.from_residual.ensures.0 c.in_err-put_input.ensures.cut)

pub returns-in_err-write_before_sends : goal.returns-in_err-write_before_sends
returns-in_err-write_before_sends g c = rw (event_in_parts c.args.h (input_seen c.args.input.now) c.args.row.now (map packet_seen c.args.packets.now))
    (puts_next _ _ c.in_ok-put_input.ensures.written c.from_residual-in_err-write_before_sends.ensures.0 c.in_err-write_before_sends.ensures.cut)

pub returns-in_err-put_packets : goal.returns-in_err-put_packets
returns-in_err-put_packets g c = rw (event_in_parts c.args.h (input_seen c.args.input.now) c.args.row.now (map packet_seen c.args.packets.now))
    (puts_more c.in_ok-put_input.ensures.written
    (puts_next _ _ c.in_ok-write_before_sends.ensures.written c.from_residual-in_err-put_packets.ensures.0 c.in_err-put_packets.ensures.cut))

pub returns : goal.returns
returns g c = rw (event_in_parts c.args.h (input_seen c.args.input.now) c.args.row.now (map packet_seen c.args.packets.now))
    (puts_more c.in_ok-put_input.ensures.written (puts_more c.in_ok-write_before_sends.ensures.written (puts_more c.in_ok-put_packets.ensures.written c.write_entries.ensures)))
