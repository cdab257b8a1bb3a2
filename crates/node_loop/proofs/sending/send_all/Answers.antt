use Rattle.std.proofs.Common.{◌≡◌, sym, ap, subst, ◌∙◌, ◌<◌, ℕ, List, take, length, arith}
use Rattle.std.specs.Prelude.{slice_get}
use Rattle.std.specs.List.{flat_map}
use Rattle.std.proofs.lemmas.List.{take_all}
use Rattle.record_text.specs.Packets.{packet_seen}
use Rattle.node_loop.specs.Calls.{IsReachable, Sent}
use Rattle.node_loop.proofs.Calls.{packet_call, packet_calls, item_of, one_call, calls_item, call_is}
use Rattle.node_loop.proofs.sending.send_all.Goals as goal

pub bounds-peers-from : goal.bounds-peers-from
bounds-peers-from g c = rw c.from.ensures (item_of (IsReachable (length c.args.peers.now)) packet_seen c.args.packets.now c.loop-packet.packet-index c.packet-item.result c.requires (omega arith) c.packet-item.is)

pub loop-packet-preserved : goal.loop-packet-preserved
loop-packet-preserved g c = record {
  sent = calls_item (packet_call c.args.peers.now) c.args.packets.now c.loop-packet.packet-index c.packet-item.result _ _ _ (omega arith) c.packet-item.is c.loop-packet.invariant.sent
      (subst (λ calls. Sent (g.L.Link.sends c.loop-packet.link) calls (g.L.Link.sends c.send.new.self))
      (sym (call_is c.args.peers.now c.packet-item.result c.bytes.result.now c.bytes.ensures.bytes
      (item_of (IsReachable (length c.args.peers.now)) packet_seen c.args.packets.now c.loop-packet.packet-index c.packet-item.result c.requires (omega arith) c.packet-item.is)))
      (rw c.from.ensures at (one_call _ c.bytes.result.now _ _ c.send.result c.send.ensures.sent c.send.ensures.lost)));
  binding = c.send.ensures.binding ∙ c.loop-packet.invariant.binding;
  arriving = c.send.ensures.arriving ∙ c.loop-packet.invariant.arriving;
  faults = c.send.ensures.faults ∙ c.loop-packet.invariant.faults;
}

pub returns-clause-sent : goal.returns-clause-sent
returns-clause-sent g c =
    let all : take c.loop-packet.packet-index c.args.packets.now ≡ c.args.packets.now = take_all c.loop-packet.packet-index c.args.packets.now (omega (arith, c.loop-packet-test.false)) in
    subst (λ calls. Sent (g.L.Link.sends c.args.link.now) calls (g.L.Link.sends c.loop-packet.link))
    (ap (flat_map (packet_call c.args.peers.now)) all ∙ packet_calls c.args.peers.now c.args.packets.now) c.loop-packet.invariant.sent
