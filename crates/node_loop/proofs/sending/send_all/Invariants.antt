use Rattle.std.proofs.Common.{◌≡◌, take}
use Rattle.std.specs.List.{flat_map}
use Rattle.node_loop.specs.Calls.{Sent}
use Rattle.node_loop.proofs.Calls.{packet_call}
use Rattle.node_loop.proofs.sending.send_all.Given as goal

abbrev pub invariant-loop-packet : goal.invariant-loop-packet
invariant-loop-packet g l = record {
  sent : Sent (g.L.Link.sends l.fn.link) (flat_map (packet_call l.peers) (take l.packet-index l.packets)) (g.L.Link.sends l.link);
  binding : g.L.Link.binding l.link ≡ g.L.Link.binding l.fn.link;
  arriving : g.L.Link.arriving l.link ≡ g.L.Link.arriving l.fn.link;
  faults : g.L.Link.faults l.link ≡ g.L.Link.faults l.fn.link;
}
