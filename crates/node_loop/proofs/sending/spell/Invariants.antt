use Rattle.std.proofs.Common.{◌≡◌, take, map, length}
use Rattle.record_text.specs.Packets.{packet_seen}
use Rattle.node_loop.specs.Calls.{spelled}
use Rattle.node_loop.proofs.sending.spell.Given as goal

abbrev pub invariant-loop-to : goal.invariant-loop-to
invariant-loop-to l = record {
  spelled : map packet_seen l.packets ≡ map (spelled l.team.line) (take l.to-index l.sends);
  count : length l.packets ≡ l.to-index;
}
