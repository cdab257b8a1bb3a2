-- A datagram that was spelled.
use Rattle.std.specs.Prelude.{ℕ, List, take}
use Rattle.record_text.specs.declared.packet.Packet.{Packet}

-- its receiver, and its bytes
abbrev pub packet_seen : Packet → ℕ × List ℕ
packet_seen p = (p.to, take p.len p.bytes)
