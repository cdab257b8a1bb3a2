-- The events of the code.
use Rattle.std.specs.Prelude.{◌≤◌, ◌<◌, ◌^◌}
use Rattle.tw_types.specs.declared.team.Team.{Team}
use Rattle.tw_machine.specs.Event as machine
use Rattle.wire_body.specs.Reading.{datagram_at}
use Rattle.node_core.specs.declared.process.Event.{Event}
use Rattle.node_core.specs.declared.process.Event.TheVariants.{Tick, Packet, Reference}

-- a packet is what the wire says of its bytes
abbrev pub event_seen : Team → Event → machine.Event
event_seen team Tick = machine.Event.Tick
event_seen team (Packet bytes) = machine.Event.Packet (datagram_at team bytes.now)
event_seen team (Reference lo hi) = machine.Event.Reference lo hi

-- an interval that is given ends below 2^60, and not before it begins
abbrev pub IsGivable : Event → Type 0
IsGivable Tick = Unit {0}
IsGivable (Packet bytes) = Unit {0}
IsGivable (Reference lo hi) = (lo ≤ hi) × (hi < 2 ^ 60)
