-- What stands in a core's inbox: a datagram that was read there, where one was taken.
use Rattle.std.specs.Prelude.{Bool, true, false, Option, Some, None, Result, Ok, Err}
use Rattle.tw_machine.specs.Types.{Datagram, Reason}

-- the datagram of the inbox, where it is taken, or why it isn't
abbrev pub taken_in : Result (Unit {0}) Reason → Datagram → Result Datagram Reason
taken_in (Ok done) inbox = Ok inbox
taken_in (Err reason) inbox = Err reason

abbrev pub packet_if : Bool → Datagram → Option Datagram
packet_if true inbox = Some inbox
packet_if false inbox = None

-- what is left of an event: its packet, if it has one, which stands in the inbox, or why it is dropped
abbrev pub packet_in : Result Bool Reason → Datagram → Result (Option Datagram) Reason
packet_in (Ok has_packet) inbox = Ok (packet_if has_packet inbox)
packet_in (Err reason) inbox = Err reason
