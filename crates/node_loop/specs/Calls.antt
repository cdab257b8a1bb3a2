-- Send calls of a node, and what they leave on its link.
use Rattle.std.specs.Prelude.{ℕ, ◌≡◌, ◌<◌, ◌⊎◌, List, [], ◌∷◌, ◌++◌, map, slice_get, Option, Some, None}
use Rattle.std.specs.List.{flat_map}
use Rattle.tw_io.specs.declared.addr.Addr.{Addr}
use Rattle.tw_io.specs.Link.{Sends, one_sent, one_lost}
use Rattle.tw_types.specs.Spelling.{spelling}
use Rattle.tw_machine.specs.Types.{Datagram}
use Rattle.tw_machine.specs.NodeRun.{Call}
use Rattle.record_text.specs.Addresses.{address_of}

-- a datagram that is sent to a process, as bytes
abbrev pub spelled : ℕ → ℕ × Datagram → ℕ × List ℕ
spelled line s = (s.0, spelling line s.1)

-- it is sent to one of so many processes
abbrev pub IsReachable : ℕ → ℕ × List ℕ → Type 0
IsReachable n packet = packet.0 < n

-- One send call: it fails, and counts all the same, or these bytes are sent to this address.
abbrev pub IsCall : Sends → Call → Sends → Type 0
IsCall before call after = (after ≡ one_lost before) ⊎ ((to : Addr) × (address_of to ≡ call.to) × (after ≡ one_sent to call.bytes before))

-- These send calls and no others, in this order.
abbrev pub AreCalls : Sends → List Call → Sends → Type 0
AreCalls before [] after = after ≡ before
AreCalls before (call ∷ calls) after = (next : Sends) × IsCall before call next × AreCalls next calls after

-- what a link tells before and after these send calls, where it tells it
abbrev pub Sent : Option Sends → List Call → Option Sends → Type 0
Sent before calls after = (s : Sends) → before ≡ Some s → (t : Sends) × (after ≡ Some t) × AreCalls s calls t

-- the send call of a packet to the process of its number
abbrev pub call_at : List ℕ → Option Addr → List Call
call_at bytes None = []
call_at bytes (Some at) = record { to = address_of at; bytes = bytes } ∷ []

abbrev pub calls_of_packets : List Addr → List (ℕ × List ℕ) → List Call
calls_of_packets peers packets = flat_map (λ (p : ℕ × List ℕ). call_at p.1 (slice_get peers p.0)) packets
