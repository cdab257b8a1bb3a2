-- The bytes of the datagrams that were sent.
use Rattle.std.specs.Prelude.{ℕ, ◌+◌, ◌*◌, ◌≤◌, ◌≡◌, ◌==◌, Bool, false, List, map, Option, Some, None, slice_range, vec_len, vec_capacity}
use Rattle.std.specs.List.{AllByRecursion}
use Rattle.tw_machine.specs.Types.{Team, Datagram}
use Rattle.tw_types.specs.Spelling.{spelling}
use Rattle.tw_machine.specs.Dispatches.{Dispatch}
use Rattle.node_core.specs.Sends.{IsSendable}
use Rattle.world.specs.declared.sent.Place.{Place}
use Rattle.world.specs.declared.sent.Sent.{Sent}

-- a receiver, and the bytes at a place
abbrev pub at_place : List ℕ → Place → ℕ × List ℕ
at_place bytes p = (p.to, slice_range bytes p.start p.end)

-- what was sent, each with its receiver, in the order in which it was sent
abbrev pub datagrams : Sent → List (ℕ × List ℕ)
datagrams s = map (at_place s.bytes.items) s.places.items

-- there is room for so many datagrams more
pub record HasRoom (k : ℕ) (s : Sent) : Type 0 where
  pub bytes : vec_len s.bytes + k * 4096 ≤ vec_capacity s.bytes
  pub places : vec_len s.places + k ≤ vec_capacity s.places

-- a place is that of a datagram to this process
abbrev pub is_to : ℕ → Option Place → Bool
is_to who None = false
is_to who (Some p) = p.to == who

-- a datagram's one spelling in the line of this number, with its receiver
abbrev pub spelled : ℕ → ℕ × Datagram → ℕ × List ℕ
spelled line s = (s.0, spelling line s.1)

-- the same of one that was sent before
abbrev pub kept_as : ℕ → Dispatch → ℕ × List ℕ
kept_as line d = spelled line (d.to, d.datagram)

abbrev pub WasSendable : ℕ → Dispatch → Type 0
WasSendable n d = IsSendable n (d.to, d.datagram)

-- what is kept is what these datagrams spell, each of which a process of the team may send
pub record SentStandsFor (team : Team) (kept : Sent) (sent : List Dispatch) : Type 0 where
  pub spelled : datagrams kept ≡ map (kept_as team.line) sent
  pub fits : AllByRecursion (WasSendable team.n) sent
