-- What a link for datagrams tells of itself: where it was bound, what was sent on it, and what is to arrive.
use Rattle.std.specs.Prelude.{ℕ, ◌≡◌, min, List, [], ◌∷◌, ◌++◌, length, take, Option, Some, None}
use Rattle.tw_io.specs.declared.addr.Addr.{Addr}
use Rattle.tw_io.specs.declared.addr.Came.{Came}
use Rattle.tw_io.specs.Faults.{one_more}

-- How often a link was bound, and to which address the last time. Counts are those of 64 bits, which stay at their last value.
pub record Binding : Type 0 where
  pub times : ℕ
  pub last : Option Addr

-- a link that was never bound
abbrev pub unbound : Binding
unbound = record { times = 0; last = None }

-- bound once more
abbrev pub bound_to : Addr → Binding → Binding
bound_to own b = record { times = one_more b.times; last = Some own }

-- a send call that didn't fail: its number among the link's send calls, from 1, with its address and bytes
pub record Sent : Type 0 where
  pub number : ℕ
  pub to : Addr
  pub bytes : List ℕ

-- how many send calls there were, failed ones too, and those that didn't fail, in their order
pub record Sends : Type 0 where
  pub calls : ℕ
  pub sent : List Sent

-- nothing sent yet
abbrev pub unsent : Sends
unsent = record { calls = 0; sent = [] }

-- after one more send call, which failed
abbrev pub one_lost : Sends → Sends
one_lost s = record { calls = one_more s.calls; sent = s.sent }

-- after one more send call, which didn't fail
abbrev pub one_sent : Addr → List ℕ → Sends → Sends
one_sent to bytes s = record { calls = one_more s.calls; sent = s.sent ++ record { number = one_more s.calls; to = to; bytes = bytes } ∷ [] }

-- a datagram that is to arrive
pub record Arrival : Type 0 where
  pub from : Addr
  pub bytes : List ℕ

-- What is to arrive is a list with an item for each call to come: a datagram, or None where nothing is there at that call.
abbrev pub next_arrival : List (Option Arrival) → Option Arrival
next_arrival [] = None
next_arrival (item ∷ items) = item

-- what is to arrive after that; nothing is there after the end of the list
abbrev pub arrivals_after : List (Option Arrival) → List (Option Arrival)
arrivals_after [] = []
arrivals_after (item ∷ items) = items

-- how much of a datagram is received: a longer one is cut to 4096 bytes
abbrev pub received : List ℕ → ℕ
received bytes = min (length bytes) 4096

-- what a receiver is told of it: the sender, and how many bytes it gets
abbrev pub came_of : Option Arrival → Option Came
came_of None = None
came_of (Some a) = Some (record { from = a.from; len = received a.bytes })

-- so much of the datagram stands at the front of the buffer
abbrev pub StandsIn : Option Arrival → List ℕ → Type 0
StandsIn None buf = Unit {0}
StandsIn (Some a) buf = take (received a.bytes) buf ≡ take (received a.bytes) a.bytes
