-- Datagrams that were sent and are kept.
use Rattle.std.specs.Prelude.{ℕ, ◌+◌, Bool, List, not, nat_lt, take, drop}
use Rattle.std.specs.List.{list_all}
use Rattle.tw_io.specs.declared.outbox.Kept.{Kept}
use Rattle.tw_io.specs.Link.{Sent}

-- the bytes of each stand among the first `used` of a room
abbrev pub all_within : ℕ → List Kept → Bool
all_within used kept = list_all (λ k. not (nat_lt used (k.start + k.len))) kept

-- a datagram by where its bytes stand in a room
abbrev pub sent_in : List ℕ → Kept → Sent
sent_in room k = record { number = k.number; to = k.to; bytes = take k.len (drop k.start room) }
