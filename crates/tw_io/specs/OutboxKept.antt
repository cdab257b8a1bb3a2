-- What a store of sent datagrams has, and its room.
use Rattle.std.specs.Prelude.{ℕ, ◌-◌, ◌≡◌, List, length, map, take, slice_get, Some}
use Rattle.tw_io.specs.declared.addr.Addr.{Addr}
use Rattle.tw_io.specs.declared.outbox.Outbox.{Outbox}
use Rattle.tw_io.specs.Link.{Sent}
use Rattle.tw_io.specs.Outbox.{sent_in}

-- the datagrams, the first one first
abbrev pub sends_kept : Outbox → List Sent
sends_kept o = map (sent_in o.room.items) (take o.count o.places.items)

-- for how many more datagrams there is a place
abbrev pub places_left : Outbox → ℕ
places_left o = length o.places.items - o.count

-- for how many more bytes there is room
abbrev pub room_left : Outbox → ℕ
room_left o = length o.room.items - o.used

-- this one stands at a place of a list, counted from 0
abbrev pub IsAt : List Sent → ℕ → ℕ → Addr → List ℕ → Type 0
IsAt sent place number to bytes = slice_get sent place ≡ Some (record { number = number; to = to; bytes = bytes })
