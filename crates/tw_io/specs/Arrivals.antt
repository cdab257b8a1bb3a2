-- Arrivals as they are given to a link in memory: a row of senders and lengths, and the bytes of all of them in one piece.
use Rattle.std.specs.Prelude.{ℕ, ◌+◌, List, [], ◌∷◌, take, drop, Option, Some, None}
use Rattle.tw_io.specs.declared.addr.Came.{Came}
use Rattle.tw_io.specs.Link.{Arrival}

-- how many bytes they have together
abbrev pub bytes_of_all : List (Option Came) → ℕ
bytes_of_all [] = 0
bytes_of_all (None ∷ rest) = bytes_of_all rest
bytes_of_all (Some came ∷ rest) = came.len + bytes_of_all rest

-- the datagrams: each takes the next bytes
abbrev pub datagrams : List (Option Came) → List ℕ → List (Option Arrival)
datagrams [] bytes = []
datagrams (None ∷ rest) bytes = None ∷ datagrams rest bytes
datagrams (Some came ∷ rest) bytes = Some (record { from = came.from; bytes = take came.len bytes }) ∷ datagrams rest (drop came.len bytes)
