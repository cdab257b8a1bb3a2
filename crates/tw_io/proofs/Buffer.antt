-- A datagram at the front of a receiver's buffer.
use Rattle.std.proofs.Common.{◌≡◌, ℕ, ◌<◌, ◌≤◌, min, List, ◌++◌, length, get_or, take, drop, Option, Some, refl, arith}
use Rattle.std.proofs.lemmas.List.{drop_more}
use Rattle.std.proofs.lemmas.Grind.{common_steps}
use Rattle.tw_io.specs.declared.addr.Addr.{Addr}
use Rattle.tw_io.specs.declared.addr.Came.{Came}
use Rattle.tw_io.specs.Arrivals.{bytes_of_all, datagrams}
use Rattle.tw_io.specs.Link.{Arrival, next_arrival, StandsIn}

-- the datagram of an item that is one
pub next_there : (items : List (Option Came)) (i : ℕ) (bytes : List ℕ) (came : Came) → i < length items → get_or items i (Some came) ≡ Some came → next_arrival (datagrams (drop i items) bytes) ≡ Some (record { from = came.from; bytes = take came.len bytes })
next_there items i bytes came l e = rw (drop_more items i (Some came) l, e) refl

-- the front of what was copied, where it is that of the first n bytes
pub front_is : (n m : ℕ) (bytes copied behind : List ℕ) → n ≤ length bytes → copied ≡ take (min n m) bytes → take (min (length (take n bytes)) m) (copied ++ behind) ≡ take (min (length (take n bytes)) m) (take n bytes)
front_is n m bytes copied behind l same =
    let whole : length (take n bytes) ≡ n = grind (arith, common_steps) in
    let long : length copied ≡ min n m = rw same (grind (arith, common_steps)) in
    rw whole (grind (arith, common_steps))

-- what was copied to the front is the datagram, as much as is received
pub copied_in : (a : Option Arrival) (from : Addr) (n : ℕ) (bytes copied behind : List ℕ) → a ≡ Some (record { from = from; bytes = take n bytes }) → n ≤ length bytes → copied ≡ take (min n 4096) bytes → StandsIn a (copied ++ behind)
copied_in a from n bytes copied behind e l same = rw e (front_is n 4096 bytes copied behind l same)

-- what is left of the bytes is enough for the next datagram
pub fits_there : (items : List (Option Came)) (i : ℕ) (bytes : List ℕ) (came : Came) → i < length items → get_or items i (Some came) ≡ Some came → bytes_of_all (drop i items) ≡ length bytes → came.len ≤ length bytes
fits_there items i bytes came l e whole =
    let sum = rw (drop_more items i (Some came) l, e) at whole in
    omega arith
