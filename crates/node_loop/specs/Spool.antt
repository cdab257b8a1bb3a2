-- What a spool holds.
use Rattle.std.specs.Prelude.{ℕ, List, take}
use Rattle.node_loop.specs.declared.spool.Spool.{Spool}

abbrev pub spooled : Spool → List ℕ
spooled s = take s.len s.room.items
