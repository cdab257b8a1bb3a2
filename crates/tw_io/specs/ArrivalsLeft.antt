use Rattle.std.specs.Prelude.{List, Option, drop}
use Rattle.tw_io.specs.declared.arrivals.Arrivals.{Arrivals}
use Rattle.tw_io.specs.Arrivals.{datagrams}
use Rattle.tw_io.specs.Link.{Arrival}

-- what is still to arrive
abbrev pub arrivals_left : Arrivals → List (Option Arrival)
arrivals_left a = datagrams (drop a.next a.items.items) (drop a.start a.bytes.items)
