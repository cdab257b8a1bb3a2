-- What the forms in memory tell.
use Rattle.std.specs.Prelude.{ℕ, List, Option, drop}
use Rattle.tw_io.specs.declared.list_clock.ListClock.{ListClock}
use Rattle.tw_io.specs.declared.steady.SteadyIn.{SteadyIn}
use Rattle.tw_io.specs.declared.steady.SteadyLink.{SteadyLink}
use Rattle.tw_io.specs.ArrivalsLeft.{arrivals_left}
use Rattle.tw_io.specs.Link.{Arrival}
use Rattle.tw_io.specs.Unread.{unread}

-- the readings still to come
abbrev pub readings_to_come : ListClock → List ℕ
readings_to_come clock = drop clock.at clock.readings.items

-- the bytes left
abbrev pub steady_bytes_left : SteadyIn → List ℕ
steady_bytes_left source = unread source.unread

-- what is still to arrive
abbrev pub steady_arrivals : SteadyLink → List (Option Arrival)
steady_arrivals link = arrivals_left link.arrivals
