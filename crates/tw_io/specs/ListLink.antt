-- What a link in memory tells, and its room.
use Rattle.std.specs.Prelude.{ℕ, List, Option}
use Rattle.tw_io.specs.declared.list_link.ListLink.{ListLink}
use Rattle.tw_io.specs.ArrivalsLeft.{arrivals_left}
use Rattle.tw_io.specs.Failing.{Plan}
use Rattle.tw_io.specs.FailingPlan.{plan_of}
use Rattle.tw_io.specs.Link.{Binding, Sent, Sends, Arrival}
use Rattle.tw_io.specs.OutboxKept as kept

-- which calls fail
abbrev pub plan : ListLink → Plan
plan link = plan_of link.failing

-- how often it was bound, and where
abbrev pub bound_on : ListLink → Binding
bound_on link = record { times = link.binds; last = link.bound }

-- the sends that didn't fail
abbrev pub sent_on : ListLink → List Sent
sent_on link = kept.sends_kept link.outbox

-- the send calls
abbrev pub sends_on : ListLink → Sends
sends_on link = record { calls = link.send_calls; sent = sent_on link }

-- what is still to arrive
abbrev pub arriving_on : ListLink → List (Option Arrival)
arriving_on link = arrivals_left link.arrivals

-- for how many more datagrams there is a place
abbrev pub places_left : ListLink → ℕ
places_left link = kept.places_left link.outbox

-- for how many more bytes there is room
abbrev pub room_left : ListLink → ℕ
room_left link = kept.room_left link.outbox

-- how often `bind` or `recv` failed
abbrev pub fault_count : ListLink → ℕ
fault_count link = link.faults

-- how often `send` failed
abbrev pub loss_count : ListLink → ℕ
loss_count link = link.losses
