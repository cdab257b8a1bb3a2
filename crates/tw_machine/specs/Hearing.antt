-- What a process learns of time: from a reference, and from the head of a datagram.
use Rattle.std.specs.Prelude.{ℕ, nat_lt, ◌==◌, if◌then◌else◌, is_some, Option, Some, None, Result, Ok, Err}
use Rattle.std.specs.Option.{option_and_then}
use Rattle.tw_num.specs.declared.interval.Interval.{Interval}
use Rattle.tw_num.specs.Clock.{delayed, refusal, after_given, after_read}
use Rattle.tw_num.specs.Rate.{echo_bound}
use Rattle.tw_types.specs.Trips.{trip_of}
use Rattle.tw_machine.specs.Types.{Team, Echo, Head, Datagram, Reason}
use Rattle.tw_types.specs.declared.answer.Reason.TheVariants.{Disjoint}
use Rattle.tw_types.specs.Process.{Timing}
use Rattle.tw_machine.specs.Event.{Event, Tick, Packet, Reference, Send}
use Rattle.tw_machine.specs.Packet.{admitted}

-- of two stamps of one process the greater one, and of equal ones the one that was heard later
abbrev pub newer : Option Echo → Echo → Echo
newer None e = e
newer (Some before) e = if nat_lt e.a before.a then before else e

-- a stamp of a process is heard
abbrev pub noted : ℕ → Echo → Timing → Timing
noted from e t = record t { heard = λ q. if from == q then Some (newer (t.heard q) e) else t.heard q }

-- the most that a datagram which is received at h may have taken, by its round trip
abbrev pub trip_bound : ℕ → ℕ → Head → Option ℕ
trip_bound ppm h head = option_and_then (echo_bound ppm) (trip_of head h)

abbrev pub both : Option Interval → Option ℕ → Option Interval
both (Some i) (Some bound) = Some (delayed i bound)
both i bound = None

-- what a datagram that is received at h tells of team time: the interval that it was sent with, so much later
abbrev pub told : ℕ → ℕ → Head → Option Interval
told ppm h head = both head.interval (trip_bound ppm h head)

-- An interval is given at h, if there is one; it is refused where the clock refuses it.
abbrev pub given : ℕ → ℕ → Option Interval → Timing → Timing
given ppm h None t = t
given ppm h (Some i) t = record t { clock = after_given ppm h i t.clock }

abbrev pub is_refused : ℕ → ℕ → Option Interval → Timing → Option Reason
is_refused ppm h None t = None
is_refused ppm h (Some i) t = if is_some (refusal ppm h i t.clock) then Some Disjoint else None

-- the clock is read at h
abbrev pub read : Team → ℕ → Timing → Timing
read team h t = record t { clock = after_read team.ppm team.eps h t.clock }

-- What is known of time once an event told what it knows, and what is left of the event: its packet, if it has one, or why it
-- is dropped.
pub record Learnt : Type 0 where
  pub timing : Timing
  pub packet : Result (Option Datagram) Reason

abbrev pub unless_dropped : Option Reason → Option Datagram → Result (Option Datagram) Reason
unless_dropped None d = Ok d
unless_dropped (Some reason) d = Err reason

-- a datagram's stamp is noted, then its interval is given
abbrev pub learn_packet : Team → ℕ → Result Datagram Reason → Timing → Learnt
learn_packet team h (Err reason) t = record { timing = t; packet = Err reason }
learn_packet team h (Ok d) t = after (noted d.head.from (record { a = d.head.sent; b = h }) t)
  where
    after : Timing → Learnt
    after u = record { timing = given team.ppm h (told team.ppm h d.head) u; packet = unless_dropped (is_refused team.ppm h (told team.ppm h d.head) u) (Some d) }

-- what an event tells process me of time
abbrev pub learn : Team → ℕ → ℕ → Event → Timing → Learnt
learn team me h Tick t = record { timing = t; packet = Ok None }
learn team me h (Packet read) t = learn_packet team h (admitted team.n me read) t
learn team me h (Reference lo hi) t = record {
  timing = given team.ppm h (Some (record { lo = lo; hi = hi })) t;
  packet = unless_dropped (is_refused team.ppm h (Some (record { lo = lo; hi = hi })) t) None;
}
learn team me h (Send order atom payload) t = record { timing = t; packet = Ok None }
