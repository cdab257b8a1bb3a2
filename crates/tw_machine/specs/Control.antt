-- Datagrams that are used only in time: how long a packet was on its way, as its receiver can tell.
use Rattle.std.specs.Prelude.{ℕ, Option, Some, None, Result, Ok, Err}
use Rattle.tw_num.specs.declared.moment.Moment.{Moment}
use Rattle.tw_num.specs.Rate.{Rate, Timely, Late, Unrated, rate}
use Rattle.tw_types.specs.Trips.{trip_of}
use Rattle.tw_machine.specs.Types.{Team, Head, Reason}
use Rattle.tw_types.specs.declared.answer.Reason.TheVariants as reasons
use Rattle.tw_machine.specs.Run.{Run, Ruled, dropped}

-- the rate of a packet with this head, by what its receiver's clock tells once the packet told what it knew of time
abbrev pub rate_of : Team → Moment → Head → Rate
rate_of team now head = rate team.ppm team.delta (trip_of head now.h) now.interval head.interval

-- the reading at which a packet of this rate is used, or why it isn't: it is unrated, else late, else there is no reading
abbrev pub timely_reading : Rate → Option ℕ → Result ℕ Reason
timely_reading Unrated reading = Err reasons.Unrated
timely_reading (Late bound) reading = Err (reasons.Late bound)
timely_reading (Timely bound) None = Err reasons.Unsynced
timely_reading (Timely bound) (Some t) = Ok t

-- a rule that wants a timely packet and a reading of team time
abbrev pub if_timely : Team → Moment → Head → (ℕ → Run → Ruled) → Run → Ruled
if_timely team now head rule r = by (timely_reading (rate_of team now head) now.reading)
  where
    by : Result ℕ Reason → Ruled
    by (Err reason) = dropped reason r
    by (Ok t) = rule t r
