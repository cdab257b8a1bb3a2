-- How a process sends.
use Rattle.std.specs.Prelude.{ℕ, ◌^◌, nat_lt, ◌==◌, not, if◌then◌else◌, List, [], ◌∷◌, map, Option, Some, None}
use Rattle.std.specs.List.{filter, range_with_len}
use Rattle.tw_num.specs.declared.interval.Interval.{Interval}
use Rattle.tw_num.specs.declared.moment.Moment.{Moment}
use Rattle.tw_machine.specs.Types.{Head, Body, Datagram}
use Rattle.tw_types.specs.Process.{Identity, Timing}
use Rattle.tw_machine.specs.Run.{Run, with_sends}

-- all processes of a team of n but this one, in ascending order
abbrev pub others : ℕ → ℕ → List ℕ
others n me = filter (λ q. not (q == me)) (range_with_len 0 n)

-- an interval that a datagram may tell
abbrev pub sendable : Option Interval → Option Interval
sendable None = None
sendable (Some i) = if nat_lt i.hi (2 ^ 61) then Some i else None

-- the head of what a process sends to one receiver: its own interval then, and what it last heard of the receiver
abbrev pub head_to : Moment → Identity → Timing → ℕ → Head
head_to now me t to = record {
  from = me.who;
  to = to;
  incarnation = me.incarnation;
  sent = now.h;
  interval = sendable now.interval;
  echo = t.heard to;
}

abbrev pub datagram_to : Moment → Identity → Timing → Body → ℕ → ℕ × Datagram
datagram_to now me t body to = (to, record { head = head_to now me t to; body = body })

-- this body goes to one process
abbrev pub sent_to : Moment → Body → ℕ → Run → Run
sent_to now body to r = with_sends (datagram_to now r.process.identity r.process.timing body to ∷ []) r

-- the same body goes to each other process of a team of n, in ascending order
abbrev pub sent_to_others : ℕ → Moment → Body → Run → Run
sent_to_others n now body r = with_sends (map (datagram_to now r.process.identity r.process.timing body) (others n r.process.identity.who)) r
