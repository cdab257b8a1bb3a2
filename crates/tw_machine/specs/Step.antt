-- What an event makes of a process, in five points: the packet, what it tells of time, the reading, the event's own rule, the duties.
use Rattle.std.specs.Prelude.{ℕ, Bool, true, false, if◌then◌else◌, Option, Some, None, Result}
use Rattle.tw_num.specs.Clock.{reading_at, moment_at}
use Rattle.tw_num.specs.declared.moment.Moment.{Moment}
use Rattle.tw_machine.specs.Types.{Team, Reason, Answer, Datagram, RowAnswer, View}
use Rattle.tw_types.specs.declared.answer.Answer.TheVariants.{Done, Dropped}
use Rattle.tw_types.specs.Process.{Process}
use Rattle.tw_types.specs.Beliefs.{log_length}
use Rattle.tw_types.specs.Decisions.{or_none}
use Rattle.tw_types.specs.Flag.{is_up}
use Rattle.tw_machine.specs.Standing.{last_decision}
use Rattle.tw_machine.specs.Event.{Event, Tick, Packet, Reference, Send, Outcome}
use Rattle.tw_machine.specs.Hearing.{Learnt, learn, read}
use Rattle.tw_machine.specs.Run.{Run, Ruled, Ended, run_of}
use Rattle.tw_machine.specs.Rules.{rule}
use Rattle.tw_machine.specs.Proposing.{propose}
use Rattle.tw_machine.specs.Duties.{duties}

-- a packet is taken or not, and what the event tells of time is noted and given to the clock
abbrev pub learnt_by : Team → ℕ → Event → Process → Learnt
learnt_by team h e p = learn team p.identity.who h e p.timing

-- the clock is read then, whether or not the event is dropped
abbrev pub moment_of : Team → ℕ → Event → Process → Moment
moment_of team h e p = moment_at team.ppm team.eps h (learnt_by team h e p).timing.clock

abbrev pub read_by : Team → ℕ → Event → Process → Run
read_by team h e p = run_of (record p { timing = read team h (learnt_by team h e p).timing })

abbrev pub answer_by : Option Reason → Answer
answer_by None = Done
answer_by (Some reason) = Dropped reason

abbrev pub row_answer : Answer → RowAnswer
row_answer Done = RowAnswer.Done
row_answer (Dropped reason) = RowAnswer.Dropped reason

-- an event that is taken or dropped
abbrev pub ended : Ruled → Ended
ended k = record { run = k.run; answer = row_answer (answer_by k.dropped) }

-- the event's own rule: that of sends, or that of its packet, where it has one
abbrev pub event_rule : Team → Moment → Event → Result (Option Datagram) Reason → Run → Ended
event_rule team now Tick packet r = ended (rule team now packet r)
event_rule team now (Packet read) packet r = ended (rule team now packet r)
event_rule team now (Reference lo hi) packet r = ended (rule team now packet r)
event_rule team now (Send order atom payload) packet r = propose team now order atom payload r

abbrev pub ruled_by : Team → ℕ → Event → Process → Ended
ruled_by team h e p = event_rule team (moment_of team h e p) e (learnt_by team h e p).packet (read_by team h e p)

-- the duties run after a tick, a packet, dropped or not, and a send, refused or not
abbrev pub has_duties : Event → Bool
has_duties Tick = true
has_duties (Packet bytes) = true
has_duties (Reference lo hi) = false
has_duties (Send order atom payload) = true

abbrev pub ended_by : Team → ℕ → Event → Process → Run
ended_by team h e p = if has_duties e then duties team (moment_of team h e p) (ruled_by team h e p).run else (ruled_by team h e p).run

abbrev pub outcome_of : RowAnswer → Run → Outcome
outcome_of answer r = record { process = r.process; answer = answer; out = r.out; promises = r.promises; makings = r.makings; sendings = r.sendings; delivered = r.delivered }

unfoldable pub step : Team → ℕ → Event → Process → Outcome
step team h e p = outcome_of (ruled_by team h e p).answer (ended_by team h e p)

-- a look reads the clock, and changes nothing else
abbrev pub looked : Team → ℕ → Process → Process
looked team h p = record p { timing = read team h p.timing }

-- what a process says of itself at its reading h
abbrev pub view_of : Team → ℕ → Process → View
view_of team h p = record {
  incarnation = p.identity.incarnation;
  reading = reading_at team.ppm team.eps h p.timing.clock;
  up = is_up team p.vote p.belief (reading_at team.ppm team.eps h p.timing.clock);
  group = (or_none (last_decision p)).group;
  turn = (or_none (last_decision p)).turn;
  length = log_length p.log;
  passed = p.log.passed;
}
