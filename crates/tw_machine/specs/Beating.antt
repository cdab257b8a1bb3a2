-- A process's signs of life, and what it says again with them.
use Rattle.std.specs.Prelude.{ℕ, ◌+◌, nat_le, ◌==◌, Bool, true, false, ◌&&◌, if◌then◌else◌, Option, Some, None}
use Rattle.tw_num.specs.declared.moment.Moment.{Moment}
use Rattle.tw_machine.specs.Types.{Team, UpdateId, Decision}
use Rattle.tw_types.specs.declared.datagram.Body.TheVariants.{Sync}
use Rattle.tw_types.specs.declared.datagram.Body.TheVariants as bodies
use Rattle.tw_types.specs.Waiting.{first_hole}
use Rattle.tw_types.specs.Process.{Beat, Process}
use Rattle.tw_machine.specs.Run.{Run}
use Rattle.tw_machine.specs.Sending.{sent_to_others}
use Rattle.tw_machine.specs.Standing.{last_decision}
use Rattle.tw_machine.specs.Entering.{asked}

-- a first beat is due at once, and each further one so many ticks after the one before
abbrev pub is_due : ℕ → ℕ → Beat → Bool
is_due pace h b = due b.last
  where
    due : Option ℕ → Bool
    due None = true
    due (Some last) = nat_le (last + pace) h

-- the beat is at h
abbrev pub beat_marked : ℕ → Run → Run
beat_marked h r = record r { process = record (r.process) { beat = record { last = Some h } } }

-- a process says its last decision again which it made itself, so long after, if it promised no other group
abbrev pub is_repeated : Team → Process → Decision → Option ℕ → Bool
is_repeated team p last None = false
is_repeated team p last (Some t) = (last.maker == p.identity.who) && (last.group == p.vote.promised) && nat_le (last.made + team.decide) t

abbrev pub repeat_decision : Team → Moment → Run → Run
repeat_decision team now r = by (last_decision r.process)
  where
    by : Option Decision → Run
    by None = r
    by (Some last) = if is_repeated team r.process last now.reading then sent_to_others team.n now (bodies.Decision last) r else r

-- a process that holds a decision asks again for the first update that is missing
abbrev pub ask_again : Moment → Run → Run
ask_again now r = by (first_hole r.process.waiting.held)
  where
    by : Option (UpdateId × ℕ) → Run
    by None = r
    by (Some hole) = asked now hole.0 hole.1 r

-- a beat: what is missing is asked for again, a decision is said again where there is need, and a sign of life goes to each other process
abbrev pub beat_given : Team → Moment → Run → Run
beat_given team now r = sent_to_others team.n now (Sync None) (repeat_decision team now (ask_again now (beat_marked now.h r)))

abbrev pub give_beat : Team → Moment → Run → Run
give_beat team now r = if is_due team.pace now.h r.process.beat then beat_given team now r else r
