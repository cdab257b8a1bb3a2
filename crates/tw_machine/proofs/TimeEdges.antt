-- What a process tells of its interval, and what it learns of an echo, at the edges of their ranges.
use Rattle.std.proofs.Common.{◌≡◌, refl, ℕ, ◌^◌, ◌-◌, List, [], ◌∷◌, map, Option, Some, None, Ok}
use Rattle.tw_num.specs.declared.interval.Interval.{Interval}
use Rattle.tw_num.specs.Clock.{Given}
use Rattle.tw_machine.specs.Types.{Team, Datagram}
use Rattle.tw_types.specs.declared.datagram.Body.TheVariants.{Sync}
use Rattle.tw_types.specs.declared.row.RowAnswer.TheVariants.{Done}
use Rattle.tw_types.specs.declared.outputs.Mode.TheVariants.{First}
use Rattle.tw_types.specs.Examples.{team_a}
use Rattle.tw_types.specs.Team.{fault_of}
use Rattle.tw_types.specs.Flag.{is_up}
use Rattle.tw_types.specs.Process.{started}
use Rattle.tw_machine.specs.Event.{Packet, Tick, Reference, Outcome}
use Rattle.tw_machine.specs.Rules.{kind_rule}
use Rattle.tw_machine.specs.Duties.{timed_duties, duties}
use Rattle.tw_machine.specs.Step.{step}

abbrev between : ℕ → ℕ → Interval
between lo hi = record { lo = lo; hi = hi }

-- ---- an interval is told where it ends below 2 ^ 61

-- a team whose clocks may drift by a thousandth
abbrev drifting : Team
drifting = record team_a { ppm = 1000; quarantine = 1105108 }

is_sound : fault_of drifting ≡ None
is_sound = refl

-- What process 0 tells each other one of a reference that ended there, at a reading at which it ends 1152921504606847000 later.
abbrev tells : ℕ → List (Option Interval)
tells hi = map (λ (s : ℕ × Datagram). s.1.head.interval) (step drifting 1151768583102240157 Tick (step drifting 5 (Reference 0 hi) (started 0 First 5)).process).out.sends

last_told : tells 1152921504606846951 ≡ Some (between 1150617965137103047 (2 ^ 61 - 1)) ∷ Some (between 1150617965137103047 (2 ^ 61 - 1)) ∷ []
unfolding step timed_duties duties is_up
last_told = refl

not_told : tells 1152921504606846952 ≡ None ∷ None ∷ []
unfolding step timed_duties duties is_up
not_told = refl

-- ---- an echo gives a bound where neither clock fell

-- process 0 at its reading 10 hears process 1, which sent at 100 and says that it heard at b what process 0 had sent at a
abbrev hears : (a b : ℕ) → Outcome
hears a b = step team_a 10 (Packet (Ok (record {
  head = record { from = 1; to = 0; incarnation = 5; sent = 100; interval = Some (between 99 101); echo = Some (record { a = a; b = b }) };
  body = Sync None;
}))) (started 0 First 5)

abbrev given : (a b : ℕ) → List Given
given a b = (hears a b).process.timing.clock.given

just_now : given 10 100 ≡ record { h = 10; interval = between 99 102 } ∷ []
unfolding step kind_rule timed_duties duties is_up
just_now = refl

-- it is no fault, and nothing is learnt of team time
not_sent_yet : given 11 100 ≡ []
unfolding step kind_rule timed_duties duties is_up
not_sent_yet = refl

done_at_once : (hears 11 100).answer ≡ Done
unfolding step kind_rule timed_duties duties is_up
done_at_once = refl

heard_later : given 10 101 ≡ []
unfolding step kind_rule timed_duties duties is_up
heard_later = refl

done_all_the_same : (hears 10 101).answer ≡ Done
unfolding step kind_rule timed_duties duties is_up
done_all_the_same = refl
