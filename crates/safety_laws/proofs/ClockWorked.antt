-- The laws of the clocks and the delays, computed on small schedules and on rows that were made by hand.
use Rattle.std.proofs.Common.{◌≡◌, refl, ℕ, List, [], ◌∷◌, map, Option, Some, None, arith}
use Rattle.std.specs.Option.{option_map, option_and_then}
use Rattle.tw_machine.specs.Types.{Team, Step, RowAnswer}
use Rattle.tw_types.specs.declared.step.Act.TheVariants.{First, Tick, Recv, Reference, Look}
use Rattle.tw_types.specs.Flag.{is_up}
use Rattle.tw_types.specs.Row.{Row}
use Rattle.tw_types.specs.Numbered.{numbered}
use Rattle.tw_num.specs.Rate.{Timely}
use Rattle.tw_machine.specs.Rules.{kind_rule}
use Rattle.tw_machine.specs.Duties.{timed_duties, duties}
use Rattle.tw_machine.specs.Step.{step}
use Rattle.tw_machine.specs.World.{silent, world, Admissible}
use Rattle.tw_machine.specs.Rows.{row_by}
use Rattle.tw_machine.specs.Dispatches.{Dispatch}
use Rattle.tw_machine.proofs.Meanings.{no_entries}
use Rattle.safety_laws.specs.Clocks.{MayRead, EachReadsNear, rate_at}
use Rattle.safety_laws.proofs.Worked.{at}
use Rattle.tw_machine.specs.ClockLaw.{IsNear}

abbrev team_a : Team
team_a = record { n = 3; line = 7; ppm = 100; eps = 1000; delta = 10000; pace = 20000; decide = 10000; ring = 50000; slot = 100000; lease = 400000; quarantine = 1104114; theta = 30000 }

-- a clock that is 300 behind team time and gains one tick in 10000, and two references of which the second is narrower
abbrev drifts : List Step
drifts = at 40000 0 39703 Look ∷ at 30000 0 29702 (Reference 29990 30005) ∷ at 20000 0 19701 (Reference 19500 20900) ∷ at 10000 0 9700 First ∷ []

admissible : Admissible team_a drifts
admissible = ((((tt, refl), refl), refl), refl)

-- the clock may read this later, and not one tick more
may_read_later : MayRead 100 0 drifts 50000 49705
may_read_later = record { time = refl; drift = refl }

too_fast : MayRead 100 0 drifts 50000 49706 → ⊥
too_fast may = absurd (let drift = may.drift in cc)

-- a reading may be eps away, and no further; a row is wanted for each step
at_limit : IsNear 1000 5000 6000
at_limit = record { not_ahead = omega arith; not_behind = omega arith }

abbrev reads : Option ℕ → Row
reads reading = record (row_by no_entries team_a 1 0 (at 5000 0 4000 Look) None (silent None RowAnswer.Look)) { reading = reading }

too_far_behind : EachReadsNear 1000 (at 5000 0 4000 Look ∷ []) (reads (Some 3999) ∷ []) → ⊥
too_far_behind each = let near = each.0 in absurd (let behind = near.not_behind in omega arith)

row_missing : EachReadsNear 1000 (at 5000 0 4000 Look ∷ []) [] → ⊥
row_missing each = each

-- a sign of life, its answer, and one that tells an interval; each takes 500
abbrev beats : List Step
beats = at 20010 0 20010 Tick ∷ at 1010 0 1010 (Recv 3) ∷ at 510 1 510 (Recv 1) ∷ at 10 0 10 Tick ∷ at 10 0 10 (Reference 10 10) ∷ at 5 1 5 First ∷ at 5 0 5 First ∷ []

sendings : map (λ (d : Dispatch). d.at) (world (record team_a { ppm = 0 }) beats).sent ≡ 10 ∷ 10 ∷ 510 ∷ 510 ∷ 20010 ∷ 20010 ∷ []
unfolding is_up step kind_rule timed_duties duties
sendings = refl

-- the round trip took 20000 at most, of which 18999 at least were waited
rated : option_and_then (λ d. option_map (rate_at (record team_a { ppm = 0 }) (at 20510 1 20510 (Recv 5)) d) ((world (record team_a { ppm = 0 }) beats).process_of 1)) (numbered 5 (world (record team_a { ppm = 0 }) beats).sent) ≡ Some (Timely 1002)
unfolding is_up step kind_rule timed_duties duties
rated = refl
