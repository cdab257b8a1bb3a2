-- When what the code keeps stands for the world of a schedule.
use Rattle.std.specs.Prelude.{ℕ, ◌≡◌, nat_le, true, List, length, slice_get, Option, Some}
use Rattle.tw_machine.specs.Types.{Team, Step}
use Rattle.tw_types.specs.Process.{Process}
use Rattle.tw_machine.specs.Admissible.{each_own, was_started}
use Rattle.tw_machine.specs.World.{world, Admissible}
use Rattle.world.specs.declared.node.Node.{Node}
use Rattle.world.specs.declared.world.World as code
use Rattle.world.specs.Bounds.{AreBoundsOf}
use Rattle.world.specs.Datagrams.{SentStandsFor}
use Rattle.world.specs.Deeds.{RunsAs, NotBefore}
use Rattle.world.specs.Readings.{readings_of, latest_of}

-- nothing was given to a process after its last reading
abbrev pub IsKnown : ℕ → List Step → Option Process → Type 0
IsKnown who past q = (h : ℕ) → each_own (λ e. nat_le e.h h) who past ≡ true → NotBefore h q

-- what is kept of a process: the bounds of all its readings, whether it was ever started, and what runs of it
pub record NodeStandsFor (team : Team) (past : List Step) (who : ℕ) (p : Node) : Type 0 where
  pub bounds : AreBoundsOf team.ppm p.bounds (readings_of who past)
  pub started : p.started ≡ was_started who past
  pub running : RunsAs team p.core ((world team past).process_of who)
  pub known : IsKnown who past ((world team past).process_of who)

-- the count of steps, the team time of the last one, each process, and what was sent
pub record StandsFor (team : Team) (past : List Step) (w : code.World) : Type 0 where
  pub same_team : w.team ≡ team
  pub steps : w.steps ≡ length past
  pub latest : w.latest ≡ latest_of past
  pub admissible : Admissible team past
  pub each : (who : ℕ) (p : Node) → slice_get w.processes.items who ≡ Some p → NodeStandsFor team past who p
  pub sent : SentStandsFor team w.sent (world team past).sent

-- all that is kept is the same, if not the room for it
pub record IsSame (v w : code.World) : Type 0 where
  pub team : v.team ≡ w.team
  pub steps : v.steps ≡ w.steps
  pub latest : v.latest ≡ w.latest
  pub processes : v.processes.items ≡ w.processes.items
  pub bytes : v.sent.bytes.items ≡ w.sent.bytes.items
  pub places : v.sent.places.items ≡ w.sent.places.items
  pub out : v.out ≡ w.out
