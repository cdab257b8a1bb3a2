-- What a process makes of its own events alone: its record after them, wherever they come from.
use Rattle.std.specs.Prelude.{ℕ, List, [], ◌∷◌}
use Rattle.tw_machine.specs.Types.{Mode, Team}
use Rattle.tw_types.specs.Process.{Process, started}
use Rattle.tw_machine.specs.Event.{Event}
use Rattle.tw_machine.specs.Step.{step, looked}

-- an event of a process, or a look at it, at a reading of its hardware clock
pub data Happening : Type 0 where
  At : (h : ℕ) → (e : Event) → Happening
  LookedAt : (h : ℕ) → Happening

-- A life: how and at which reading it began, and what happened in it, the newest first.
pub record Life : Type 0 where
  pub mode : Mode
  pub began : ℕ
  pub events : List Happening

-- a process's record after what happened to it since it was started
abbrev pub after_all : Team → ℕ → Mode → ℕ → List Happening → Process
after_all team who mode began [] = started who mode began
after_all team who mode began (At h e ∷ earlier) = (step team h e (after_all team who mode began earlier)).process
after_all team who mode began (LookedAt h ∷ earlier) = looked team h (after_all team who mode began earlier)

abbrev pub record_of : Team → ℕ → Life → Process
record_of team who life = after_all team who life.mode life.began life.events
