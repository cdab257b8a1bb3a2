-- What an input makes of a process that runs.
use Rattle.std.specs.Prelude.{ℕ, ◌≡◌, ◌≤◌, ◌<◌, ◌^◌, List}
use Rattle.tw_num.specs.Clock.{IsNotBefore}
use Rattle.tw_machine.specs.Types.{Team, RowAnswer, Outputs}
use Rattle.tw_types.specs.Process.{Process}
use Rattle.tw_machine.specs.Lives.{Happening, At, LookedAt}
use Rattle.tw_machine.specs.Record.{Input, Tick, Packet, Reference, Send, Look, deed_of_happening}
use Rattle.tw_machine.specs.Step.{step, looked}
use Rattle.node_core.specs.WithMachine.{WithMachine, StandsWith}

-- a process after one more happening
abbrev pub after_one : Team → Happening → Process → Process
after_one team (At h e) p = (step team h e p).process
after_one team (LookedAt h) p = looked team h p

-- what a process of the code is after a happening, before it is looked at at the same reading
pub record HasHappened {A : Type 0} (empty : A) (after : A → List ℕ → A) (team : Team) (h : ℕ) (x : Happening) (c : WithMachine A) (a : RowAnswer) (o : Outputs) (p : Process) : Type 0 where
  pub process : Process
  pub stands : StandsWith empty after c process
  pub known : IsNotBefore h process.timing.clock
  pub looked : looked team h process ≡ after_one team x p
  pub answer : a ≡ (deed_of_happening team x p).answer
  pub out : o ≡ (deed_of_happening team x p).out

-- an input that a process takes: an interval that is given ends below 2^60, and not before it begins
abbrev pub IsTakable : Input → Type 0
IsTakable Tick = Unit {0}
IsTakable (Packet bytes) = Unit {0}
IsTakable (Reference lo hi) = (lo ≤ hi) × (hi < 2 ^ 60)
IsTakable (Send order atom payload) = Unit {0}
IsTakable Look = Unit {0}
