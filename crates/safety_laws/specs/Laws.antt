-- What a law on groups is, and what it says in the middle of a step.
use Rattle.std.specs.Prelude.{ℕ, ◌≡◌, ◌≢◌, List, Some}
use Rattle.tw_types.specs.declared.step.Step.{Step}
use Rattle.tw_types.specs.Process.{Process}
use Rattle.tw_machine.specs.World.{World}
use Rattle.safety_laws.specs.Effects.{Written, State}

-- A law has a part about what was written down, which may speak of the datagrams that were sent, and a part about each running
-- process against what was written down. Both may read the steps that were done.
pub record Law : Type 1 where
  pub History : List Step → Written → Type 0
  pub Running : List Step → Written → ℕ → Process → Type 0

-- A law in the middle of a step of process who, of the world before the step.
pub record Holds (law : Law) (steps : List Step) (before : World) (who : ℕ) (x : State) : Type 0 where
  pub history : law.History steps x.written
  pub own : law.Running steps x.written who x.process
  pub others : (q : ℕ) (p : Process) → who ≢ q → before.process_of q ≡ Some p → law.Running steps x.written q p

-- the law that says nothing, and two laws in one
abbrev pub no_law : Law
no_law = record { History = λ steps w. Unit {0}; Running = λ steps w who p. Unit {0} }

abbrev pub Both : Law → Law → Law
Both a b = record {
  History = λ steps w. a.History steps w × b.History steps w;
  Running = λ steps w who p. a.Running steps w who p × b.Running steps w who p;
}
