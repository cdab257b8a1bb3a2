-- A process of the code with its machine, and when both stand for a process of the definitions.
use Rattle.std.specs.Prelude.{◌≡◌, ℕ, List}
use Rattle.app_table.specs.Machine.{content_after}
use Rattle.tw_types.specs.Process.{Process}
use Rattle.tw_machine.specs.Applied.{payloads_applied}
use Rattle.node_core.specs.declared.state.State.{State}
use Rattle.node_core.specs.StandsFor.{StandsFor}

-- what a process keeps, and the content of its machine
pub record WithMachine (A : Type 0) : Type 0 where
  pub state : State
  pub machine : A

-- What it keeps stands for the process, and its machine has what was applied of the process's list, and nothing else. Of a machine no
-- more is told than the empty content and the content after a payload.
pub record StandsWith {A : Type 0} (empty : A) (after : A → List ℕ → A) (c : WithMachine A) (p : Process) : Type 0 where
  pub state : StandsFor c.state p
  pub content : c.machine ≡ content_after after empty (payloads_applied p.log)
