-- What an act makes of a running process.
use Rattle.std.specs.Prelude.{ℕ, ◌≡◌, Bool, true, false, Option, Some, None, IsSome}
use Rattle.tw_num.specs.Clock.{IsNotBefore}
use Rattle.tw_machine.specs.Types.{Team, View, Outputs, Mode, RowAnswer, Act}
use Rattle.tw_types.specs.declared.outputs.Mode.TheVariants as modes
use Rattle.tw_types.specs.declared.step.Act.TheVariants.{First, Again, Crash, Tick, Recv, Send, Reference, Look}
use Rattle.tw_types.specs.Process.{Process, started}
use Rattle.tw_machine.specs.Event.{Event}
use Rattle.tw_machine.specs.Rows.{columns}
use Rattle.tw_machine.specs.Step.{step, looked}
use Rattle.tw_machine.specs.World.{Deed}
use Rattle.world.specs.Tables.{Running, Stands}

-- there is a core exactly where a process runs, and it stands for that process
abbrev pub RunsAs : Team → Option Running → Option Process → Type 0
RunsAs team None None = Unit {0}
RunsAs team (Some c) (Some q) = (c.state.team ≡ team) × Stands c q
RunsAs team None (Some q) = ⊥
RunsAs team (Some c) None = ⊥

-- a process was given nothing after h
abbrev pub NotBefore : ℕ → Option Process → Type 0
NotBefore h None = Unit {0}
NotBefore h (Some q) = IsNotBefore h q.timing.clock

-- how an act starts a process, if it does
abbrev pub mode_of : Act → Option Mode
mode_of First = Some modes.First
mode_of Again = Some modes.Again
mode_of Crash = None
mode_of Tick = None
mode_of (Recv d) = None
mode_of (Send order atom payload) = None
mode_of (Reference lo hi) = None
mode_of Look = None

-- a look, after which a row shows the table
abbrev pub is_look : Act → Bool
is_look First = false
is_look Again = false
is_look Crash = false
is_look Tick = false
is_look (Recv d) = false
is_look (Send order atom payload) = false
is_look (Reference lo hi) = false
is_look Look = true

-- A core that is ready for an act at h of the process that was there before: one that starts was just made, any other one
-- runs, also one that crashes, and was given nothing later.
abbrev pub IsReady : Team → ℕ → ℕ → Act → Option Running → Option Process → Type 0
IsReady team who h First c before = RunsAs team c (Some (started who modes.First h))
IsReady team who h Again c before = RunsAs team c (Some (started who modes.Again h))
IsReady team who h Crash c before = RunsAs team c before × NotBefore h before × IsSome before
IsReady team who h Tick c before = RunsAs team c before × NotBefore h before × IsSome before
IsReady team who h (Recv d) c before = RunsAs team c before × NotBefore h before × IsSome before
IsReady team who h (Send order atom payload) c before = RunsAs team c before × NotBefore h before × IsSome before
IsReady team who h (Reference lo hi) c before = RunsAs team c before × NotBefore h before × IsSome before
IsReady team who h Look c before = RunsAs team c before × NotBefore h before × IsSome before

-- The core took an event at h that happened to this process.
pub record HasTaken (team : Team) (h : ℕ) (e : Event) (c : Running) (a : RowAnswer) (o : Outputs) (p : Process) : Type 0 where
  pub process : Stands c (step team h e p).process
  pub answer : a ≡ (step team h e p).answer
  pub out : o ≡ (step team h e p).out

-- what an act came to, before the process is looked at: looking at it is all that is left
pub record IsDone (team : Team) (h : ℕ) (c : Running) (a : RowAnswer) (o : Outputs) (d : Deed) : Type 0 where
  pub process : Process
  pub running : RunsAs team (Some c) (Some process)
  pub known : IsNotBefore h process.timing.clock
  pub looked : d.process ≡ Some (looked team h process)
  pub answer : a ≡ d.answer
  pub out : o ≡ d.out

-- what an act came to: what runs, how it ended, what was given, and what is seen of the process
pub record IsDeed (team : Team) (h : ℕ) (c : Option Running) (a : RowAnswer) (v : View) (o : Outputs) (before : Option Process) (d : Deed) : Type 0 where
  pub running : RunsAs team c d.process
  pub answer : a ≡ d.answer
  pub view : v ≡ columns team h before d.process
  pub out : o ≡ d.out
