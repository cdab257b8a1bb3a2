-- What a schedule makes of the processes. A schedule is a list of steps of processes, the newest first, so what stands behind a step is
-- its past. A datagram is lost where no step receives it, and repeated where two do. The timed model is Cristian and Fetzer's.
use Rattle.std.specs.Prelude.{ℕ, ◌≡◌, ◌==◌, if◌then◌else◌, List, [], ◌∷◌, ◌++◌, map, Option, Some, None, Ok}
use Rattle.tw_machine.specs.Types.{Team, Act, Step, RowAnswer, Outputs}
use Rattle.tw_types.specs.Numbered.{numbered}
use Rattle.tw_types.specs.Votes.{Promise, Making}
use Rattle.tw_types.specs.declared.step.Act.TheVariants.{First, Again, Crash, Tick, Recv, Send, Reference, Look}
use Rattle.tw_types.specs.declared.outputs.Mode.TheVariants as modes
use Rattle.tw_types.specs.Outputs.{nothing}
use Rattle.tw_types.specs.Process.{Process, started}
use Rattle.tw_types.specs.Sends.{Sending}
use Rattle.tw_machine.specs.Run.{Delivered}
use Rattle.tw_machine.specs.Event.{Event, Outcome}
use Rattle.tw_machine.specs.Step.{step, looked}
use Rattle.tw_machine.specs.Dispatches.{Dispatch, sent_at}
use Rattle.tw_machine.specs.Admissible.{cause_of}

-- the running processes, and all that was sent so far, in the order in which it was sent
pub record World : Type 0 where
  pub process_of : ℕ → Option Process
  pub sent : List Dispatch

-- What an act comes to: what then runs of the process, how the step ended, what it gave, and what it promised, made, sent and delivered.
pub record Deed : Type 0 where
  pub process : Option Process
  pub answer : RowAnswer
  pub out : Outputs
  pub promises : List Promise
  pub makings : List Making
  pub sendings : List Sending
  pub delivered : List Delivered

-- an act that gives nothing
abbrev pub silent : Option Process → RowAnswer → Deed
silent p answer = record { process = p; answer = answer; out = nothing; promises = []; makings = []; sendings = []; delivered = [] }

abbrev pub deed_of : Outcome → Deed
deed_of o = record { process = Some o.process; answer = o.answer; out = o.out; promises = o.promises; makings = o.makings; sendings = o.sendings; delivered = o.delivered }

abbrev pub happen : Team → ℕ → Event → Process → Deed
happen team h e p = deed_of (step team h e p)

-- what a process receives is what the datagram spells; of one that wasn't sent nothing comes
abbrev pub receive : Team → ℕ → Option Dispatch → Process → Deed
receive team h None p = silent (Some p) RowAnswer.Done
receive team h (Some d) p = happen team h (Event.Packet (Ok d.datagram)) p

-- an act of process who at its reading h, after these datagrams were sent
abbrev pub deed : Team → ℕ → ℕ → List Dispatch → Act → Option Process → Deed
deed team who h sent First p = silent (Some (started who modes.First h)) RowAnswer.Start
deed team who h sent Again p = silent (Some (started who modes.Again h)) RowAnswer.Start
deed team who h sent Crash p = silent None RowAnswer.Crash
deed team who h sent act None = silent None RowAnswer.Done
deed team who h sent Tick (Some p) = happen team h Event.Tick p
deed team who h sent (Recv d) (Some p) = receive team h (numbered d sent) p
deed team who h sent (Send order atom payload) (Some p) = happen team h (Event.Send order atom payload.items) p
deed team who h sent (Reference lo hi) (Some p) = happen team h (Event.Reference lo hi) p
deed team who h sent Look (Some p) = silent (Some (looked team h p)) RowAnswer.Look

-- what a step comes to in a world
abbrev pub deed_in : Team → World → Step → Deed
deed_in team w s = deed team s.who s.h w.sent s.act (w.process_of s.who)

-- nobody runs and nothing was sent
abbrev pub nobody : World
nobody = record { process_of = λ i. None; sent = [] }

abbrev pub world_after : Team → World → Step → World
world_after team w s = record {
  process_of = λ i. if s.who == i then (deed_in team w s).process else w.process_of i;
  sent = w.sent ++ map (sent_at s.t) (deed_in team w s).out.sends;
}

-- the world after all steps of a schedule
abbrev pub world : Team → List Step → World
world team [] = nobody
world team (s ∷ past) = world_after team (world team past) s

-- each step of the schedule may follow the steps before it
abbrev pub Admissible : Team → List Step → Type 0
Admissible team [] = Unit {0}
Admissible team (s ∷ past) = Admissible team past × (cause_of team (world team past).sent past s ≡ None)
