-- The run of one event through the parts of a step.
use Rattle.std.specs.Prelude.{ℕ, List, [], ◌++◌, Option, Some, None}
use Rattle.tw_machine.specs.Types.{Datagram, Outputs, ProposeFault, Reason, RowAnswer, Kept, How}
use Rattle.tw_types.specs.Outputs.{nothing}
use Rattle.tw_types.specs.Process.{Process}
use Rattle.tw_types.specs.Sends.{Sending}
use Rattle.tw_types.specs.Votes.{Promise, Making}

-- Where an update stood as it was delivered: it was passed at a position, in this way; or it went early, at a position of the list or while
-- it waited.
pub data Place : Type 0 where
  AtPass : (position : ℕ) → (how : How) → Place
  AtEarly : (position : ℕ) → Place
  AtWait : Place

-- an update that was delivered or passed, as it was then, and the group and turn of the last decision by which it was
pub record Delivered : Type 0 where
  pub group : ℕ
  pub turn : ℕ
  pub place : Place
  pub update : Kept

-- A process, and what it gave so far in this event: what is sent, printed and delivered, what it promised and made, and the updates that
-- it sent for the first time, each in its order. A part of a step is a test and a change of this, and the part is the choice of the two.
pub record Run : Type 0 where
  pub process : Process
  pub out : Outputs
  pub promises : List Promise
  pub makings : List Making
  pub sendings : List Sending
  pub delivered : List Delivered

-- a process that gave nothing yet
abbrev pub run_of : Process → Run
run_of p = record { process = p; out = nothing; promises = []; makings = []; sendings = []; delivered = [] }

-- these are sent too
abbrev pub with_sends : List (ℕ × Datagram) → Run → Run
with_sends sends r = record r { out = record (r.out) { sends = r.out.sends ++ sends } }

-- a run after the rule of its event, and why the event is dropped, if it is
pub record Ruled : Type 0 where
  pub run : Run
  pub dropped : Option Reason

-- the event isn't dropped
abbrev pub done : Run → Ruled
done r = record { run = r; dropped = None }

-- the event is dropped, and leaves all as it was
abbrev pub dropped : Reason → Run → Ruled
dropped reason r = record { run = r; dropped = Some reason }

-- ---- how an event ended, as its row tells it

-- a run after the event's own rule, and the answer
pub record Ended : Type 0 where
  pub run : Run
  pub answer : RowAnswer

-- a send got this number
abbrev pub sent : ℕ → Run → Ended
sent seq r = record { run = r; answer = RowAnswer.Sent seq }

-- a send is refused, and leaves all as it was
abbrev pub refused : ProposeFault → Run → Ended
refused why r = record { run = r; answer = RowAnswer.Refused why }
