-- What happens to a running process, and what comes of it.
use Rattle.std.specs.Prelude.{ℕ, List, Result}
use Rattle.tw_machine.specs.Types.{Datagram, WireFault, Order, Atom, RowAnswer, Outputs}
use Rattle.tw_types.specs.Process.{Process}
use Rattle.tw_types.specs.Sends.{Sending}
use Rattle.tw_machine.specs.Run.{Delivered}
use Rattle.tw_types.specs.Votes.{Promise, Making}

-- Time passed; bytes came, of which the wire says what they are; team time is known to lie from lo to hi; or the process is to send an
-- update.
pub data Event : Type 0 where
  Tick : Event
  Packet : (read : Result Datagram WireFault) → Event
  Reference : (lo hi : ℕ) → Event
  Send : (order : Order) → (atom : Atom) → (payload : List ℕ) → Event

-- The process after an event, its answer as a row tells it, what it gives, and what it promised, made, sent for the first time and
-- delivered, which a history collects.
pub record Outcome : Type 0 where
  pub process : Process
  pub answer : RowAnswer
  pub out : Outputs
  pub promises : List Promise
  pub makings : List Making
  pub sendings : List Sending
  pub delivered : List Delivered
