-- What is pending is settled by the decision that the process took or follows.
use Rattle.std.specs.Prelude.{◌+◌, ◌≡◌, ◌≤◌, ◌<◌, false, List, [], ◌∷◌}
use Rattle.std.specs.List.{AllByRecursion}
use Rattle.tw_machine.specs.Types.{Kept, Seat, Decision}
use Rattle.tw_types.specs.Beliefs.{view_decision}
use Rattle.tw_types.specs.Decisions.{or_none}
use Rattle.tw_types.specs.Process.{Process}
use Rattle.tw_types.specs.Updates.{is_same_id, sender, pending_room}
use Rattle.tw_types.specs.Items.{In}
use Rattle.safety_laws.specs.Laws.{Law}

-- no two updates have one id
abbrev pub NoneTwice : List Kept → Type 0
NoneTwice [] = Unit {0}
NoneTwice (k ∷ others) = AllByRecursion (λ (other : Kept). is_same_id k.entry.id other.entry.id ≡ false) others × NoneTwice others

-- the decision has a seat of the update's sender, and its number is one of the eight from the seat's next one on
pub record IsAwaited (d : Decision) (k : Kept) : Type 0 where
  pub seat : Seat
  pub there : In seat d.seats.items
  pub sender_is : seat.member ≡ sender k.entry.id
  pub low : seat.next ≤ k.entry.id.seq
  pub high : k.entry.id.seq < seat.next + pending_room

-- Each pending update has a seat of its member in that decision, and is one of the eight that the seat awaits next. So nothing is pending
-- where there is no decision.
pub record IsSettled (p : Process) : Type 0 where
  pub awaited : AllByRecursion (IsAwaited (or_none (view_decision p.belief))) p.waiting.pending
  pub once : NoneTwice p.waiting.pending

-- pending updates are settled
abbrev pub pending : Law
pending = record { History = λ steps w. Unit {0}; Running = λ steps w who p. IsSettled p }
