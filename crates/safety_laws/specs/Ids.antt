-- Each id keeps what its one send gave: order, atomicity, stamp and payload. That an entry is late isn't part of it.
use Rattle.std.specs.Prelude.{◌≡◌, false, List}
use Rattle.std.specs.List.{AllByRecursion}
use Rattle.tw_machine.specs.Types.{Body, Entry, Kept}
use Rattle.tw_types.specs.declared.datagram.Body.TheVariants as bodies
use Rattle.tw_types.specs.Process.{Process}
use Rattle.tw_types.specs.Sends.{as_sent}
use Rattle.tw_types.specs.Waiting.{payloads_of}
use Rattle.tw_machine.specs.Dispatches.{Dispatch}
use Rattle.tw_machine.specs.History.{SentUpdate, Make}
use Rattle.safety_laws.specs.Effects.{Written, WasSent}
use Rattle.tw_types.specs.Items.{In}
use Rattle.safety_laws.specs.Laws.{Law}

-- an update that is kept anywhere is, as it was sent, one that was sent
abbrev pub IsOfSend : List SentUpdate → Kept → Type 0
IsOfSend sends k = WasSent sends (as_sent k)

-- and so is an entry, which has no payload
abbrev pub EntryIsOfSend : List SentUpdate → Entry → Type 0
EntryIsOfSend sends e = (z : SentUpdate) × In z sends × (z.sending.update.entry ≡ record e { late = false })

-- of a decision that was made: the updates that were added, its whole list, and the window that ends it
pub record MakeKeeps (sends : List SentUpdate) (m : Make) : Type 0 where
  pub appended : AllByRecursion (IsOfSend sends) m.making.appended
  pub list : AllByRecursion (IsOfSend sends) m.log
  pub window : AllByRecursion (EntryIsOfSend sends) m.making.decision.window.items

-- of a process: its list, and what waits, pending or with the held decision
pub record ProcessKeeps (sends : List SentUpdate) (p : Process) : Type 0 where
  pub list : AllByRecursion (IsOfSend sends) p.log.entries
  pub waiting : AllByRecursion (IsOfSend sends) (payloads_of p.waiting)

-- of a datagram: the update that it carries, as it was sent
abbrev pub BodyKeeps : List SentUpdate → Body → Type 0
BodyKeeps sends (bodies.Update k) = WasSent sends k
BodyKeeps sends (bodies.Promise number report decision) = Unit {0}
BodyKeeps sends (bodies.Decision d) = Unit {0}
BodyKeeps sends (bodies.NoDecision number group turn skip reports best) = Unit {0}
BodyKeeps sends (bodies.Election number why) = Unit {0}
BodyKeeps sends (bodies.Ask want) = Unit {0}
BodyKeeps sends (bodies.State group position total offset bytes) = Unit {0}
BodyKeeps sends (bodies.Sync ready) = Unit {0}

pub record HistoryKeeps (w : Written) : Type 0 where
  pub makes : AllByRecursion (MakeKeeps w.sends) w.makes
  pub told : AllByRecursion (λ (k : Dispatch). BodyKeeps w.sends k.datagram.body) w.sent

-- each id keeps what its send gave
abbrev pub ids : Law
ids = record { History = λ steps w. HistoryKeeps w; Running = λ steps w who p. ProcessKeeps w.sends p }
