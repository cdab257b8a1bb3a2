-- What is left in a sink and on a link by writes and send calls.
use Rattle.std.specs.Prelude.{ℕ, ◌≡◌, List, ◌++◌, Option, Result, OnOk, OnErr}
use Rattle.tw_io.specs.Link.{Sends}
use Rattle.tw_machine.specs.NodeRun.{Call}
use Rattle.schedule_text.specs.Puts.{Written, Cut}
use Rattle.node_loop.specs.Calls.{Sent}

-- a front of these send calls
abbrev pub SentFront : Option Sends → List Call → Option Sends → Type 0
SentFront before calls after = (front : List Call) × (rest : List Call) × (calls ≡ front ++ rest) × Sent before front after

-- The text is written and the calls are made, or a fault of the sink came first: then a front of each.
pub record Does {A E : Type 0} (taken taken_then : Option (List ℕ)) (faults faults_then : ℕ) (sends sends_then : Option Sends) (result : Result A E) (text : List ℕ) (calls : List Call) : Type 0 where
  pub written : OnOk result (Written taken taken_then faults faults_then text)
  pub sent : OnOk result (Sent sends calls sends_then)
  pub cut : OnErr result (Cut taken taken_then faults faults_then text)
  pub some : OnErr result (SentFront sends calls sends_then)
