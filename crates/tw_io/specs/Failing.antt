-- Calls that are to fail, by their numbers from 1.
use Rattle.std.specs.Prelude.{ℕ, Bool, List, nat_eq}
use Rattle.std.specs.List.{list_any}
use Rattle.tw_io.specs.Faults.{one_more}

-- how many calls there were, and the numbers of those that are to fail
pub record Plan : Type 0 where
  pub calls : ℕ
  pub failing : List ℕ

-- the next call is to fail
abbrev pub fails_next : Plan → Bool
fails_next plan = list_any (nat_eq (one_more plan.calls)) plan.failing

-- after one more call
abbrev pub called : Plan → Plan
called plan = record { calls = one_more plan.calls; failing = plan.failing }
