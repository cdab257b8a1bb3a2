-- Tests that refuse, each with its word: of those that hold the first one decides.
use Rattle.std.specs.Prelude.{Bool, if◌then◌else◌, List, [], ◌∷◌, Option, Some, None}
use Rattle.tw_types.specs.declared.answer.Reason.{Reason}

-- a reason to refuse, and whether it is there
pub record Refusal : Type 0 where
  pub reason : Reason
  pub present : Bool

-- the first reason that is there, None where nothing refuses
abbrev pub first_refusal : List Refusal → Option Reason
first_refusal [] = None
first_refusal (r ∷ rs) = if r.present then Some r.reason else first_refusal rs
