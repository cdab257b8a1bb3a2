-- What an object of the outside is at a moment, and what it tells of itself. The clauses of a command are facts about such moments,
-- before it and after it.
use Rattle.std.specs.Prelude.{ℕ, ◌≡◌, List, Option, Some}
use Rattle.tw_io.specs.Link.{Binding, Sends, Arrival}

-- a source: the bytes left, where it tells them, and how often it has failed
pub record SourceAt (S : Type 0) : Type 0 where
  pub object : S
  pub left : Option (List ℕ)
  pub faults : ℕ

abbrev pub source_at : {S : Type 0} → (S → Option (List ℕ)) → (S → ℕ) → S → SourceAt S
source_at left faults s = record { object = s; left = left s; faults = faults s }

-- a sink: the bytes taken so far, where it tells them, and how often it has failed
pub record SinkAt (K : Type 0) : Type 0 where
  pub object : K
  pub taken : Option (List ℕ)
  pub faults : ℕ

abbrev pub sink_at : {K : Type 0} → (K → Option (List ℕ)) → (K → ℕ) → K → SinkAt K
sink_at taken faults s = record { object = s; taken = taken s; faults = faults s }

-- a clock: the readings still to come, where it tells them
pub record ClockAt (C : Type 0) : Type 0 where
  pub object : C
  pub to_come : Option (List ℕ)

abbrev pub clock_at : {C : Type 0} → (C → Option (List ℕ)) → C → ClockAt C
clock_at to_come c = record { object = c; to_come = to_come c }

-- a link: where it was bound, its send calls and what is to arrive, where it tells them, and how often it has failed
pub record LinkAt (L : Type 0) : Type 0 where
  pub object : L
  pub binding : Option Binding
  pub sends : Option Sends
  pub arriving : Option (List (Option Arrival))
  pub faults : ℕ
  pub losses : ℕ

abbrev pub link_at : {L : Type 0} → (L → Option Binding) → (L → Option Sends) → (L → Option (List (Option Arrival))) → (L → ℕ) → (L → ℕ) → L → LinkAt L
link_at binding sends arriving faults losses l = record { object = l; binding = binding l; sends = sends l; arriving = arriving l; faults = faults l; losses = losses l }

-- a fact of all that a source has left and of what a sink took before, where they tell it
abbrev pub WhereTold : {S K : Type 0} → SourceAt S → SinkAt K → (List ℕ → List ℕ → Type 0) → Type 0
WhereTold src sink fact = (all before : List ℕ) → src.left ≡ Some all → sink.taken ≡ Some before → fact all before
