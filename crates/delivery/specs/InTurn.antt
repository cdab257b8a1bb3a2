-- Deliveries that are asked for and done one after the other.
use Rattle.std.specs.Prelude.{ℕ, ◌+◌, ◌≤◌, List, [], ◌∷◌, ◌≡◌, map, Some, None}
use Rattle.tw_types.specs.declared.team.Team.{Team}
use Rattle.tw_types.specs.declared.message.Kept.{Kept}
use Rattle.tw_types.specs.declared.message.Decision.{Decision}
use Rattle.tw_types.specs.declared.outputs.Pass.{Pass}
use Rattle.tw_types.specs.Beliefs.{Log}
use Rattle.tw_types.specs.Updates.{next_weak, marked}
use Rattle.tw_types.specs.Logs.{log_at, passed_one, marked_at}
use Rattle.tw_types.specs.Deliveries.{as_early, next_pass, next_early, Deliveries}

-- the pass of the position at the cursor, where it is asked how it passes
pub record IsNextPass (team : Team) (d : Decision) (log : Log) (p : Pass) : Type 0 where
  pub how : next_pass team d log ≡ Some p.how
  pub position : p.position ≡ log.passed
  pub update : log_at log.passed log ≡ Some p.kept

-- Each of these is the pass of a position at the cursor, which moves behind it. In the end nothing passes.
abbrev pub PassedInTurn : Team → Decision → Log → List Pass → (after : Log) → Type 0
PassedInTurn team d log [] after = (next_pass team d log ≡ None) × (after ≡ log)
PassedInTurn team d log (p ∷ passes) after = IsNextPass team d log p × PassedInTurn team d (passed_one log) passes after

-- The update at the next early position, as it stands there once it is marked. Whoever asks for the one after it may ask from the
-- same position again, or from any other up to the one behind it.
pub record IsNextMarked (team : Team) (d : Decision) (log : Log) (from : ℕ) (k : Kept) : Type 0 where
  pub position : ℕ
  pub next : next_early team d log from ≡ Some position
  pub update : log_at position (marked_at position log) ≡ Some k
  pub again : ℕ
  pub not_below : from ≤ again
  pub not_behind : again ≤ position + 1

-- Each of these is the update at the next early position, which is marked. In the end there is none.
abbrev pub MarkedInTurn : Team → Decision → Log → (from : ℕ) → List Kept → (after : Log) → Type 0
MarkedInTurn team d log from [] after = (next_early team d log from ≡ None) × (after ≡ log)
MarkedInTurn team d log from (k ∷ earlies) after = (m : IsNextMarked team d log from k) × MarkedInTurn team d (marked_at m.position log) m.again earlies after

-- Each of these is the next weak update that waits, as it is once it is marked. In the end there is none.
abbrev pub WeaksInTurn : (pending weaks after : List Kept) → Type 0
WeaksInTurn pending [] after = (next_weak pending ≡ None) × (after ≡ pending)
WeaksInTurn pending (w ∷ weaks) after = (k : Kept) × (next_weak pending ≡ Some k) × (w ≡ as_early k) × WeaksInTurn (map (marked k.entry.id) pending) weaks after

-- first the passes, then from the cursor on the early ones of the list, and then the weak ones that wait
pub record DeliveredInTurn (team : Team) (d : Decision) (log : Log) (pending : List Kept) (all : Deliveries) (log_after : Log) (pending_after : List Kept) : Type 0 where
  pub behind : Log
  pub passes : PassedInTurn team d log all.passes behind
  pub earlies : MarkedInTurn team d behind behind.passed all.earlies log_after
  pub weaks : WeaksInTurn pending all.weaks pending_after
