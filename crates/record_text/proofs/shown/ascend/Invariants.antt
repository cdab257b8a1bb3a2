use Rattle.std.proofs.Common.{ℕ, suc, ◌<◌, ◌≤◌}
use Rattle.app_table.proofs.Found.{key_at}
use Rattle.record_text.proofs.shown.ascend.Given as goal

-- each key so far is above the one before it
abbrev pub invariant-loop-place : goal.invariant-loop-place
invariant-loop-place l = (1 ≤ l.place) × ((j : ℕ) → suc j < l.place → key_at l.entries j < key_at l.entries (suc j))
