use Rattle.std.proofs.Common.{ℕ, suc, ◌<◌, ◌≤◌, drop}
use Rattle.app_table.specs.Snapshots.{entries_in}
use Rattle.app_table.proofs.Found.{key_at}
use Rattle.app_table.proofs.snapshot.ascend.Given as goal

-- each key so far is above the one before it
abbrev pub invariant-loop-place : goal.invariant-loop-place
invariant-loop-place l = (1 ≤ l.place) × ((j : ℕ) → suc j < l.place → key_at (entries_in l.count (drop 2 l.bytes)) j < key_at (entries_in l.count (drop 2 l.bytes)) (suc j))
