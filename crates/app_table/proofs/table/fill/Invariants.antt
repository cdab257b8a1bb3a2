use Rattle.std.proofs.Common.{◌≡◌, ◌≤◌, take}
use Rattle.std.specs.Prelude.{vec_capacity}
use Rattle.app_table.specs.Snapshots.{entries_of}
use Rattle.app_table.proofs.table.fill.Given as goal

-- the first entries are there
abbrev pub invariant-loop-place : goal.invariant-loop-place
invariant-loop-place l = (l.entries.items ≡ take l.place (entries_of l.bytes)) × (256 ≤ vec_capacity l.entries)
