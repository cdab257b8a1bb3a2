use Rattle.std.proofs.Common.{◌≡◌, take, drop}
use Rattle.app_table.specs.Snapshots.{entries_in}
use Rattle.record_text.proofs.shown.fill.Given as goal

-- the first entries are there
abbrev pub invariant-loop-place : goal.invariant-loop-place
invariant-loop-place l = l.entries.items ≡ take l.place (entries_in l.count (drop 2 l.bytes))
