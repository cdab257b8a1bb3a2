use Rattle.std.proofs.Common.{◌≡◌, ◌+◌, ◌*◌, ◌++◌, length, take, drop}
use Rattle.std.specs.Int.{w16, to_be_bytes}
use Rattle.std.specs.List.{flat_map}
use Rattle.app_table.specs.Snapshots.{entry_bytes}
use Rattle.app_table.proofs.snapshot.write.Given as goal

-- the count and the entries so far stand at the front, and all behind them is as it was
abbrev pub invariant-loop-key : goal.invariant-loop-key
invariant-loop-key l = (l.end ≡ 2 + 12 * l.key-index) × (l.out ≡ (to_be_bytes w16 (length l.entries) ++ flat_map entry_bytes (take l.key-index l.entries)) ++ drop l.end l.fn.out)
