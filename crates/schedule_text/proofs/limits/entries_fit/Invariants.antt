use Rattle.std.proofs.Common.{map, take}
use Rattle.std.specs.List.{AllByRecursion}
use Rattle.tw_types.specs.Printed.{entry_printed}
use Rattle.tw_machine.specs.RowLimits.{EntryFits}
use Rattle.schedule_text.proofs.limits.entries_fit.Given as goal

abbrev pub invariant-loop-key : goal.invariant-loop-key
invariant-loop-key l = AllByRecursion EntryFits (map entry_printed (take l.key-index l.entries))
