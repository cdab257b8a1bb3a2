use Rattle.std.proofs.Common.{map, take}
use Rattle.std.specs.List.{AllByRecursion}
use Rattle.tw_types.specs.Printed.{update_printed}
use Rattle.tw_machine.specs.RowLimits.{UpdateFits}
use Rattle.schedule_text.proofs.limits.earlies_fit.Given as goal

abbrev pub invariant-loop-kept : goal.invariant-loop-kept
invariant-loop-kept l = AllByRecursion UpdateFits (map update_printed (take l.kept-index l.earlies))
