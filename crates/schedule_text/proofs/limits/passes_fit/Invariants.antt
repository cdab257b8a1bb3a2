use Rattle.std.proofs.Common.{map, take}
use Rattle.std.specs.List.{AllByRecursion}
use Rattle.tw_types.specs.Printed.{pass_printed}
use Rattle.tw_machine.specs.RowLimits.{PassFits}
use Rattle.schedule_text.proofs.limits.passes_fit.Given as goal

abbrev pub invariant-loop-pass : goal.invariant-loop-pass
invariant-loop-pass l = AllByRecursion PassFits (map pass_printed (take l.pass-index l.passes))
