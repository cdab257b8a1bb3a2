use Rattle.std.proofs.Common.{◌≡◌, map, take, min}
use Rattle.std.specs.List.{reduce}
use Rattle.tw_types.specs.declared.message.Report.{Report}
use Rattle.group_maker.proofs.members.least_length.Given as goal

abbrev pub invariant-loop-report : goal.invariant-loop-report
invariant-loop-report l = l.least ≡ reduce min (map (λ (r : Report). r.length) (take l.report-index l.seated))
