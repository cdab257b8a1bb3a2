use Rattle.std.proofs.Common.{◌≡◌, ◌<◌, ◌^◌, take}
use Rattle.tw_types.specs.Groups.{lease_ends, greatest}
use Rattle.group_maker.proofs.start.lease_end.Given as goal

abbrev pub invariant-loop-report : goal.invariant-loop-report
invariant-loop-report l = (l.end ≡ greatest (lease_ends l.team (take l.report-index l.reports))) × (l.end < 2 ^ 66)
