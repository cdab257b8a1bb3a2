use Rattle.std.proofs.Common.{◌≡◌, ◌<◌, ◌^◌, take}
use Rattle.tw_types.specs.Groups.{readings, greatest}
use Rattle.group_maker.proofs.start.latest_reading.Given as goal

abbrev pub invariant-loop-report : goal.invariant-loop-report
invariant-loop-report l = (l.latest ≡ greatest (readings (take l.report-index l.reports))) × (l.latest < 2 ^ 66)
