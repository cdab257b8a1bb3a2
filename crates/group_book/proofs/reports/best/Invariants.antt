use Rattle.std.proofs.Common.{◌≡◌, take}
use Rattle.tw_types.specs.Reports.{best}
use Rattle.group_book.proofs.reports.best.Given as goal

abbrev pub invariant-loop-report : goal.invariant-loop-report
invariant-loop-report l = l.best ≡ best (take l.report-index l.reports)
