use Rattle.std.proofs.Common.{◌≡◌, ◌≤◌, take, length}
use Rattle.std.specs.Prelude.{filter}
use Rattle.tw_types.specs.Reports.{is_consistent}
use Rattle.group_maker.proofs.members.consistent.Given as goal

abbrev pub invariant-loop-report : goal.invariant-loop-report
invariant-loop-report l = (l.consistent.items ≡ filter (is_consistent l.b.best) (take l.report-index l.b.reports.items)) × (length l.consistent.items ≤ l.report-index)
