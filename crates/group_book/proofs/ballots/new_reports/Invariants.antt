use Rattle.std.proofs.Common.{◌≡◌, take, not}
use Rattle.std.specs.Prelude.{filter}
use Rattle.tw_types.specs.declared.message.Report.{Report}
use Rattle.tw_types.specs.Ballots.{has_report_of}
use Rattle.group_book.proofs.ballots.new_reports.Given as goal

abbrev pub invariant-loop-report : goal.invariant-loop-report
invariant-loop-report l = l.new.items ≡ filter (λ (r : Report). not (has_report_of r.member.who l.ballot)) (take l.report-index l.reports)
