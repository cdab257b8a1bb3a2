use Rattle.std.proofs.Common.{◌≡◌, take, min}
use Rattle.std.specs.Prelude.{filter, map}
use Rattle.std.specs.List.{reduce}
use Rattle.std.specs.Option.{option_copied}
use Rattle.tw_types.specs.declared.message.Report.{Report}
use Rattle.tw_types.specs.Ballots.{reports_it}
use Rattle.group_book.proofs.ballots.least_reporter.Given as goal

abbrev pub invariant-loop-report : goal.invariant-loop-report
invariant-loop-report l = l.least ≡ reduce min (map (λ (r : Report). r.member.who) (filter (reports_it (option_copied l.decision)) (take l.report-index l.reports)))
