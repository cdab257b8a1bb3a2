-- There is room for what of at most fifteen reports is new.
use Rattle.std.proofs.Common.{take, not, arith, lit<}
use Rattle.std.proofs.lemmas.List.{length-take}
use Rattle.tw_types.specs.declared.message.Report.{Report}
use Rattle.tw_types.specs.Ballots.{has_report_of}
use Rattle.group_book.proofs.Rounds.{no_longer}
use Rattle.group_book.proofs.ballots.new_reports.Goals as goal

pub push-requires : goal.push-requires
push-requires c =
    let front = take c.loop-report.report-index c.args.reports.now in
    let short = no_longer (λ (r : Report). not (has_report_of r.member.who c.args.ballot.now)) front in
    (lit< tt, rw c.loop-report.invariant (omega (arith, short, length-take c.loop-report.report-index c.args.reports.now)))
