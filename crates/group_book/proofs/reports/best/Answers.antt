-- There is no best one exactly where no report is of an informed process.
use Rattle.std.proofs.Common.{◌≡◌, arith}
use Rattle.std.proofs.lemmas.Grind.{common_steps}
use Rattle.tw_types.specs.Reports.{best}
use Rattle.group_book.proofs.Pushes.{none_informed}
use Rattle.group_book.proofs.reports.best.Goals as goal

pub returns-clause-none : goal.returns-clause-none
returns-clause-none c =
    let whole : c.loop-report.best ≡ best c.args.reports.now = grind (arith, common_steps) in
    rw whole (none_informed c.args.reports.now)

pub loop-report-preserved : goal.loop-report-preserved
loop-report-preserved c = grind (arith, common_steps)
