-- There is room for the report of a process that didn't report, and the ballot stays one.
use Rattle.std.proofs.Common.{◌≡◌, false, true, subst, sym, arith}
use Rattle.std.proofs.lemmas.Bool.Decides.{nat_tests}
use Rattle.std.specs.Prelude.{Some}
use Rattle.tw_types.specs.Ballots.{has_report_of, wants}
use Rattle.tw_types.specs.BallotFits.{IsBallot}
use Rattle.group_book.proofs.Rooms.{few_reports}
use Rattle.group_book.proofs.Joining.{joined_fits}
use Rattle.group_book.proofs.ballots.add.Goals as goal

pub join-requires : goal.join-requires
join-requires c =
    let none : has_report_of c.args.report.member.who c.args.ballot.now ≡ false = cc in
    omega (arith, few_reports c.args.team.now.n c.args.report.member.who c.args.ballot.now.reports.items c.requires.who c.requires.ballot.distinct c.requires.ballot.each none)

pub returns-clause-fits : goal.returns-clause-fits
returns-clause-fits c =
    λ h. let wanted : wants (record { number = c.args.number; report = c.args.report; decision = c.args.decision }) (Some c.args.ballot.now) ≡ true = grind (arith, nat_tests) in
    subst (IsBallot c.args.team.now.n) (sym c.join.ensures) (joined_fits c.args.team.now.n (record { number = c.args.number; report = c.args.report; decision = c.args.decision }) c.args.ballot.now h c.requires.ballot wanted)
