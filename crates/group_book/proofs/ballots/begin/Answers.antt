-- A ballot begins as one.
use Rattle.std.proofs.Common.{◌≡◌, None, subst, sym, arith}
use Rattle.std.proofs.lemmas.Grind.{common_steps}
use Rattle.tw_types.specs.declared.ballot.Ballot.{Ballot}
use Rattle.tw_types.specs.Votes.{Promise}
use Rattle.tw_types.specs.Ballots.{begun}
use Rattle.tw_types.specs.BallotFits.{IsBallot}
use Rattle.group_book.proofs.Joining.{begun_fits}
use Rattle.group_book.proofs.ballots.begin.Goals as goal

pub returns-clause-fits : goal.returns-clause-fits
returns-clause-fits c =
    λ n h. let promise : Promise = record { number = c.args.number; report = c.args.report; decision = c.args.decision } in
    let ballot : Ballot = record { number = c.args.number; ring = None; reports = c.push.new.self; best = c.args.decision; best_from = c.least_reporter-best_from.result } in
    let same : ballot ≡ begun promise = grind (arith, common_steps) in
    subst (IsBallot n) (sym same) (begun_fits n promise h)
