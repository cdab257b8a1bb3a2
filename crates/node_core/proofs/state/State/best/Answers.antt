use Rattle.std.proofs.Common.{◌≤◌, arith, rules}
use Rattle.tw_types.specs.BallotFits.{IsBallot}
use Rattle.node_core.proofs.Waits.{best_from_below}
use Rattle.node_core.proofs.state.State.best.Goals as goal

pub returns-clause-source : goal.returns-clause-source
returns-clause-source c =
    let n = c.args.self.now.team.n in
    let many : 3 ≤ n = c.args.self.now.sound.at_least_three in
    let ballot : IsBallot n c.in_ok-ballot.ballot.now = search rules in
    best_from_below n c.in_ok-ballot.ballot.now (omega (arith, many)) ballot
