use Rattle.std.proofs.Common.{refl, []}
use Rattle.tw_machine.specs.Electing.{ballot_dropped}
use Rattle.node_core.proofs.state.State.begin_or_hold.Goals as goal

pub returns-in-Ok-clause-stands : goal.returns-in-Ok-clause-stands
returns-in-Ok-clause-stands c = λ team ballot r held s. rw c.in-Ok.is (c.make_decision.ensures.stands team ballot.best ballot.reports.items [] (ballot_dropped r) (record {
  same_team = s.same_team;
  process = record { identity = s.process.identity; timing = s.process.timing; beat = s.process.beat; vote = s.process.vote; ballot = refl; belief = s.process.belief; log = s.process.log; waiting = s.process.waiting; hold = s.process.hold; next_seq = s.process.next_seq };
  given = s.given;
}))

pub returns-in-Err-clause-stands : goal.returns-in-Err-clause-stands
returns-in-Err-clause-stands c = λ team ballot r held s. rw c.in-Err.is (c.hold_best.ensures.stands team ballot r held s)
