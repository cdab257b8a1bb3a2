use Rattle.tw_machine.proofs.Causes.{refused_for, refuses, sends_if, sent_for}
use Rattle.tw_machine.specs.Proposing.{own_seq}
use Rattle.tw_machine.proofs.laws.sends_have_their_causes.Goals as goal

pub returns-clause-refused : goal.returns-clause-refused
returns-clause-refused c = λ team now order atom payload r why. (λ e. (refused_for team now order atom payload r why e).0, refuses team now order atom payload r why)

pub returns-clause-unchanged : goal.returns-clause-unchanged
returns-clause-unchanged c = λ team now order atom payload r why e. (refused_for team now order atom payload r why e).1

pub returns-clause-sent : goal.returns-clause-sent
returns-clause-sent c = λ team now order atom payload r. (λ e. (sent_for team now order atom payload r (own_seq r.process) e).0, sends_if team now order atom payload r)
