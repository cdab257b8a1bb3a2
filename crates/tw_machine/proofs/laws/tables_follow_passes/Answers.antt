-- What is applied follows the passes.
use Rattle.tw_machine.proofs.Applied.{one_passed, grown_same, marked_same, deliver_applies}
use Rattle.tw_machine.proofs.Steps.{step_applies}
use Rattle.tw_machine.proofs.laws.tables_follow_passes.Goals as goal

pub returns-clause-passed : goal.returns-clause-passed
returns-clause-passed c = one_passed

pub returns-clause-grown : goal.returns-clause-grown
returns-clause-grown c = grown_same

pub returns-clause-marked : goal.returns-clause-marked
returns-clause-marked c = marked_same

pub returns-clause-delivered : goal.returns-clause-delivered
returns-clause-delivered c = deliver_applies

pub returns-clause-stepped : goal.returns-clause-stepped
returns-clause-stepped c = step_applies
