use Rattle.tw_machine.proofs.Complete.{decision_is_done, election_is_done, promise_is_done}
use Rattle.tw_machine.proofs.laws.timely_datagrams_are_done.Goals as goal

pub returns-clause-decision : goal.returns-clause-decision
returns-clause-decision c = decision_is_done

pub returns-clause-election : goal.returns-clause-election
returns-clause-election c = election_is_done

pub returns-clause-promise : goal.returns-clause-promise
returns-clause-promise c = promise_is_done
