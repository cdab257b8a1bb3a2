use Rattle.tw_types.proofs.Appended.{appended_is}
use Rattle.tw_types.specs.Appending.{appended_list}
use Rattle.tw_machine.proofs.LateOnes.{late_for_a_cause}
use Rattle.tw_machine.proofs.laws.late_entries_have_their_cause.Goals as goal

pub returns-clause-each : goal.returns-clause-each
returns-clause-each c = late_for_a_cause

pub returns-clause-added : goal.returns-clause-added
returns-clause-added c = λ team t passed d pending ascends. late_for_a_cause team t d pending (appended_list team t passed d pending) (appended_is team t passed d pending ascends).may.each
