use Rattle.tw_machine.proofs.Causes.{dropped_first, filled_is_done, dropped_leaves, unanswered_leaves}
use Rattle.tw_machine.proofs.laws.updates_are_tested_in_order.Goals as goal

pub returns-clause-fills : goal.returns-clause-fills
returns-clause-fills c = filled_is_done

pub returns-clause-first : goal.returns-clause-first
returns-clause-first c = dropped_first

pub returns-clause-unchanged : goal.returns-clause-unchanged
returns-clause-unchanged c = dropped_leaves

pub returns-clause-unanswered : goal.returns-clause-unanswered
returns-clause-unanswered c = unanswered_leaves
