use Rattle.tw_machine.proofs.Exclusions.{turn_or_group, no_repeat_of_made, no_repeat_of_elector, timed_or_repeated}
use Rattle.tw_machine.proofs.laws.duties_exclude_each_other.Goals as goal

pub returns-clause-group : goal.returns-clause-group
returns-clause-group c = turn_or_group

pub returns-clause-made : goal.returns-clause-made
returns-clause-made c = λ team now t r last sound. no_repeat_of_made team now t r last sound.decide

pub returns-clause-elected : goal.returns-clause-elected
returns-clause-elected c = no_repeat_of_elector

pub returns-clause-repeats : goal.returns-clause-repeats
returns-clause-repeats c = λ team now t r sound. timed_or_repeated team now t r sound.decide
