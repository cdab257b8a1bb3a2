use Rattle.safety_laws.proofs.ListLaws.{listed_well}
use Rattle.safety_laws.proofs.group_lists.lists_are_whole.Goals as goal

pub returns-clause-listed : goal.returns-clause-listed
returns-clause-listed c = λ team past sound ok. (listed_well team past sound ok).history.0.1.listed

pub returns-clause-whole : goal.returns-clause-whole
returns-clause-whole c = λ team past sound ok. (listed_well team past sound ok).history.0.1.whole
