use Rattle.safety_laws.specs.Effects.{written}
use Rattle.safety_laws.proofs.ListLaws.{listed_well}
use Rattle.safety_laws.proofs.ListsAt.{supports_at}
use Rattle.safety_laws.proofs.group_lists.supports_tell_lengths.Goals as goal

pub returns : goal.returns
returns c = λ team past sound ok. let k = (listed_well team past sound ok).history in supports_at team past (written team past) k.0.0.0.0.0 k.0.1
