use Rattle.safety_laws.specs.Effects.{written}
use Rattle.safety_laws.proofs.ListLaws.{listed_well}
use Rattle.safety_laws.proofs.ListsAt.{acknowledged_at}
use Rattle.safety_laws.proofs.group_lists.acknowledged_entries_last.Goals as goal

pub returns : goal.returns
returns c = λ team past m later l sound ok.
    let k = (listed_well team past sound ok).history in
    acknowledged_at team past (written team past) k.0.0.0.0.0 k.0.1 m later l
