use Rattle.safety_laws.specs.Effects.{written}
use Rattle.safety_laws.proofs.ListLaws.{listed_well}
use Rattle.safety_laws.proofs.ListsAt.{silent_at}
use Rattle.safety_laws.proofs.SendLaws.{supported_well}
use Rattle.safety_laws.proofs.group_lists.silent_groups_add_nothing.Goals as goal

pub returns : goal.returns
returns c = λ team past m sound ok.
    let k = (listed_well team past sound ok).history in
    silent_at team past (written team past) k.0.0.0.0.0 k.0.1 (supported_well team past sound ok).history.1 m
