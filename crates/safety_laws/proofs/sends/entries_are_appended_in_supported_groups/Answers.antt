use Rattle.tw_machine.specs.History.{history}
use Rattle.safety_laws.specs.Supported.{IsAppendedInSupported}
use Rattle.safety_laws.proofs.Lists.{of_each}
use Rattle.safety_laws.proofs.SendLaws.{supported_well}
use Rattle.safety_laws.proofs.sends.entries_are_appended_in_supported_groups.Goals as goal

pub returns : goal.returns
returns c = λ team past m sound ok i some.
    of_each (IsAppendedInSupported team (history team past).makes) (history team past).makes m (supported_well team past sound ok).history.1.appended i some
