use Rattle.tw_machine.specs.Applied.{meaning_of}
use Rattle.safety_laws.proofs.StrongLast.{strong_last}
use Rattle.safety_laws.proofs.deliveries.strong_deliveries_last.Goals as goal

pub returns : goal.returns
returns g c = λ shown. strong_last (meaning_of g.A.Machine.empty g.A.Machine.after shown)
