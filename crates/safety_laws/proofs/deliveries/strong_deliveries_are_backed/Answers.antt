use Rattle.tw_machine.specs.Applied.{meaning_of}
use Rattle.safety_laws.proofs.RowsBacked.{backed_rows}
use Rattle.safety_laws.proofs.deliveries.strong_deliveries_are_backed.Goals as goal

pub returns : goal.returns
returns g c = λ shown. backed_rows (meaning_of g.A.Machine.empty g.A.Machine.after shown)
