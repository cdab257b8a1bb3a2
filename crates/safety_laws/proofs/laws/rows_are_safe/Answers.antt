use Rattle.tw_machine.specs.Applied.{meaning_of}
use Rattle.safety_laws.proofs.Safe.{safe_rows}
use Rattle.safety_laws.proofs.laws.rows_are_safe.Goals as goal

pub returns : goal.returns
returns g c = record { rows = λ shown. safe_rows (meaning_of g.A.Machine.empty g.A.Machine.after shown) }
