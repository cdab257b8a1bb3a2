use Rattle.tw_machine.specs.Applied.{meaning_of}
use Rattle.safety_laws.proofs.RowsTimed.{timed_order}
use Rattle.safety_laws.proofs.deliveries.timed_deliveries_come_in_order.Goals as goal

pub returns : goal.returns
returns g c = λ shown. timed_order (meaning_of g.A.Machine.empty g.A.Machine.after shown)
