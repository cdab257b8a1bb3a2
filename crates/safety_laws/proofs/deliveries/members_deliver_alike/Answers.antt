use Rattle.tw_machine.specs.Applied.{meaning_of}
use Rattle.safety_laws.proofs.DeliverAlike.{deliver_alike}
use Rattle.safety_laws.proofs.deliveries.members_deliver_alike.Goals as goal

pub returns : goal.returns
returns g c = λ shown. deliver_alike (meaning_of g.A.Machine.empty g.A.Machine.after shown)
