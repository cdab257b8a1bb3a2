use Rattle.tw_machine.specs.World.{world}
use Rattle.safety_laws.proofs.ClockLaw.{each_running}
use Rattle.safety_laws.proofs.SendLaws.{settled_well}
use Rattle.safety_laws.proofs.sends.pending_updates_are_settled.Goals as goal

pub returns : goal.returns
returns c = λ team past who sound ok. each_running ((world team past).process_of who) (λ p runs. (settled_well team past sound ok).running who p runs)
