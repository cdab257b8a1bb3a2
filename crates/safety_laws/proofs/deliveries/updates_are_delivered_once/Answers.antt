use Rattle.tw_machine.specs.World.{world}
use Rattle.safety_laws.proofs.ClockLaw.{each_running}
use Rattle.safety_laws.proofs.OnceLaws.{once_well, delivered_once}
use Rattle.safety_laws.proofs.deliveries.updates_are_delivered_once.Goals as goal

pub returns : goal.returns
returns c = record {
  marks = λ team past who sound ok. each_running ((world team past).process_of who) (λ p runs. ((once_well team past sound ok).running who p runs).0.1);
  lost = λ team past who sound ok. each_running ((world team past).process_of who) (λ p runs. ((once_well team past sound ok).running who p runs).0.0.1);
  once = delivered_once;
}
