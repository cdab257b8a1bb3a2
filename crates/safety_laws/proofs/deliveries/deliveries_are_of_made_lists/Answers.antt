use Rattle.tw_machine.specs.World.{world}
use Rattle.safety_laws.proofs.ClockLaw.{each_running}
use Rattle.safety_laws.proofs.DeliveryLaws.{delivered_well}
use Rattle.safety_laws.proofs.deliveries.deliveries_are_of_made_lists.Goals as goal

pub returns : goal.returns
returns c = record {
  ascend = λ team past sound ok. (delivered_well team past sound ok).history.1.ascend;
  backed = λ team past sound ok. (delivered_well team past sound ok).history.1.backed;
  keep = λ team past sound ok. (delivered_well team past sound ok).history.1.keep;
  passed = λ team past who sound ok. each_running ((world team past).process_of who) (λ p runs. ((delivered_well team past sound ok).running who p runs).1.passed);
}
