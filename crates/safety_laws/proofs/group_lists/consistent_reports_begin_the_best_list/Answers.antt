use Rattle.tw_machine.specs.World.{world}
use Rattle.safety_laws.specs.Effects.{written}
use Rattle.safety_laws.proofs.Beginnings.{consistent_reports}
use Rattle.safety_laws.proofs.ClockLaw.{each_running}
use Rattle.safety_laws.proofs.ListLaws.{listed_well}
use Rattle.safety_laws.proofs.group_lists.consistent_reports_begin_the_best_list.Goals as goal

pub returns : goal.returns
returns c = λ team past who sound ok. each_running ((world team past).process_of who) (λ p runs b is.
    let all = listed_well team past sound ok in
    let k = all.history in
    consistent_reports team past (written team past) who p k.0.0.0.0.0 k.0.0.1 k.0.1 k.1 (all.running who p runs).0.0.0.0.0 b is)
