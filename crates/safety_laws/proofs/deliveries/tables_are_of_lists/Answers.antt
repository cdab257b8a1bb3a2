use Rattle.tw_machine.specs.Applied.{meaning_of}
use Rattle.tw_machine.specs.World.{world}
use Rattle.safety_laws.proofs.ClockLaw.{each_running}
use Rattle.safety_laws.proofs.TablesOf.{tables_of_lists, equal_tables}
use Rattle.safety_laws.proofs.deliveries.tables_are_of_lists.Goals as goal

pub returns : goal.returns
returns g c = record {
  tables = λ shown team past who sound ok. each_running ((world team past).process_of who)
      (λ p runs last belief. tables_of_lists (meaning_of g.A.Machine.empty g.A.Machine.after shown) team past who p last sound ok runs belief);
  equal = λ shown. equal_tables (meaning_of g.A.Machine.empty g.A.Machine.after shown);
}
