use Rattle.std.proofs.Common.{◌≡◌, ◌∙◌, sym, ap, ℕ, List, [], Option, Some, None, option_copied}
use Rattle.std.specs.Option.{option_map_or}
use Rattle.app_table.specs.Table.{Entry}
use Rattle.tw_machine.specs.Applied.{table_of}
use Rattle.world.specs.Tables.{entries_of}
use Rattle.world.proofs.node.entries.Goals as goal

pub returns-in-Some-clause-entries : goal.returns-in-Some-clause-entries
returns-in-Some-clause-entries c = λ p s.
    c.entries.ensures.entries ∙ ap (λ (t : Option (List Entry)). option_map_or (λ (e : List Entry). e) t []) (sym (ap option_copied c.in-Some.is) ∙ c.table.ensures (λ e. e) p s)

pub returns-in-None-clause-entries : goal.returns-in-None-clause-entries
returns-in-None-clause-entries c = λ p s.
    ap (λ (t : Option (List Entry)). option_map_or (λ (e : List Entry). e) t []) (sym (ap option_copied c.in-None.is) ∙ c.table.ensures (λ e. e) p s)
