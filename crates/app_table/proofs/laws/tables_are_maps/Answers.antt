use Rattle.app_table.specs.Entries.{table_after}
use Rattle.app_table.proofs.Maps.{value_after_put, value_after_removal, nothing_removed, one_list}
use Rattle.app_table.proofs.laws.tables_are_maps.Goals as goal

pub returns-clause-put : goal.returns-clause-put
returns-clause-put c entries key value other = value_after_put key value other entries

pub returns-clause-removed : goal.returns-clause-removed
returns-clause-removed c entries key other = value_after_removal key other entries

pub returns-clause-absent : goal.returns-clause-absent
returns-clause-absent c entries key is none = nothing_removed key entries is.ascending none

pub returns-clause-table : goal.returns-clause-table
returns-clause-table c entries payload is = table_after entries payload is

pub returns-clause-same : goal.returns-clause-same
returns-clause-same c some others is are same = one_list some others is.ascending are.ascending same
