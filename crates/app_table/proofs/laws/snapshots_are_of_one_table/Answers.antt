use Rattle.app_table.specs.TableLaws.{again}
use Rattle.app_table.proofs.Snapshots.{one_table}
use Rattle.app_table.proofs.laws.snapshots_are_of_one_table.Goals as goal

pub returns-clause-again : goal.returns-clause-again
returns-clause-again c entries is = again entries is

pub returns-clause-one : goal.returns-clause-one
returns-clause-one c snapshot entries bytes is = one_table snapshot entries bytes is
