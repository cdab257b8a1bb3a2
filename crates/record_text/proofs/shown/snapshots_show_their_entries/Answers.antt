use Rattle.app_table.specs.Snapshots.{table_bytes}
use Rattle.app_table.specs.TableLaws.{table_laws}
use Rattle.record_text.proofs.ShownFacts.{shown_again}
use Rattle.record_text.proofs.shown.snapshots_show_their_entries.Goals as goal

pub returns : goal.returns
returns c = λ entries is. shown_again (table_bytes entries) entries (table_laws.again entries is)
