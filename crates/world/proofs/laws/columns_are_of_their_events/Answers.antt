use Rattle.world.proofs.Columns.{column}
use Rattle.world.proofs.laws.columns_are_of_their_events.Goals as goal

pub returns : goal.returns
returns c = record { column = column }
