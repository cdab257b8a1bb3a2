use Rattle.schedule_text.proofs.RowParts.{deliveries_are}
use Rattle.schedule_text.proofs.row.put_below_line.Goals as goal

pub returns : goal.returns
returns g c =
    let below = rw (← deliveries_are c.row.inside.line c.row.inside.out c.row.inside.first c.row.inside.entries.items) at c.put_deliveries.ensures in
    rw (← c.row.view_is) below
