use Rattle.schedule_text.proofs.RowParts.{entries_are}
use Rattle.schedule_text.proofs.row.write_entries.Goals as goal

pub returns : goal.returns
returns g c =
    let entries = rw (c.deref.ensures.0, ← entries_are c.row.inside.line c.row.inside.out c.row.inside.first c.row.inside.entries.items) at c.put_entries.ensures in
    rw (← c.row.view_is) entries
