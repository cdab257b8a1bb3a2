use Rattle.schedule_text.proofs.row.put_entry.Goals as goal

pub returns : goal.returns
returns g c = rw c.from.ensures at c.put_line.ensures
