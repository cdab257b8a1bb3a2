use Rattle.schedule_text.proofs.row.put_pass.Goals as goal

pub returns : goal.returns
returns g c = rw (← c.order_name.ensures, ← c.atom_name.ensures, ← c.how_name.ensures, ← c.deref.ensures.0) c.put_line.ensures
