use Rattle.schedule_text.proofs.row.write_sends.Goals as goal

pub returns : goal.returns
returns g c =
    let sends = rw c.as_slice.ensures.items at c.put_sends.ensures in
    rw (← c.row.view_is) sends
