use Rattle.schedule_text.proofs.limits.texts_tell_rows_apart.Goals as goal

pub returns : goal.returns
returns c = c.rows_print_once.ensures.row c.args.a.now c.args.b.now c.row_fits.ensures c.row_fits-2.ensures
