use Rattle.schedule_text.proofs.Chains.{puts_more, puts_stop, puts_next}
use Rattle.schedule_text.proofs.RowParts.{row_in_parts}
use Rattle.schedule_text.proofs.row.put_row.Goals as goal

pub returns-in_err-write_before_sends : goal.returns-in_err-write_before_sends
returns-in_err-write_before_sends g c = rw (row_in_parts c.args.row.now) (puts_stop _ _ c.from_residual.ensures.0 c.in_err-write_before_sends.ensures.cut)

pub returns-in_err-write_sends : goal.returns-in_err-write_sends
returns-in_err-write_sends g c = rw (row_in_parts c.args.row.now)
    (puts_next _ _ c.in_ok-write_before_sends.ensures.written c.from_residual-in_err-write_sends.ensures.0 c.in_err-write_sends.ensures.cut)

pub returns : goal.returns
returns g c = rw (row_in_parts c.args.row.now) (puts_more c.in_ok-write_before_sends.ensures.written (puts_more c.in_ok-write_sends.ensures.written c.write_entries.ensures))
