use Rattle.schedule_text.proofs.Chains.{puts_more, puts_stop, puts_next}
use Rattle.schedule_text.proofs.row.put_deliveries.Goals as goal

pub returns-in_err-put_made_or_nothing : goal.returns-in_err-put_made_or_nothing
returns-in_err-put_made_or_nothing g c = puts_stop _ _ c.from_residual.ensures.0 c.in_err-put_made_or_nothing.ensures.cut

pub returns-in_err-put_passes : goal.returns-in_err-put_passes
returns-in_err-put_passes g c =
    let cut = rw c.as_slice.ensures.items at c.in_err-put_passes.ensures.cut in
    puts_next _ _ c.in_ok-put_made_or_nothing.ensures.written c.from_residual-in_err-put_passes.ensures.0 cut

pub returns : goal.returns
returns g c =
    let passes = rw c.as_slice.ensures.items at c.in_ok-put_passes.ensures.written in
    let earlies = rw c.as_slice-2.ensures.items at c.put_earlies.ensures in
    puts_more c.in_ok-put_made_or_nothing.ensures.written (puts_more passes earlies)
