-- One more number is taken, or none stands next.
use Rattle.std.proofs.Common.{arith, ◌∙◌, sym, length-set}
use Rattle.std.proofs.lemmas.List.{length-replicate}
use Rattle.schedule_text.proofs.Taken.{all_taken, none_taken, one_taken, none_next, on_err}
use Rattle.schedule_text.proofs.fields.Fields.numbers.Goals as goal

pub loop-number-init : goal.loop-number-init
loop-number-init g c = (length-replicate _ _, none_taken _)

pub returns-in_err-number-clause-refused : goal.returns-in_err-number-clause-refused
returns-in_err-number-clause-refused g c =
    let h = c.loop-number.invariant in
    on_err c.from_residual.result c.from_residual.ensures.0 (λ ns more same. none_next _ _ c.loop-number.number-items c.loop-number.number-index (omega (arith, h.0, c.loop-number-test.true)) h.1 c.in_err-number.ensures.refused ns more (same ∙ sym h.0))

pub loop-number-preserved : goal.loop-number-preserved
loop-number-preserved g c =
    let h = c.loop-number.invariant in
    let n = c.in_ok-number.ensures.taken in
    (length-set _ _ _ ∙ h.0, one_taken _ _ _ c.loop-number.number-items c.loop-number.number-index c.in_ok-number.field-0 (omega (arith, h.0, c.loop-number-test.true)) n.0 h.1 n.1)

pub returns-clause-taken : goal.returns-clause-taken
returns-clause-taken g c =
    let h = c.loop-number.invariant in
    all_taken _ _ c.loop-number.number-items c.loop-number.number-index (omega (arith, h.0, c.loop-number-test.false)) h.1
