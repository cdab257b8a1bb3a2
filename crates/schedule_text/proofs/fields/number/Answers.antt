-- A word that is not read has not the shape of a decimal word.
use Rattle.std.proofs.Common.{arith, sym, ◌∙◌, ap}
use Rattle.std.specs.Fmt.{decimal}
use Rattle.std.proofs.lemmas.Grind.{common_steps}
use Rattle.tw_machine.proofs.Decimals.{shape_of, one_more, no_digit, read_word, IsOneMore}
use Rattle.schedule_text.proofs.fields.number.Goals as goal

pub returns-then-is_empty-clause-refused : goal.returns-then-is_empty-clause-refused
returns-then-is_empty-clause-refused c = λ n small e. let h = shape_of _ n small e in grind (arith, common_steps, h.some, h.short, h.no_zero)

pub returns-then-not-is_ascii_digit-clause-refused : goal.returns-then-not-is_ascii_digit-clause-refused
returns-then-not-is_ascii_digit-clause-refused c = λ n small e. no_digit _ c.loop-byte.byte-index n c.loop-byte-test.true (sym c.is_ascii_digit.ensures.value ∙ c.if-not-is_ascii_digit.true) small e

more : (c : goal.Else-not-is_ascii_digit) → IsOneMore c.args.word.now c.loop-byte.byte-index
more c = one_more _ c.loop-byte.byte-index c.loop-byte-test.true (omega arith) c.loop-byte.invariant.0 (sym c.is_ascii_digit.ensures.value ∙ c.if-not-is_ascii_digit.false)

pub overflow_mul-number : goal.overflow_mul-number
overflow_mul-number c = let m = more c in omega (arith, m.value, m.small, c.loop-byte.invariant.1)

pub overflow_add-number : goal.overflow_add-number
overflow_add-number c = let m = one_more _ c.loop-byte.byte-index c.loop-byte-test.true (omega arith) c.loop-byte.invariant.0 (sym c.is_ascii_digit.ensures.value ∙ c.if-not-is_ascii_digit.false) in omega (arith, m.value, m.small, c.loop-byte.invariant.1, c.from.ensures)

pub loop-byte-preserved : goal.loop-byte-preserved
loop-byte-preserved c = let m = one_more _ c.loop-byte.byte-index c.loop-byte-test.true (omega arith) c.loop-byte.invariant.0 (sym c.is_ascii_digit.ensures.value ∙ c.if-not-is_ascii_digit.false) in (m.digits, omega (arith, m.value, c.loop-byte.invariant.1, c.from.ensures))

pub returns-clause-read : goal.returns-clause-read
returns-clause-read c =
    let h = read_word c.args.word.now c.loop-byte.byte-index (grind (arith, common_steps)) (omega arith) (omega arith) (grind arith) c.loop-byte.invariant.0 in
    h ∙ ap decimal (sym c.loop-byte.invariant.1)
