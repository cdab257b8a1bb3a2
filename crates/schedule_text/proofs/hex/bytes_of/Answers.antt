-- A text that is refused has an odd count of digits, too many of them, or a byte that is no digit.
use Rattle.std.proofs.Common.{arith, refl, ap, length, subst, sym, ◌*◌, ◌+◌}
use Rattle.schedule_text.proofs.Taken.{on_err}
use Rattle.schedule_text.proofs.Digits.{IsSpelled, none_spelled, one_spelled, all_spelled, digits_count, no_glyph}
use Rattle.schedule_text.proofs.hex.bytes_of.Goals as goal
use Rattle.schedule_text.proofs.hex.bytes_of.Goals.{then-digits-eq1-via-then-digits-eq1, then-digits-eq1-via-else-digits-eq1+then-digits}

pub returns-then-digits-eq1-clause-refused : goal.returns-then-digits-eq1-clause-refused
returns-then-digits-eq1-clause-refused g c = λ bytes fits e.
    let count = digits_count bytes in
    let same = ap length e in
    elim c.then-digits-eq1.branch [
      | then-digits-eq1-via-then-digits-eq1 w ↦ omega arith
      | then-digits-eq1-via-else-digits-eq1+then-digits w ↦ omega arith
    ]

pub loop-i-init : goal.loop-i-init
loop-i-init g c = subst (λ bytes. IsSpelled c.args.digits.now bytes 0) (sym c.new-bytes.ensures) (none_spelled c.args.digits.now)

pub returns-in_err-high-clause-refused : goal.returns-in_err-high-clause-refused
returns-in_err-high-clause-refused g c = on_err c.from_residual.result c.from_residual.ensures.0 (λ bytes. no_glyph c.args.digits.now bytes (2 * c.loop-i.i) g.row.N (omega arith) c.in_err-high.ensures.refused)

pub returns-in_err-low-clause-refused : goal.returns-in_err-low-clause-refused
returns-in_err-low-clause-refused g c = on_err c.from_residual-in_err-low.result c.from_residual-in_err-low.ensures.0 (λ bytes. no_glyph c.args.digits.now bytes (2 * c.loop-i.i + 1) g.row.N (omega arith) c.in_err-low.ensures.refused)

pub push-requires : goal.push-requires
push-requires g c = omega (arith, c.loop-i.invariant.count)

pub loop-i-preserved : goal.loop-i-preserved
loop-i-preserved g c =
    subst (λ bytes. IsSpelled c.args.digits.now bytes (c.loop-i.i + 1)) (sym c.push.ensures.items)
    (one_spelled c.args.digits.now c.loop-i.bytes.items c.loop-i.i c.in_ok-high.high c.in_ok-low.low _ (omega arith) c.loop-i.invariant c.in_ok-high.ensures.read.0 c.in_ok-low.ensures.read.0 c.in_ok-high.ensures.read.1 c.in_ok-low.ensures.read.1 refl)

pub returns-clause-read : goal.returns-clause-read
returns-clause-read g c = all_spelled c.args.digits.now c.loop-i.bytes.items c.loop-i.i g.row.N (omega arith) (omega arith) c.loop-i.invariant
