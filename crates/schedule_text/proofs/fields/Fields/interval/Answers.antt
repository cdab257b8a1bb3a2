-- An interval that ends before it begins is no other one.
use Rattle.std.proofs.Common.{arith, ◌≡◌}
use Rattle.std.specs.Fmt.{decimal}
use Rattle.tw_machine.proofs.LineNumbers.{same_number}
use Rattle.schedule_text.proofs.fields.Fields.interval.Goals as goal

pub returns-then-hi-lo-clause-refused : goal.returns-then-hi-lo-clause-refused
returns-then-hi-lo-clause-refused c = λ lo hi more under small e.
    let first = c.in_ok-lo.ensures.taken in
    let second = c.in_ok-hi.ensures.taken in
    let low : decimal c.in_ok-lo.lo ≡ decimal lo = cc in
    let high : decimal c.in_ok-hi.hi ≡ decimal hi = cc in
    let below = same_number c.in_ok-lo.lo lo first.0 (omega arith) low in
    let above = same_number c.in_ok-hi.hi hi second.0 small high in
    omega (arith, c.if-hi-lo.true)
