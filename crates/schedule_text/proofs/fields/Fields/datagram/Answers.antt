-- A number above the limit spells no other one.
use Rattle.std.proofs.Common.{arith, ◌≡◌}
use Rattle.std.specs.Fmt.{decimal}
use Rattle.tw_machine.proofs.LineNumbers.{same_number}
use Rattle.schedule_text.proofs.fields.Fields.datagram.Goals as goal

pub returns-then-number-from-clause-refused : goal.returns-then-number-from-clause-refused
returns-then-number-from-clause-refused c = λ d more small e.
    let taken = c.in_ok-number.ensures.taken in
    let word : decimal c.in_ok-number.number ≡ decimal d = cc in
    let same = same_number c.in_ok-number.number d taken.0 (omega arith) word in
    omega (arith, c.from.ensures, c.if-number-from.true)
