-- A number at or above the limit spells no other one.
use Rattle.std.proofs.Common.{arith}
use Rattle.tw_machine.proofs.Decimals.{not_below}
use Rattle.schedule_text.proofs.fields.Fields.number.Goals as goal

pub returns-in_default-clause-refused : goal.returns-in_default-clause-refused
returns-in_default-clause-refused c = λ n more small e. not_below c.in_ok-word.field-0.now _ _ more c.in-Some.number n (omega arith) (omega arith) small c.in-Some.ensures.read c.in_ok-word.ensures.taken e
