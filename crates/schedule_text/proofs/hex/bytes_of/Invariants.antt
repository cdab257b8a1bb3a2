-- The bytes so far are those of the pairs that are passed.
use Rattle.schedule_text.proofs.Digits.{IsSpelled}
use Rattle.schedule_text.proofs.hex.bytes_of.Given as goal

abbrev pub invariant-loop-i : goal.invariant-loop-i
invariant-loop-i g l = IsSpelled l.digits l.bytes.items l.i
