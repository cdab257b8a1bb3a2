-- The numbers that are taken stood before the fields that are left.
use Rattle.std.proofs.Common.{◌≡◌, take, length}
use Rattle.schedule_text.specs.Fields.{fields_left}
use Rattle.schedule_text.proofs.Taken.{IsTaken}
use Rattle.schedule_text.proofs.fields.Fields.numbers.Given as goal

abbrev pub invariant-loop-number : goal.invariant-loop-number
invariant-loop-number g l = (length l.number-items ≡ g.row.N) × IsTaken (fields_left l.fn.self) (fields_left l.self) (take l.number-index l.number-items)
