-- The number so far is the value of the digits that are passed.
use Rattle.std.proofs.Common.{◌≡◌, take}
use Rattle.std.specs.Str.Parse.{AllDigits, digits_value}
use Rattle.schedule_text.proofs.fields.number.Given as goal

abbrev pub invariant-loop-byte : goal.invariant-loop-byte
invariant-loop-byte l = AllDigits 10 (take l.byte-index l.word) × (l.number ≡ digits_value 10 (take l.byte-index l.word))
