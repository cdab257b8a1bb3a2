use Rattle.std.proofs.Common.{◌≡◌, map, take, length}
use Rattle.tw_machine.specs.RowText.{member_text}
use Rattle.schedule_text.specs.LineFields.{field_text}
use Rattle.schedule_text.proofs.row.member_fields.Given as goal

abbrev pub invariant-loop-seat : goal.invariant-loop-seat
invariant-loop-seat l = record {
  members : map field_text l.fields.items ≡ map member_text (map (λ s. s.member) (take l.seat-index l.seats.items));
  many : length l.fields.items ≡ l.seat-index;
}
