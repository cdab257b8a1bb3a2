use Rattle.wire_head.proofs.Written.{written_then, written_last}
use Rattle.wire_body.proofs.writing.put_why.Goals as goal

pub returns-clause-text : goal.returns-clause-text
returns-clause-text c =
    let number = rw c.why_number.ensures at c.put_byte-place.ensures.text in
    let group = rw c.why_group.ensures at c.put_u64.ensures.text in
    written_then number (written_last group)
