use Rattle.wire_head.proofs.Written.{written_then, written_last}
use Rattle.wire_body.proofs.writing.put_want.Goals as goal

pub returns-in-Update : goal.returns-in-Update
returns-in-Update c = rw c.in-Update.is (written_then c.put_byte-place.ensures.text (written_last c.put_id.ensures.text))

pub returns-in-Table : goal.returns-in-Table
returns-in-Table c = rw c.in-Table.is (written_then c.put_byte-place-in-Table.ensures.text (written_last c.put_u64.ensures.text))
