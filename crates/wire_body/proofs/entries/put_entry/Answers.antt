use Rattle.wire_head.proofs.Written.{written_then, written_last}
use Rattle.wire_body.proofs.entries.put_entry.Goals as goal

pub returns-clause-text : goal.returns-clause-text
returns-clause-text c = written_then c.put_id-place.ensures.text (written_then (rw (← c.class_of.ensures) c.put_byte-place.ensures.text) (written_last c.put_u64.ensures.text))
