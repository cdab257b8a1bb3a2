use Rattle.wire_head.proofs.Written.{written_then, written_last}
use Rattle.wire_body.proofs.writing.put_sync.Goals as goal

pub returns-in-None : goal.returns-in-None
returns-in-None c = rw c.in-None.is (written_then c.put_byte-place.ensures.text (written_last c.put_zeros.ensures.text))

pub returns-in-Some : goal.returns-in-Some
returns-in-Some c = rw c.in-Some.is (written_then c.put_byte-place-in-Some.ensures.text (written_last c.put_ready.ensures))
