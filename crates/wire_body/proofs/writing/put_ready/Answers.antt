use Rattle.wire_head.proofs.Written.{written_then, written_last}
use Rattle.wire_body.proofs.writing.put_ready.Goals as goal

pub returns : goal.returns
returns c = written_then c.put_u64-place.ensures.text (written_then c.put_u64-place-2.ensures.text (written_last c.put_u64.ensures.text))
