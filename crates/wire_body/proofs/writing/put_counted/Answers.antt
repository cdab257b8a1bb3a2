use Rattle.wire_head.proofs.Written.{written_then}
use Rattle.wire_body.proofs.writing.put_counted.Goals as goal

pub returns-clause-text : goal.returns-clause-text
returns-clause-text c = written_then c.put_u16-place.ensures.text c.put_text.ensures.text
