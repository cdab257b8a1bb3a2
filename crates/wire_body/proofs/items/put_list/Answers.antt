use Rattle.wire_head.proofs.Written.{written_then}
use Rattle.wire_body.proofs.items.put_list.Goals as goal

pub returns-clause-text : goal.returns-clause-text
returns-clause-text g c = written_then c.put_byte-place.ensures.text c.put_items.ensures.text
