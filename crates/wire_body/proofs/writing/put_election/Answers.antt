use Rattle.wire_head.proofs.Written.{written_then, written_last}
use Rattle.wire_body.proofs.writing.put_election.Goals as goal

pub returns : goal.returns
returns c = written_then c.put_u64-place.ensures.text (written_last c.put_why.ensures.text)
