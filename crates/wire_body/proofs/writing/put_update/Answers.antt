use Rattle.wire_head.proofs.Written.{written_then, written_last}
use Rattle.wire_body.proofs.writing.put_update.Goals as goal

pub returns : goal.returns
returns c =
    let payload = rw c.as_slice.ensures.value at c.put_counted.ensures.text in
    written_then c.put_entry-place.ensures.text (written_last payload)
