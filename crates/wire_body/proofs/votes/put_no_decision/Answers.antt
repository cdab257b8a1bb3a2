use Rattle.wire_head.proofs.Written.{written_then, written_last}
use Rattle.wire_body.proofs.votes.put_no_decision.Goals as goal

pub returns : goal.returns
returns c =
    let reports = rw c.as_slice.ensures.value at c.put_list-place.ensures.text in
    written_then c.put_u64-place.ensures.text (
    written_then c.put_u64-place-2.ensures.text (
    written_then c.put_u64-place-3.ensures.text (
    written_then c.put_byte-place.ensures.text (
    written_then reports (
    written_last c.put_decision.ensures)))))
