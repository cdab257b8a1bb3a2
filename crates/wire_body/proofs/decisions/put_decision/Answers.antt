use Rattle.wire_head.proofs.Written.{written_then, written_last}
use Rattle.wire_body.proofs.decisions.put_decision.Goals as goal

pub returns : goal.returns
returns c =
    let seats = rw c.as_slice.ensures.value at c.put_list-place.ensures.text in
    let window = rw c.as_slice-2.ensures.value at c.put_list.ensures.text in
    written_then c.put_u64-place.ensures.text (
    written_then c.put_u64-place-2.ensures.text (
    written_then c.put_u64-place-3.ensures.text (
    written_then c.put_u64-place-4.ensures.text (
    written_then c.put_u64-place-5.ensures.text (
    written_then c.put_u64-place-6.ensures.text (
    written_then c.put_byte-place.ensures.text (
    written_then c.put_u32-place.ensures.text (
    written_then seats (
    written_then c.put_byte-place-2.ensures.text (
    written_last window))))))))))
