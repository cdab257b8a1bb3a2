use Rattle.wire_head.proofs.Written.{written_then, written_last}
use Rattle.wire_body.proofs.decisions.put_seat.Goals as goal

pub returns-clause-text : goal.returns-clause-text
returns-clause-text c =
    written_then c.put_byte-place.ensures.text (
    written_then c.put_u64-place.ensures.text (
    written_then c.put_u32-place.ensures.text (
    written_then (rw (← c.presence.ensures) c.put_byte-place-2.ensures.text) (
    written_last c.put_support.ensures.text))))
