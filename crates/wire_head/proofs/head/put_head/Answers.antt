use Rattle.wire_head.proofs.Written.{written_then, written_last}
use Rattle.wire_head.proofs.head.put_head.Goals as goal

pub returns-clause-text : goal.returns-clause-text
returns-clause-text c =
    written_then c.put_byte-place.ensures.text (
    written_then c.put_byte-place-2.ensures.text (
    written_then c.put_u32-place.ensures.text (
    written_then c.put_byte-place-3.ensures.text (
    written_then c.put_byte-place-4.ensures.text (
    written_then c.put_u64-place.ensures.text (
    written_then c.put_u64-place-2.ensures.text (
    written_then (rw (← c.flags_of.ensures) c.put_byte-place-5.ensures.text) (
    written_then c.put_interval-place.ensures.text (
    written_last c.put_echo.ensures.text)))))))))
