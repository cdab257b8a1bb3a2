use Rattle.wire_head.proofs.Written.{written_then, written_last}
use Rattle.wire_body.proofs.votes.put_promise.Goals as goal

pub returns : goal.returns
returns c =
    written_then c.put_u64-place.ensures.text (
    written_then c.put_report-place.ensures.text (
    written_then (rw (← c.presence.ensures) c.put_byte-place.ensures.text) (
    written_last c.put_decision_if.ensures)))
