use Rattle.std.proofs.Common.{arith}
use Rattle.schedule_text.proofs.Sends.{one_written, send_stops}
use Rattle.schedule_text.proofs.row.put_sends.Goals as goal

pub returns-in_err-put_send : goal.returns-in_err-put_send
returns-in_err-put_send g c =
    send_stops _ _ _ _ _ _ c.args.first _ c.args.sends.now c.loop-to.number c.loop-to.to-index c.loop-to-item.result (omega arith) c.loop-to-item.is
    c.loop-to.invariant.sends c.from_residual.ensures.0 c.in_err-put_send.ensures.cut

pub loop-to-preserved : goal.loop-to-preserved
loop-to-preserved g c = record {
  sends = one_written _ _ _ _ _ _ c.args.first c.args.sends.now c.loop-to.number c.loop-to.to-index c.loop-to-item.result (omega arith) c.loop-to-item.is
      c.loop-to.invariant.sends c.in_ok-put_send.ensures.written;
  number = omega arith;
}
