use Rattle.std.proofs.Common.{arith}
use Rattle.schedule_text.proofs.Fitting.{one_more_fits}
use Rattle.schedule_text.proofs.limits.sends_fit.Goals as goal

pub loop-to-preserved : goal.loop-to-preserved
loop-to-preserved c = record {
  fit = one_more_fits c.args.first c.args.sends.now c.loop-to.to-index c.loop-to-item.result (omega arith) c.loop-to-item.is c.loop-to.invariant.fit
      (omega arith) (omega (arith, c.has_room-in-loop-to.ensures)) c.body_fits.ensures;
  place = omega arith;
}
