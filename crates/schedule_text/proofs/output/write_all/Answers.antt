use Rattle.std.proofs.Common.{arith}
use Rattle.std.proofs.lemmas.Result.{err_from_is_err_and}
use Rattle.schedule_text.proofs.Outputs.{more_progress, cut_off, rest_is_whole}
use Rattle.schedule_text.proofs.output.write_all.Goals as goal

pub returns-in_err-count-clause-cut : goal.returns-in_err-count-clause-cut
returns-in_err-count-clause-cut g c =
    let p = err_from_is_err_and c.from_residual.result c.from_residual.ensures.1 in
    rw p.1 (rw c.in_err-count.ensures.err (cut_off _ _ _ _ c.loop-rest.invariant.progress))

pub returns-then-count-eq0-clause-cut : goal.returns-then-count-eq0-clause-cut
returns-then-count-eq0-clause-cut g c = cut_off _ _ _ _ (more_progress _ _ _ _ _ c.in_ok-count.count c.loop-rest.invariant.progress c.in_ok-count.ensures.takes)

pub loop-rest-preserved : goal.loop-rest-preserved
loop-rest-preserved g c = record {
  progress = rw (rest_is_whole c.loop-rest.rest.now c.in_ok-count.count) (more_progress _ _ _ _ c.loop-rest.rest.now c.in_ok-count.count c.loop-rest.invariant.progress c.in_ok-count.ensures.takes);
  monotone = omega (arith, c.write.ensures.monotone);
}
