use Rattle.std.proofs.Common.{◌≡◌, ◌∙◌, ◌<◌, refl, ap, length, arith}
use Rattle.node_core.proofs.InTurn.{none_passed, one_passed, next_within, all_passed, run_left}
use Rattle.node_core.proofs.delivering.deliver_run.Goals as goal

pub loop-how-init : goal.loop-how-init
loop-how-init c = let none : length c.args.out.now ≡ 0 = ap length c.requires.empty in record {
  so_far = λ before s. none_passed c.args.team.now c.args.last.now before c.args.out.now c.args.log.now c.requires.empty s;
  count = omega (arith, none);
  length = refl;
}

pub pass_one-requires-clause-left : goal.pass_one-requires-clause-left
pass_one-requires-clause-left c = next_within _ _ _ _ _ _ (c.loop-how.invariant.so_far c.requires.kept.log c.requires.kept.stands) c.in-Some.ensures.step

pub pass_one-requires-clause-room : goal.pass_one-requires-clause-room
pass_one-requires-clause-room c =
    let left : c.loop-how.log.passed < c.loop-how.log.length = next_within _ _ _ _ _ _ (c.loop-how.invariant.so_far c.requires.kept.log c.requires.kept.stands) c.in-Some.ensures.step in
    omega (arith, left, c.loop-how.invariant.count, c.loop-how.invariant.length, c.length.ensures.near)

pub loop-how-smaller : goal.loop-how-smaller
loop-how-smaller c =
    let left : c.loop-how.log.passed < c.loop-how.log.length = next_within _ _ _ _ _ _ (c.loop-how.invariant.so_far c.requires.kept.log c.requires.kept.stands) c.in-Some.ensures.step in
    omega (arith, left, c.pass_one.ensures.passed, c.pass_one.ensures.length)

pub loop-how-preserved : goal.loop-how-preserved
loop-how-preserved c = record {
  so_far = λ before s. one_passed _ _ _ _ _ _ _ _ (c.loop-how.invariant.so_far before s) c.in-Some.ensures.step c.pass_one.ensures.log c.pass_one.ensures.out;
  count = omega (arith, c.loop-how.invariant.count, c.pass_one.ensures.passed, c.pass_one.ensures.one);
  length = c.pass_one.ensures.length ∙ c.loop-how.invariant.length;
}

pub returns-clause-log : goal.returns-clause-log
returns-clause-log c = λ l s. run_left _ _ _ _ _ (c.loop-how.invariant.so_far l s) c.in_default.ensures.step

pub returns-clause-out : goal.returns-clause-out
returns-clause-out c = λ l s. all_passed _ _ _ _ _ (c.loop-how.invariant.so_far l s) c.in_default.ensures.step

pub returns-clause-length : goal.returns-clause-length
returns-clause-length c = c.loop-how.invariant.length
