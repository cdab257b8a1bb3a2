use Rattle.std.proofs.Common.{◌≡◌, ◌∙◌, refl, ap, length, arith}
use Rattle.node_core.proofs.InTurn.{IsUnpassed, none_marked, one_marked, next_unpassed, all_marked, marks_left}
use Rattle.node_core.proofs.delivering.deliver_earlies.Goals as goal

pub loop-position-init : goal.loop-position-init
loop-position-init c =
    let none : length c.args.out.now ≡ 0 = ap length c.requires.empty in
    record {
      so_far = λ before s. none_marked c.args.team.now c.args.last.now before c.args.out.now c.passed-from.result c.args.log.now c.requires.empty c.passed-from.ensures.value s;
      unpassed = omega (arith, c.passed-from.ensures.value);
      within = omega (arith, c.passed-from.ensures.value, c.length.ensures.passed);
      count = omega (arith, none, c.passed-from.ensures.value);
      length = refl;
    }

pub mark_one-requires-clause-unpassed : goal.mark_one-requires-clause-unpassed
mark_one-requires-clause-unpassed c =
    let next : IsUnpassed c.loop-position.from c.in-Some.position c.loop-position.log = next_unpassed _ _ _ _ _ _ _ (c.loop-position.invariant.so_far c.requires.kept.log c.requires.kept.stands) c.loop-position.invariant.unpassed c.in-Some.ensures.step in
    omega (arith, c.loop-position.invariant.unpassed, next.above)

pub mark_one-requires-clause-within : goal.mark_one-requires-clause-within
mark_one-requires-clause-within c =
    let next : IsUnpassed c.loop-position.from c.in-Some.position c.loop-position.log = next_unpassed _ _ _ _ _ _ _ (c.loop-position.invariant.so_far c.requires.kept.log c.requires.kept.stands) c.loop-position.invariant.unpassed c.in-Some.ensures.step in
    next.within

pub mark_one-requires-clause-room : goal.mark_one-requires-clause-room
mark_one-requires-clause-room c =
    omega (arith, c.loop-position.invariant.count, c.loop-position.invariant.within, c.loop-position.invariant.length, c.length.ensures.near)

pub overflow_add-from : goal.overflow_add-from
overflow_add-from c =
    let next : IsUnpassed c.loop-position.from c.in-Some.position c.loop-position.log = next_unpassed _ _ _ _ _ _ _ (c.loop-position.invariant.so_far c.requires.kept.log c.requires.kept.stands) c.loop-position.invariant.unpassed c.in-Some.ensures.step in
    omega (arith, next.within, c.loop-position.invariant.length, c.length.ensures.value, c.length.ensures.bounded)

pub loop-position-smaller : goal.loop-position-smaller
loop-position-smaller c =
    let next : IsUnpassed c.loop-position.from c.in-Some.position c.loop-position.log = next_unpassed _ _ _ _ _ _ _ (c.loop-position.invariant.so_far c.requires.kept.log c.requires.kept.stands) c.loop-position.invariant.unpassed c.in-Some.ensures.step in
    omega (arith, next.above, next.within, c.mark_one.ensures.length)

pub loop-position-preserved : goal.loop-position-preserved
loop-position-preserved c =
    let next : IsUnpassed c.loop-position.from c.in-Some.position c.loop-position.log = next_unpassed _ _ _ _ _ _ _ (c.loop-position.invariant.so_far c.requires.kept.log c.requires.kept.stands) c.loop-position.invariant.unpassed c.in-Some.ensures.step in
    record {
      so_far = λ before s. one_marked _ _ _ _ _ _ _ _ _ (c.loop-position.invariant.so_far before s)
          c.loop-position.invariant.unpassed c.in-Some.ensures.step c.mark_one.ensures.log c.mark_one.ensures.out;
      unpassed = omega (arith, c.loop-position.invariant.unpassed, next.above, c.mark_one.ensures.passed);
      within = omega (arith, next.within, c.mark_one.ensures.length);
      count = omega (arith, c.loop-position.invariant.count, next.above, c.mark_one.ensures.one);
      length = c.mark_one.ensures.length ∙ c.loop-position.invariant.length;
    }

pub returns-clause-log : goal.returns-clause-log
returns-clause-log c = λ l s. marks_left _ _ _ _ _ _ (c.loop-position.invariant.so_far l s) c.loop-position.invariant.unpassed c.in_default.ensures.step

pub returns-clause-out : goal.returns-clause-out
returns-clause-out c = λ l s. all_marked _ _ _ _ _ _ (c.loop-position.invariant.so_far l s) c.loop-position.invariant.unpassed c.in_default.ensures.step

pub returns-clause-few : goal.returns-clause-few
returns-clause-few c = omega (arith, c.loop-position.invariant.count, c.loop-position.invariant.within, c.loop-position.invariant.length, c.length.ensures.near)

pub returns-clause-length : goal.returns-clause-length
returns-clause-length c = c.loop-position.invariant.length
