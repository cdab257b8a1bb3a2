use Rattle.std.proofs.Common.{arith, refl, ◌++◌}
use Rattle.tw_io.specs.LineReader.{held}
use Rattle.replayer.proofs.Replays.{is_last, not_last, at_end, at_last, at_write_fault, one_more}
use Rattle.replayer.proofs.steps.take_steps.Goals as goal

pub returns-in-End-clause-ends : goal.returns-in-End-clause-ends
returns-in-End-clause-ends g c = λ first bytes before sound left taken.
    let going = c.loop-steps.invariant.going bytes before left taken in
    at_end c.args.team.now first (held c.args.rooms.now.reader ++ bytes) before (held c.loop-steps.rooms.reader) _ _ c.loop-steps.world sound going (held c.next_step.new.rooms.reader) _ c.in-End.status
    (c.in-End.ensures.next going.past going.rest going.stands going.left_bytes)

pub returns-in_default-clause-ends : goal.returns-in_default-clause-ends
returns-in_default-clause-ends g c = λ first bytes before sound left taken.
    let going = c.loop-steps.invariant.going bytes before left taken in
    at_write_fault c.args.team.now first (held c.args.rooms.now.reader ++ bytes) before (held c.loop-steps.rooms.reader) _ _ c.loop-steps.world sound going (held c.next_step.new.rooms.reader) _ _ c.next_step.new.world c.next_step.new.rooms.row c.in-Taken.found
    (c.in-Taken.ensures.next going.past going.rest going.stands going.left_bytes) (omega (arith, c.loop-steps.invariant.count, c.loop-steps-test.true)) c.in_default.ensures.cut

pub returns-then-eq-clause-ends : goal.returns-then-eq-clause-ends
returns-then-eq-clause-ends g c = λ first bytes before sound left taken.
    let going = c.loop-steps.invariant.going bytes before left taken in
    at_last c.args.team.now first (held c.args.rooms.now.reader ++ bytes) before (held c.loop-steps.rooms.reader) _ _ c.loop-steps.world sound going (held c.next_step.new.rooms.reader) _ _ c.next_step.new.world c.next_step.new.rooms.row c.in-Taken.found (is_last c.in-Taken.found c.if-eq.ensures)
    (c.in-Taken.ensures.next going.past going.rest going.stands going.left_bytes) (omega (arith, c.loop-steps.invariant.count, c.loop-steps-test.true)) c.in-Ok.ensures.written

pub loop-steps-preserved : goal.loop-steps-preserved
loop-steps-preserved g c = record {
  going = λ bytes before left taken.
      let going = c.loop-steps.invariant.going bytes before left taken in
      one_more c.args.team.now (held c.args.rooms.now.reader ++ bytes) before (held c.loop-steps.rooms.reader) (held c.next_step.new.rooms.reader) _ _ _ _ c.loop-steps.world c.next_step.new.world c.next_step.new.rooms.row c.in-Taken.found going
      (c.in-Taken.ensures.next going.past going.rest going.stands going.left_bytes) (not_last c.in-Taken.found c.if-eq.ensures) (omega (arith, c.loop-steps.invariant.count, c.loop-steps-test.true)) c.in-Ok.ensures.written;
  count = c.in-Taken.ensures.steps c.in-Taken.found refl;
  same_team = c.in-Taken.ensures.team c.in-Taken.found refl;
  limit = c.next_step.ensures.limit;
  read = omega (arith, c.loop-steps.invariant.read, c.next_step.ensures.monotone);
  write = omega (arith, c.loop-steps.invariant.write, c.put_row.ensures.monotone);
}

pub returns-clause-ends : goal.returns-clause-ends
returns-clause-ends g c = λ first bytes before sound left taken.
    let going = c.loop-steps.invariant.going bytes before left taken in
    at_end c.args.team.now first (held c.args.rooms.now.reader ++ bytes) before (held c.loop-steps.rooms.reader) _ _ c.loop-steps.world sound going (held c.end_of_steps.new.reader) _ c.end_of_steps.result
    (c.end_of_steps.ensures.end c.args.team.now going.past going.rest (omega (arith, going.stands.steps, c.loop-steps.invariant.count, c.loop-steps-test.false, c.loop-steps.auto.steps-end)) going.left_bytes)
