use Rattle.std.proofs.Common.{◌≤◌, ◌-◌, sym, arith}
use Rattle.app_table.proofs.Snapshots.{falls, neighbours_ascend, one_neighbour_more}
use Rattle.record_text.proofs.shown.ascend.Goals as goal

pub returns-then-entries-place : goal.returns-then-entries-place
returns-then-entries-place c =
    let least : 1 ≤ c.loop-place.place = c.loop-place.invariant.0 in
    sym (falls c.args.entries.now (c.loop-place.place - 1) c.loop-place.place (omega arith) c.loop-place-test.true c.if-entries-place.true)

pub loop-place-preserved : goal.loop-place-preserved
loop-place-preserved c =
    let least : 1 ≤ c.loop-place.place = c.loop-place.invariant.0 in
    (omega arith, one_neighbour_more c.args.entries.now c.loop-place.place least c.loop-place.invariant.1 c.if-entries-place.false)

pub returns : goal.returns
returns c = sym (neighbours_ascend c.args.entries.now (λ j lt. c.loop-place.invariant.1 j (omega (arith, c.loop-place-test.false, lt))))
