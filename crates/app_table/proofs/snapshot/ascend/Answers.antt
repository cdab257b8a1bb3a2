use Rattle.std.proofs.Common.{◌≤◌, ◌<◌, ◌-◌, drop, sym, arith}
use Rattle.std.proofs.lemmas.Bool.Decides.{nat_tests}
use Rattle.app_table.specs.Snapshots.{entries_in}
use Rattle.app_table.specs.TableLaws.{length_entries}
use Rattle.app_table.proofs.Snapshots.{falls, key_there, neighbours_ascend, one_neighbour_more}
use Rattle.app_table.proofs.snapshot.ascend.Goals as goal

pub returns-then-key-before : goal.returns-then-key-before
returns-then-key-before c =
    let least : 1 ≤ c.loop-place.place = c.loop-place.invariant.0 in
    let within : c.loop-place.place < c.args.count = grind (arith, nat_tests, c.loop-place-test.true) in
    let before = key_there c.args.count (c.loop-place.place - 1) c.args.bytes.now c.entry-before.result (omega arith) c.entry-before.ensures in
    let key = key_there c.args.count c.loop-place.place c.args.bytes.now c.entry-key.result within c.entry-key.ensures in
    sym (falls (entries_in c.args.count (drop 2 c.args.bytes.now)) (c.loop-place.place - 1) c.loop-place.place (omega arith)
    (omega (arith, length_entries c.args.count (drop 2 c.args.bytes.now))) (grind (arith, nat_tests, before, key, c.if-key-before.true)))

pub loop-place-preserved : goal.loop-place-preserved
loop-place-preserved c =
    let least : 1 ≤ c.loop-place.place = c.loop-place.invariant.0 in
    let within : c.loop-place.place < c.args.count = grind (arith, nat_tests, c.loop-place-test.true) in
    let before = key_there c.args.count (c.loop-place.place - 1) c.args.bytes.now c.entry-before.result (omega arith) c.entry-before.ensures in
    let key = key_there c.args.count c.loop-place.place c.args.bytes.now c.entry-key.result within c.entry-key.ensures in
    (omega arith, one_neighbour_more (entries_in c.args.count (drop 2 c.args.bytes.now)) c.loop-place.place least c.loop-place.invariant.1 (omega (arith, before, key, c.if-key-before.false)))

pub returns : goal.returns
returns c = sym (neighbours_ascend (entries_in c.args.count (drop 2 c.args.bytes.now)) (λ j lt. c.loop-place.invariant.1 j (grind (arith, nat_tests, c.loop-place-test.false, length_entries c.args.count (drop 2 c.args.bytes.now), lt))))
