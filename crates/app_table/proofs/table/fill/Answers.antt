use Rattle.std.proofs.Common.{◌≡◌, ◌<◌, ◌≤◌, length, take, drop, ap, ◌∙◌, arith}
use Rattle.std.proofs.lemmas.List.{length-take}
use Rattle.std.proofs.lemmas.Bool.Decides.{nat_tests}
use Rattle.app_table.specs.Snapshots.{entries_of, count_in}
use Rattle.app_table.specs.TableLaws.{length_entries}
use Rattle.app_table.proofs.Snapshots.{taken_with, taken_all}
use Rattle.app_table.proofs.table.fill.Goals as goal

pub loop-place-preserved : goal.loop-place-preserved
loop-place-preserved c =
    let within : c.loop-place.place < count_in c.args.bytes.now = omega (arith, c.loop-place-test.true, c.count-place-end.ensures) in
    let few : count_in c.args.bytes.now ≤ 256 = grind (arith, nat_tests, c.requires.one) in
    let so_far : length (take c.loop-place.place (entries_of c.args.bytes.now)) ≡ c.loop-place.place = omega (arith, length-take c.loop-place.place (entries_of c.args.bytes.now), length_entries (count_in c.args.bytes.now) (drop 2 c.args.bytes.now)) in
    let had : length c.loop-place.entries.items ≡ c.loop-place.place = ap length c.loop-place.invariant.0 ∙ so_far in
    let ok = c.push.ensures.succeeds (omega (arith, had, c.loop-place.invariant.1)) in (
      rw (c.push.ensures.items, ok, c.loop-place.invariant.0) (taken_with (count_in c.args.bytes.now) c.loop-place.place c.args.bytes.now c.entry.result within c.entry.ensures),
      omega (arith, c.push.ensures.capacity, c.loop-place.invariant.1),
    )

pub returns-clause-content : goal.returns-clause-content
returns-clause-content c = c.loop-place.invariant.0 ∙ taken_all (entries_of c.args.bytes.now) c.loop-place.place (omega (arith, c.loop-place-test.false, c.count-place-end.ensures, length_entries (count_in c.args.bytes.now) (drop 2 c.args.bytes.now)))
