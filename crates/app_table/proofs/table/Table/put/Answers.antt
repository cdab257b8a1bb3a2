use Rattle.std.proofs.Common.{◌<◌, length, arith}
use Rattle.std.proofs.lemmas.Bool.Decides.{nat_tests}
use Rattle.app_table.specs.Table.{table_room}
use Rattle.app_table.specs.TableLaws.{content_after_put}
use Rattle.app_table.proofs.Edits.{put_between}
use Rattle.app_table.proofs.table.Table.put.Goals as goal

-- a known key has another value
pub invariant_of-self : goal.invariant_of-self
invariant_of-self c =
    (rw c.put_over.ensures.content (content_after_put c.args.key c.args.value _ c.ranges.key.fits c.ranges.value.fits c.self.invariant.0), rw c.put_over.ensures.room c.self.invariant.1)

-- a new one comes between the others
pub invariant_of-self-in-Err-2 : goal.invariant_of-self-in-Err-2
invariant_of-self-in-Err-2 c =
    let gap = rw c.deref.ensures.value at c.in-Err-2.ensures in
    let room : length c.self.inside.entries.items < table_room = grind (arith, nat_tests, c.is_full.ensures, c.if-is_full.false) in
    let ok = c.insert.ensures.succeeds (omega (arith, c.self.invariant.1)) in (
      rw (c.insert.ensures.items, ok, c.in-Err-2.place-is, put_between c.args.key c.args.value _ _ gap room) (content_after_put c.args.key c.args.value _ c.ranges.key.fits c.ranges.value.fits c.self.invariant.0),
      omega (arith, c.insert.ensures.capacity, c.self.invariant.1),
    )
