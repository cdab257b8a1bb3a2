use Rattle.std.proofs.Common.{◌≡◌, true, arith}
use Rattle.std.proofs.lemmas.Bool.Decides.{nat_tests}
use Rattle.app_table.specs.Snapshots.{is_snapshot}
use Rattle.app_table.specs.TableLaws.{content_of}
use Rattle.app_table.proofs.Snapshots.{are_bytes}
use Rattle.app_table.proofs.table.TableMachine.restore.Goals as goal

pub invariant_of-self : goal.invariant_of-self
invariant_of-self c =
    let one : is_snapshot c.args.bytes.now ≡ true = grind (arith, nat_tests, c.is_one.ensures, c.if-not-is_one.false) in
    (rw c.fill.ensures.content (content_of c.args.bytes.now (are_bytes c.args.bytes.now c.type_inv.bytes) one), c.fill.ensures.room)
