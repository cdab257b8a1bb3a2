use Rattle.std.proofs.Common.{◌≤◌, length, arith}
use Rattle.wire_body.proofs.Whole.{written_whole}
use Rattle.wire_body.proofs.writing.write.Goals as goal

pub returns-clause-bytes : goal.returns-clause-bytes
returns-clause-bytes c =
    let head = rw c.kind_of.ensures.exact at c.write_head.ensures.bytes in
    let size = rw c.kind_of.ensures.exact at c.write_head.ensures.size in
    let room : 57 ≤ length c.args.out.now = omega (arith, c.told-out) in
    written_whole _ _ _ _ _ _ head size room c.put_body.ensures
