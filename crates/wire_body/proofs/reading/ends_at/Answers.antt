use Rattle.std.proofs.Common.{◌≤◌, length, refl, arith}
use Rattle.std.proofs.lemmas.Bool.{le-leb}
use Rattle.wire_body.proofs.reading.ends_at.Goals as goal

pub returns : goal.returns
returns c =
    let ends : length c.args.bytes.now ≤ c.args.end = omega arith in
    rw (le-leb _ _ ends) refl
