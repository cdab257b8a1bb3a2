use Rattle.std.proofs.Common.{refl}
use Rattle.wire_head.proofs.Taken.{taken}
use Rattle.wire_body.specs.Reading.{datagram_at}
use Rattle.wire_body.proofs.Left.{left_by}
use Rattle.wire_body.proofs.reading.all_into.Goals as goal

pub returns-clause-exact : goal.returns-clause-exact
unfolding datagram_at
returns-clause-exact c = left_by _ _ (taken _ c.read_head.ensures.exact c.in_ok-head.was refl) c.body_in.ensures
