use Rattle.std.proofs.Common.{arith}
use Rattle.wire_body.proofs.Datagrams.{datagram_again, datagram_cut, datagram_longer, left_found, left_again, left_fault}
use Rattle.wire_body.proofs.reading.read_into.Goals as goal

pub returns-clause-found : goal.returns-clause-found
returns-clause-found c = left_found _ _ _ _ c.all_into.ensures.line c.all_into.ensures.size (λ i. omega (arith, c.type_inv.bytes i)) c.all_into.ensures.exact

pub returns-clause-only : goal.returns-clause-only
returns-clause-only c d fits spelled =
    left_again _ _ _ _ c.all_into.ensures.exact (datagram_again _ _ c.all_into.ensures.line c.all_into.ensures.size (λ i. omega (arith, c.type_inv.bytes i)) d fits spelled)

pub returns-clause-cut : goal.returns-clause-cut
returns-clause-cut c d more fits some spelled =
    left_fault _ _ _ _ c.all_into.ensures.exact (datagram_cut _ _ c.all_into.ensures.line c.all_into.ensures.size (λ i. omega (arith, c.type_inv.bytes i)) d more fits some spelled)

pub returns-clause-longer : goal.returns-clause-longer
returns-clause-longer c d more fits some spelled =
    left_fault _ _ _ _ c.all_into.ensures.exact (datagram_longer _ _ c.all_into.ensures.line c.all_into.ensures.size (λ i. omega (arith, c.type_inv.bytes i)) d more fits some spelled)
