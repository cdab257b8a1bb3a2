use Rattle.std.proofs.Common.{arith}
use Rattle.wire_body.proofs.Datagrams.{datagram_again}
use Rattle.record_text.proofs.packet.spelled_datagrams_are_read.Goals as goal

pub returns : goal.returns
returns c = λ team d bytes sound line fits each spelled. datagram_again team bytes line (omega (arith, sound.at_most_fifteen)) each d fits spelled
