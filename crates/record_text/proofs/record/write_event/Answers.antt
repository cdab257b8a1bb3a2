use Rattle.std.proofs.Common.{map}
use Rattle.record_text.specs.Inputs.{input_seen}
use Rattle.record_text.specs.Packets.{packet_seen}
use Rattle.record_text.proofs.Written.{told_is}
use Rattle.record_text.proofs.record.write_event.Goals as goal

pub returns-clause-told : goal.returns-clause-told
returns-clause-told g c = told_is c.args.h (input_seen c.args.input.now) c.args.row.now (map packet_seen c.args.packets.now)
