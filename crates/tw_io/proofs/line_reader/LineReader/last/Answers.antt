use Rattle.std.proofs.Common.{arith}
use Rattle.tw_io.specs.LineReader.{held}
use Rattle.tw_io.proofs.Readers.{last_line, length_of_held}
use Rattle.tw_io.proofs.line_reader.LineReader.last.Goals as goal

pub returns-clause-next : goal.returns-clause-next
returns-clause-next c = last_line c.args.self.now.limit (held c.args.self.now) c.requires.one (omega (arith, length_of_held c.args.self.now, c.args.self.now.order, c.if-self.false))
