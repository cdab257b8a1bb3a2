use Rattle.std.proofs.Common.{arith, ◌+◌}
use Rattle.tw_io.specs.LineReader.{held, line_given}
use Rattle.tw_io.proofs.Readers.{ended_line, ended_late, front_of_part, rest_of_part, length_of_held}
use Rattle.tw_io.proofs.line_reader.LineReader.up_to.Goals as goal

pub returns-then-end-self-clause-next : goal.returns-then-end-self-clause-next
returns-then-end-self-clause-next c = ended_late c.args.self.now.limit (held c.args.self.now) (line_given c.args.self.now) c.args.end c.requires.first c.requires.bound c.if-end-self.true

pub returns-clause-next : goal.returns-clause-next
returns-clause-next c = λ rest.
    let self = c.args.self.now in
    let bound = length_of_held self in
    rw (front_of_part self.room.items self.start self.end c.args.end (omega (arith, bound, c.requires.bound)), rest_of_part self.room.items self.start self.end (c.args.end + 1) (omega (arith, bound, c.requires.bound)))
    (ended_line self.limit (held self) c.args.end c.requires.first rest)
