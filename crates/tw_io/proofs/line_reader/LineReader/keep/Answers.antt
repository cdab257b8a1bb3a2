use Rattle.std.proofs.Common.{◌≡◌, ◌++◌, ap, ◌∙◌, take, length, arith}
use Rattle.tw_io.proofs.Readers.{held_behind}
use Rattle.tw_io.proofs.line_reader.LineReader.keep.Goals as goal

pub returns-clause-held : goal.returns-clause-held
returns-clause-held c =
    let self = c.move_to_front.new.self in
    let same = ap length c.deref_mut.ensures.value in
    let whole : self.room.len ≡ length c.put.new.room = omega (arith, same, c.put.ensures.room, self.within) in
    let front = c.put.ensures.front ∙ ap (λ z. take self.end z ++ c.args.piece.now) c.deref_mut.ensures.value in
    held_behind self.room.items c.put.new.room c.args.piece.now self.room.len self.start self.end whole c.move_to_front.ensures.start front ∙ ap (λ z. z ++ c.args.piece.now) c.move_to_front.ensures.held
