use Rattle.std.proofs.Common.{◌≡◌, ◌+◌, ◌++◌, ap, ◌∙◌, take, drop, length, arith}
use Rattle.tw_io.proofs.Outboxes.{still_within, one_more_sent}
use Rattle.tw_io.proofs.Readers.{all_written}
use Rattle.tw_io.proofs.outbox.Outbox.keep.Goals as goal

pub invariant_of-self-clause-each : goal.invariant_of-self-clause-each
invariant_of-self-clause-each c =
    let self = c.args.self.now in
    still_within self.places.items self.count self.used (length c.args.bytes.now) _ (omega (arith, self.counted, c.if-self-len.false, c.len.ensures)) self.each (omega arith)

pub returns-clause-kept : goal.returns-clause-kept
returns-clause-kept c = λ kept.
    let self = c.args.self.now in
    let same = ap length c.deref_mut.ensures.value in
    let whole : self.room.len ≡ length c.put.new.room = omega (arith, same, c.put.ensures.room, self.within) in
    let written = all_written self.room.items c.put.new.room self.room.len whole in
    let front = ap (λ z. take (self.used + length c.args.bytes.now) z) written ∙ c.put.ensures.front ∙ ap (λ z. take self.used z ++ c.args.bytes.now) c.deref_mut.ensures.value in
    one_more_sent self.places.items self.count self.used (length c.args.bytes.now) self.room.items (take self.room.len (c.put.new.room ++ drop (length c.put.new.room) self.room.items)) c.args.bytes.now c.args.number c.args.to
    (omega (arith, self.counted, c.if-self-len.false, c.len.ensures)) self.each (omega (arith, self.within)) front
