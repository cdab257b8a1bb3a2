use Rattle.std.proofs.Common.{◌≡◌, Bool, false, cond, Option, Some, sym, ap, ◌∙◌, refl}
use Rattle.state_transfer.specs.declared.incoming.Of.{Of}
use Rattle.tw_types.specs.Ranges.{StateFits}
use Rattle.tw_types.specs.Collections.{Collection, Piece, is_foreign, after_piece, piece_answer, joined, joined_answer, with_piece, Foreign, Part, Whole}
use Rattle.state_transfer.specs.Pieces.{piece_of}
use Rattle.state_transfer.specs.Answers.{taken_as}
use Rattle.state_transfer.specs.Incoming.{collected}
use Rattle.state_transfer.proofs.Collected.{IsTaken, collected_then, answered}
use Rattle.state_transfer.proofs.incoming.Incoming.take.Goals as goal
use Rattle.state_transfer.proofs.incoming.Incoming.take.Goals.{then-is_whole, else-is_whole}

module _ (c : goal.Joined-is_whole) where
  abbrev of : Of
  of = record { from = c.args.from; position = c.in-State.position; total = c.in-State.total }

  abbrev piece : Piece
  piece = record { from = c.args.from; group = c.in-State.group; position = c.in-State.position; total = c.in-State.total; offset = c.in-State.offset; bytes = c.in-State.bytes.items }

  is_piece : piece_of c.args.from c.args.state.now ≡ piece
  is_piece = ap (piece_of c.args.from) c.in-State.is

  fits : StateFits c.in-State.group c.in-State.position c.in-State.total c.in-State.offset c.in-State.bytes.items
  fits = rw c.in-State.is at c.requires.piece

  near : is_foreign c.args.followed.now piece ≡ false
  near = sym (c.is_foreign.ensures piece refl refl) ∙ c.if-is_foreign.false

  taken : IsTaken of piece c.self.inside.of c.join.new.kept c.self.inside.marks c.join.new.marks c.self.inside.room.items c.put.new.room.items c.from-offset.result
  taken = record {
    of = record { from = refl; position = refl; total = refl };
    is = c.join.ensures.of;
    joins = c.join.ensures.joined piece c.self.inside.room.items (record { from = refl; position = refl; total = refl });
    starts = c.from-offset.ensures;
    aligned = fits.aligned;
    within = fits.offset_fits;
    most = fits.total_fits;
    long = fits.piece;
    space = c.self.invariant.0;
    four = c.join.ensures.marks;
    is_put = rw c.as_slice.ensures.value at c.put.ensures;
  }

  after_is : after_piece c.args.followed.now (piece_of c.args.from c.args.state.now) c.args.self.now ≡ Some (with_piece piece (joined piece c.args.self.now))
  after_is = ap (λ (p : Piece). after_piece c.args.followed.now p c.args.self.now) is_piece ∙ ap (λ (b : Bool). cond b c.args.self.now (Some (with_piece piece (joined piece c.args.self.now)))) near

  answer_is : piece_answer c.args.followed.now (piece_of c.args.from c.args.state.now) c.args.self.now ≡ joined_answer (with_piece piece (joined piece c.args.self.now))
  answer_is = ap (λ (p : Piece). piece_answer c.args.followed.now p c.args.self.now) is_piece ∙ ap (λ (b : Bool). cond b Foreign (joined_answer (with_piece piece (joined piece c.args.self.now)))) near

  seen : collected c.self.inside.of c.self.inside.marks c.self.inside.room.items ≡ c.args.self.now
  seen = c.self.view_is

  tells : piece_answer c.args.followed.now (piece_of c.args.from c.args.state.now) c.args.self.now ≡ cond c.is_whole.result (Whole c.in-State.position) Part
  tells = answer_is ∙ ap (λ (old : Option Collection). joined_answer (with_piece piece (joined piece old))) (sym seen)
      ∙ answered of piece c.self.inside.of c.join.new.kept c.self.inside.marks c.join.new.marks c.self.inside.room.items c.put.new.room.items c.from-offset.result taken c.is_whole.result c.is_whole.ensures

pub returns-clause-answer : goal.returns-clause-answer
returns-clause-answer c = elim c.if-is_whole.branch [
  | then-is_whole w ↦ ap taken_as w.result-is ∙ sym (tells c ∙ ap (λ (b : Bool). cond b (Whole c.in-State.position) Part) w.if-is_whole.true)
  | else-is_whole w ↦ ap taken_as w.result-is ∙ sym (tells c ∙ ap (λ (b : Bool). cond b (Whole c.in-State.position) Part) w.if-is_whole.false)
]

pub returns-clause-collection : goal.returns-clause-collection
returns-clause-collection c =
    collected_then (of c) (piece c) c.self.inside.of c.join.new.kept c.self.inside.marks c.join.new.marks c.self.inside.room.items c.put.new.room.items c.from-offset.result (taken c)
    ∙ ap (λ (old : Option Collection). Some (with_piece (piece c) (joined (piece c) old))) (seen c) ∙ sym (after_is c)
