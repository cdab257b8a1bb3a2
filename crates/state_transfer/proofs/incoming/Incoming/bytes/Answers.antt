use Rattle.std.proofs.Common.{◌≡◌, ℕ, true, false, take, Option, Some, sym, ap, ◌∙◌}
use Rattle.state_transfer.specs.declared.incoming.Of.{Of}
use Rattle.tw_types.specs.Collections.{is_whole, collected_bytes}
use Rattle.state_transfer.specs.Incoming.{collected, IsSized}
use Rattle.state_transfer.proofs.Collected.{collection_of, whole_is, bytes_of_whole, bytes_of_part}
use Rattle.state_transfer.proofs.incoming.Incoming.bytes.Goals as goal
use Rattle.state_transfer.proofs.incoming.Incoming.bytes.Goals.{in_default-via-in-Some+else-is_whole, in_default-via-in_default}

pub returns-in-Some : goal.returns-in-Some
returns-in-Some c =
    let o : Of = c.in-Some.of in
    let sized : IsSized (Some o) = rw c.in-Some.is at c.self.invariant.2 in
    let whole : is_whole (collection_of o c.self.inside.marks c.self.inside.room.items) ≡ true =
    whole_is o c.self.inside.marks c.self.inside.room.items sized.1 c.self.invariant.1 ∙ sym c.is_whole.ensures ∙ c.if-is_whole.true in
    let seen : c.args.self.now ≡ Some (collection_of o c.self.inside.marks c.self.inside.room.items) =
    sym c.self.view_is ∙ ap (λ (k : Option Of). collected k c.self.inside.marks c.self.inside.room.items) c.in-Some.is in
    ap (λ (n : ℕ). take n c.deref.result.now) c.from.ensures ∙ ap (take o.total) c.deref.ensures.value
    ∙ sym (bytes_of_whole o c.self.inside.marks c.self.inside.room.items whole) ∙ ap collected_bytes (sym seen)

pub returns-in_default : goal.returns-in_default
returns-in_default c = elim c.in_default.branch [
  | in_default-via-in-Some+else-is_whole w ↦
      (let o : Of = w.in-Some.of in
      let sized : IsSized (Some o) = rw w.in-Some.is at c.self.invariant.2 in
      let part : is_whole (collection_of o c.self.inside.marks c.self.inside.room.items) ≡ false =
      whole_is o c.self.inside.marks c.self.inside.room.items sized.1 c.self.invariant.1 ∙ sym w.is_whole.ensures ∙ w.if-is_whole.false in
      let seen : c.args.self.now ≡ Some (collection_of o c.self.inside.marks c.self.inside.room.items) =
      sym c.self.view_is ∙ ap (λ (k : Option Of). collected k c.self.inside.marks c.self.inside.room.items) w.in-Some.is in
      sym (bytes_of_part o c.self.inside.marks c.self.inside.room.items part) ∙ ap collected_bytes (sym seen))
  | in_default-via-in_default w ↦ sym (ap collected_bytes (sym c.self.view_is ∙ ap (λ (k : Option Of). collected k c.self.inside.marks c.self.inside.room.items) w.in_default.is))
]
