use Rattle.std.proofs.Common.{◌≡◌, ◌<◌, length, get_or, true, false, ap, ◌∙◌, arith}
use Rattle.std.proofs.Math.ListN.{set}
use Rattle.std.proofs.lemmas.Bool.Decides.{nat_tests}
use Rattle.tw_types.specs.declared.message.Kept.{Kept}
use Rattle.tw_types.specs.Updates.{is_named}
use Rattle.update_store.proofs.Order.{mark_here, mark_not_here}
use Rattle.update_store.proofs.pending.mark_early.Goals as goal
use Rattle.update_store.proofs.pending.mark_early.Goals.{then-eq, else-eq}

pub loop-place-preserved : goal.loop-place-preserved
loop-place-preserved c =
    let x : Kept = c.index-as_slice-place.result in
    let within : c.loop-place.place < length c.args.pending.now = rw c.as_slice-place-end.ensures.items at c.loop-place-test.true in
    let at : x ≡ get_or c.loop-place.pending c.loop-place.place x = rw c.as_slice.ensures.items at c.index-as_slice-place.is in
    elim c.if-eq.branch [
      | then-eq w ↦
          (let here : is_named c.args.id.now x ≡ true = grind (arith, nat_tests) in
          let marked = mark_here c.args.id.now c.args.pending.now c.loop-place.pending c.loop-place.place x within c.loop-place.invariant at here in
          w.pending-is ∙ w.set.ensures ∙ ap (λ (k : Kept). set c.loop-place.pending c.loop-place.place (record k { early = true })) w.copy.ensures ∙ marked)
      | else-eq w ↦
          (let elsewhere : is_named c.args.id.now x ≡ false = grind (arith, nat_tests) in
          w.pending-is ∙ mark_not_here c.args.id.now c.args.pending.now c.loop-place.pending c.loop-place.place x within c.loop-place.invariant at elsewhere)
    ]
