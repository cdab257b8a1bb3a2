use Rattle.std.proofs.Common.{subst, ap, ◌∙◌, ◌≡◌, ◌++◌, ℕ, List, [], Some, take}
use Rattle.std.specs.Prelude.{OnOk, OnErr}
use Rattle.std.proofs.lemmas.Option.{same_Some}
use Rattle.tw_machine.specs.RowText.{row_text}
use Rattle.replayer.proofs.row_room.put_row.Goals as goal

pub returns-in-Ok-clause-written : goal.returns-in-Ok-clause-written
returns-in-Ok-clause-written g c =
    let text = c.bytes.ensures ∙ same_Some _ _ (c.in-Ok.ensures.written [] (ap Some c.clear.ensures)) in
    subst (λ (t : List ℕ). OnOk c.write_all.result ((before : List ℕ) → g.K.Sink.taken c.args.sink.now ≡ Some before → g.K.Sink.taken c.write_all.new.sink ≡ Some (before ++ t))) text c.write_all.ensures.written

pub returns-in-Ok-clause-cut : goal.returns-in-Ok-clause-cut
returns-in-Ok-clause-cut g c =
    let text = c.bytes.ensures ∙ same_Some _ _ (c.in-Ok.ensures.written [] (ap Some c.clear.ensures)) in
    subst (λ (t : List ℕ). OnErr c.write_all.result ((before : List ℕ) → g.K.Sink.taken c.args.sink.now ≡ Some before → (n : ℕ) × (g.K.Sink.taken c.write_all.new.sink ≡ Some (before ++ take n t)))) text c.write_all.ensures.cut
