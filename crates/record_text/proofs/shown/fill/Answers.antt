use Rattle.std.proofs.Common.{ap, ◌∙◌, ◌∷◌, [], ◌++◌, drop, List, ℕ, arith}
use Rattle.app_table.specs.Snapshots.{entries_in}
use Rattle.app_table.specs.TableLaws.{length_entries}
use Rattle.app_table.proofs.Snapshots.{taken_with, taken_all}
use Rattle.record_text.proofs.shown.fill.Goals as goal

pub loop-place-preserved : goal.loop-place-preserved
loop-place-preserved c = c.push.ensures.items ∙ ap (λ (xs : List (ℕ × ℕ)). xs ++ c.entry.result ∷ []) c.loop-place.invariant
    ∙ taken_with c.args.count c.loop-place.place c.args.bytes.now c.entry.result c.loop-place-test.true c.entry.ensures

pub returns : goal.returns
returns c = c.loop-place.invariant ∙ taken_all (entries_in c.args.count (drop 2 c.args.bytes.now)) c.loop-place.place (omega (arith, c.loop-place-test.false, length_entries c.args.count (drop 2 c.args.bytes.now)))
