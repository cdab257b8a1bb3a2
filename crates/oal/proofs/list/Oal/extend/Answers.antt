-- There is room for each entry that joins, and at the end all have joined.
use Rattle.std.proofs.Common.{◌≡◌, ◌<◌, sym, subst, ◌∙◌, ap, List, length, take, filter_map, arith}
use Rattle.std.proofs.lemmas.Grind.{common_steps}
use Rattle.tw_types.specs.declared.message.Entry.{Entry}
use Rattle.tw_types.specs.declared.message.Kept.{Kept}
use Rattle.tw_types.specs.Waiting.{entries_from}
use Rattle.tw_types.specs.Logs.{entry_joined, log_after}
use Rattle.oal.specs.Recent.{Recent, grown, recent_after}
use Rattle.oal.specs.StandsFor.{StandsFor}
use Rattle.oal.proofs.Growing.{room, none_more, one_more, whole_length, stands_after}
use Rattle.oal.proofs.list.Oal.extend.Goals as goal
use Rattle.oal.proofs.list.Oal.extend.Goals.{in-Some, in_default}

pub push-requires : goal.push-requires
push-requires g c =
    let payloads : List Kept = g.P.Payloads.payloads c.args.p.now in
    let o : Recent = c.args.self.now in
    let items : c.entries_from-entry-items.result.now ≡ entries_from o.length c.args.d.now = c.entries_from-entry-items.ensures.entries ∙ ap (λ (o : Recent). entries_from o.length c.args.d.now) c.self.view_is in
    let within : c.loop-entry.entry-index < length (entries_from o.length c.args.d.now) = subst (λ (es : List Entry). c.loop-entry.entry-index < length es) items c.loop-entry-test.true in
    let so_far : c.loop-entry.self ≡ grown (filter_map (entry_joined payloads) (take c.loop-entry.entry-index (entries_from o.length c.args.d.now))) o =
    c.loop-entry.invariant ∙ ap (λ (es : List Entry). grown (filter_map (entry_joined payloads) (take c.loop-entry.entry-index es)) o) items in
    let r = room payloads c.args.d.now c.loop-entry.entry-index o c.loop-entry.self c.requires.low c.entries_from-entry-items.ensures.few c.requires.fits within so_far in
    record { near = r.0; bounded = r.1 }

pub loop-entry-preserved : goal.loop-entry-preserved
loop-entry-preserved g c =
    let payloads : List Kept = g.P.Payloads.payloads c.args.p.now in
    let items : List Entry = c.entries_from-entry-items.result.now in
    elim c.match-find.branch [
      | in-Some w ↦ w.self-is ∙ w.push.ensures ∙ one_more payloads items c.loop-entry.entry-index _ c.args.self.now c.loop-entry.self w.copy-kept.result w.in-Some.found.now w.copy-kept.ensures w.in-Some.ensures c.loop-entry-test.true c.loop-entry.invariant
      | in_default w ↦ w.self-is ∙ none_more payloads items c.loop-entry.entry-index _ c.args.self.now c.loop-entry.self w.in_default.ensures c.loop-entry-test.true c.loop-entry.invariant
    ]

pub returns-clause-log : goal.returns-clause-log
returns-clause-log g c =
    let payloads : List Kept = g.P.Payloads.payloads c.args.p.now in
    let whole : c.loop-entry.self ≡ recent_after payloads c.args.d.now c.args.self.now = grind (arith, common_steps) in
    λ log s. subst (λ (o : Recent). StandsFor o (log_after payloads c.args.d.now log)) (sym whole) (stands_after payloads c.args.d.now c.args.self.now log s)

pub returns-clause-length : goal.returns-clause-length
returns-clause-length g c =
    let payloads : List Kept = g.P.Payloads.payloads c.args.p.now in
    let whole : c.loop-entry.self ≡ recent_after payloads c.args.d.now c.args.self.now = grind (arith, common_steps) in
    ap (λ (o : Recent). o.length) whole ∙ whole_length payloads c.args.d.now c.args.self.now c.requires.fits
