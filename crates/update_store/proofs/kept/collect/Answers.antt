use Rattle.std.proofs.Common.{◌≡◌, ◌<◌, ◌++◌, length, get_or, Some, None, ap, sym, ◌∙◌, false, arith}
use Rattle.std.specs.Option.{option_copied}
use Rattle.std.proofs.lemmas.List.{append-nil}
use Rattle.tw_types.specs.Updates.{find_update, has_update}
use Rattle.tw_types.specs.declared.message.Order.TheVariants.{Unordered}
use Rattle.tw_types.specs.declared.message.Atom.TheVariants.{Weak}
use Rattle.tw_types.specs.declared.message.Entry.{Entry}
use Rattle.update_store.proofs.Ids.{collect_step, length-collected}
use Rattle.update_store.proofs.kept.collect.Goals as goal
use Rattle.update_store.proofs.kept.collect.Goals.{then-not-has_update+in-Some, then-not-has_update+in_default, else-not-has_update}

abbrev no_entry : Entry
no_entry = record { id = record { who = 0; incarnation = 0; seq = 0 }; order = Unordered; atom = Weak; stamp = 0; late = false }

pub push-requires : goal.push-requires
push-requires c =
    let lt : length c.loop-entry.found < 32 = omega (arith, ap length c.loop-entry.invariant, length-collected c.args.entries.now (c.args.pending.now ++ c.args.held.now) c.loop-entry.entry-index c.loop-entry-test.true) in
    (omega arith, lt)

pub loop-entry-preserved : goal.loop-entry-preserved
loop-entry-preserved c =
    let id = (get_or c.args.entries.now c.loop-entry.entry-index no_entry).id in
    let payloads = c.args.pending.now ++ c.args.held.now in
    let step = collect_step c.args.entries.now payloads c.loop-entry.found c.if-not-has_update.found c.loop-entry.entry-index no_entry c.loop-entry-test.true c.loop-entry.invariant in
    let has : has_update id c.loop-entry.found ≡ c.has_update.result = rw c.as_slice.ensures.items at (sym c.has_update.ensures) in
    elim c.if-not-has_update.branch [
      | then-not-has_update+in-Some w ↦
          (let found : find_update id payloads ≡ Some w.copy.result = sym w.find_in_both.ensures ∙ ap option_copied w.in-Some.is ∙ ap Some (sym w.copy.ensures) in
          step (rw (has, w.if-not-has_update.true, found) (w.found-is ∙ w.push.ensures)))
      | then-not-has_update+in_default w ↦
          (let missed : find_update id payloads ≡ None = sym w.find_in_both.ensures ∙ ap option_copied w.in_default.is in
          step (rw (has, w.if-not-has_update.true, missed) (w.found-is ∙ sym (append-nil c.loop-entry.found))))
      | else-not-has_update w ↦ step (rw (has, w.if-not-has_update.false) (w.found-is ∙ sym (append-nil c.loop-entry.found)))
    ]
