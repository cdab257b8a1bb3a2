use Rattle.std.proofs.Common.{◌≡◌, ◌++◌, take, map}
use Rattle.tw_types.specs.declared.message.Entry.{Entry}
use Rattle.tw_types.specs.Waiting.{payloads_for}
use Rattle.update_store.proofs.kept.collect.Given as goal

abbrev pub invariant-loop-entry : goal.invariant-loop-entry
invariant-loop-entry l = l.found ≡ payloads_for (map (λ (e : Entry). e.id) (take l.entry-index l.entries)) (l.pending ++ l.held)
