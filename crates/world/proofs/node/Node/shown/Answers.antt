use Rattle.std.proofs.Common.{sym, ◌∙◌}
use Rattle.world.proofs.Acts.{none_after_others, none_without_process, entries_after_a_look}
use Rattle.world.proofs.node.Node.shown.Goals as goal

pub returns-in_default-clause-entries : goal.returns-in_default-clause-entries
returns-in_default-clause-entries c = λ team q runs. sym (none_without_process team c.args.act.now q (rw c.in_default.is at runs))

pub returns-then-is_look-clause-entries : goal.returns-then-is_look-clause-entries
returns-then-is_look-clause-entries c = λ team q runs.
    entries_after_a_look team c.args.act.now c.in-Some.core q c.entries.result.now (sym c.is_look.ensures ∙ c.if-is_look.true) (rw c.in-Some.is at runs) c.entries.ensures.entries

pub returns-else-is_look-clause-entries : goal.returns-else-is_look-clause-entries
returns-else-is_look-clause-entries c = λ team q runs. sym (none_after_others c.args.act.now q (sym c.is_look.ensures ∙ c.if-is_look.false))
