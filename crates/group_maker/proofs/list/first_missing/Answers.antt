-- The entry that the loop has come to is the first one whose payload isn't known to be there.
use Rattle.std.proofs.Common.{ap, sym, rules}
use Rattle.std.specs.Option.{option_map}
use Rattle.tw_types.specs.declared.message.Entry.{Entry}
use Rattle.group_maker.proofs.Missing.{told_at, not_told_at}
use Rattle.group_maker.proofs.list.first_missing.Goals as goal

pub returns-then-is_none : goal.returns-then-is_none
returns-then-is_none g c = sym (ap (option_map (λ (e : Entry). e.id)) (told_at (g.P.Payloads.payloads c.args.p.now) c.args.entries.now c.loop-entry.entry-index _ c.find.result c.find.ensures (search rules) c.loop-entry-test.true c.loop-entry.invariant))

pub loop-entry-preserved : goal.loop-entry-preserved
loop-entry-preserved g c = not_told_at (g.P.Payloads.payloads c.args.p.now) c.args.entries.now c.loop-entry.entry-index _ c.find.result c.find.ensures (search rules) c.loop-entry-test.true c.loop-entry.invariant
