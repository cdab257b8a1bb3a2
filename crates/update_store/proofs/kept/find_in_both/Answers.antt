use Rattle.std.proofs.Common.{arith}
use Rattle.std.proofs.lemmas.Grind.{common_steps}
use Rattle.std.proofs.lemmas.List.Folds.{find-append}
use Rattle.tw_types.specs.Updates.{is_named}
use Rattle.update_store.proofs.kept.find_in_both.Goals as goal

pub returns : goal.returns
returns c = grind (arith, common_steps, find-append (is_named c.args.id.now) c.args.pending.now c.args.held.now)
