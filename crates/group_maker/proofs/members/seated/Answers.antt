-- One process more.
use Rattle.std.proofs.Common.{arith}
use Rattle.std.proofs.lemmas.Grind.{common_steps}
use Rattle.group_maker.proofs.Ascending.{ascending-more}
use Rattle.group_maker.proofs.members.seated.Goals as goal

pub loop-who-preserved : goal.loop-who-preserved
loop-who-preserved c = let more = ascending-more c.loop-who.who c.args.reports.now in grind (arith, common_steps, more)
