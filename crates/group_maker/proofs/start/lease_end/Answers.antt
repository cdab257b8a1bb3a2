-- One report more.
use Rattle.std.proofs.Common.{arith}
use Rattle.std.proofs.lemmas.Grind.{common_steps}
use Rattle.std.proofs.lemmas.List.Elements.{filter_map-append}
use Rattle.group_maker.proofs.start.lease_end.Goals as goal

pub loop-report-preserved : goal.loop-report-preserved
loop-report-preserved c = grind (arith, common_steps, filter_map-append)
