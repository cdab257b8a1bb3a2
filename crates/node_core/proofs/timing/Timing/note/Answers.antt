use Rattle.std.proofs.Common.{arith}
use Rattle.std.proofs.lemmas.Bool.Decides.{nat_tests}
use Rattle.node_core.proofs.Echoes.{range_set}
use Rattle.node_core.proofs.timing.Timing.note.Goals as goal

pub invariant_of-self : goal.invariant_of-self
invariant_of-self c = record { range = range_set c.args.self.now.heard _ _ c.args.self.now.range (let a = c.requires.stamp.a in let b = c.requires.stamp.b in grind (arith, nat_tests)) }
