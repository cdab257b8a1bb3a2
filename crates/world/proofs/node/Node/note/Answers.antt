use Rattle.world.proofs.Drift.{bounds_added}
use Rattle.world.proofs.node.Node.note.Goals as goal

pub returns-clause-bounds : goal.returns-clause-bounds
returns-clause-bounds c = λ readings below are. rw c.widened-bounds.ensures (bounds_added c.args.team.now.ppm c.args.self.now.bounds c.of.result (record { t = c.args.step.now.t; h = c.args.step.now.h }) readings
    c.of.ensures.last c.of.ensures.least c.of.ensures.greatest below are)
