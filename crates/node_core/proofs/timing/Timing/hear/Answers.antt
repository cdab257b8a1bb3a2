use Rattle.std.proofs.Common.{◌∙◌}
use Rattle.node_core.proofs.Refusals.{reason_by}
use Rattle.node_core.proofs.timing.Timing.hear.Goals as goal

pub returns-clause-stands : goal.returns-clause-stands
returns-clause-stands c = λ t s known. rw (c.told.ensures.told, c.in_ok-interval.was) (record { clock = c.hear.ensures.given c.args.team.now.ppm c.args.team.now.eps t.clock s.clock known; heard = s.heard })

pub returns-clause-refused : goal.returns-clause-refused
returns-clause-refused c = λ t s known. rw (c.told.ensures.told, c.in_ok-interval.was)
    (c.reason.ensures ∙ reason_by c.hear.result _ (c.hear.ensures.refusal c.args.team.now.ppm c.args.team.now.eps t.clock s.clock known))
