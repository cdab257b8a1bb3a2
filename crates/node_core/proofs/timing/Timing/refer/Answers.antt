use Rattle.std.proofs.Common.{◌∙◌}
use Rattle.node_core.proofs.Refusals.{reason_by}
use Rattle.node_core.proofs.timing.Timing.refer.Goals as goal

pub returns-clause-stands : goal.returns-clause-stands
returns-clause-stands c = λ team t s known. record { clock = c.reference.ensures.given team.ppm team.eps t.clock s.clock known; heard = s.heard }

pub returns-clause-refused : goal.returns-clause-refused
returns-clause-refused c = λ team t s known. c.reason.ensures ∙ reason_by c.reference.result _ (c.reference.ensures.refusal team.ppm team.eps t.clock s.clock known)
