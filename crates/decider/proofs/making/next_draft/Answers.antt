-- The draft of a decision that is due is in the ranges.
use Rattle.decider.proofs.Fits.{draft_fits}
use Rattle.decider.proofs.making.next_draft.Goals as goal

pub returns-clause-fits : goal.returns-clause-fits
returns-clause-fits c = λ n promised team member fits same turn time. rw c.copy-draft.ensures (draft_fits n promised c.args.t c.args.me team member c.args.d.now fits same turn time)
