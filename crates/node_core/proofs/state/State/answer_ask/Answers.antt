use Rattle.node_core.proofs.state.State.answer_ask.Goals as goal

pub returns-in-Update-clause-stands : goal.returns-in-Update-clause-stands
returns-in-Update-clause-stands c = λ team r s. rw c.in-Update.is (c.answer_update.ensures.stands team r s)

pub returns-in-Update-clause-dropped : goal.returns-in-Update-clause-dropped
returns-in-Update-clause-dropped c = λ team r s. rw c.in-Update.is (c.answer_update.ensures.dropped team r s)
