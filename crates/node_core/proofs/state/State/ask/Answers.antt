use Rattle.node_core.proofs.state.State.ask.Goals as goal

pub returns-clause-gives : goal.returns-clause-gives
returns-clause-gives c = record { fits = λ all. c.send_to.ensures.fits (λ head from incarnation. c.requires.id) all; few = c.send_to.ensures.few; passes = c.send_to.ensures.passes; earlies = c.send_to.ensures.earlies }
