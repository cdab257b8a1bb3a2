-- What is heard is what is given.
use Rattle.clock_sync.proofs.team_clock.TeamClock.hear.Goals as goal

pub returns-clause-refusal : goal.returns-clause-refusal
returns-clause-refusal c = c.give.ensures.refusal

pub returns-clause-given : goal.returns-clause-given
returns-clause-given c = c.give.ensures.given
