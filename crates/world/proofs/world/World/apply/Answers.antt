use Rattle.std.proofs.Common.{sym, ap, ◌∙◌}
use Rattle.world.specs.Causes.{cause_if}
use Rattle.world.proofs.Worlds.{same_world, if_err}
use Rattle.world.proofs.world.World.apply.Goals as goal

pub returns-in_err-take-clause-stands : goal.returns-in_err-take-clause-stands
returns-in_err-take-clause-stands c = if_err c.from_residual.result (λ team past stands. same_world team past c.take.new.self c.args.self.now c.in_err-take.ensures.same stands)

pub returns-in-Some-clause-refused : goal.returns-in-Some-clause-refused
returns-in-Some-clause-refused c = λ team past stands. sym (c.refusal.ensures team past stands) ∙ ap cause_if c.in-Some.is

pub take-requires-clause-who : goal.take-requires-clause-who
take-requires-clause-who c = c.requires.who

pub take-requires-clause-h : goal.take-requires-clause-h
take-requires-clause-h c = c.requires.h

pub take-requires-clause-act : goal.take-requires-clause-act
take-requires-clause-act c = c.requires.act

pub take-requires-clause-steps : goal.take-requires-clause-steps
take-requires-clause-steps c = c.requires.steps
