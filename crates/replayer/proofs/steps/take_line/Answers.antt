-- The line's step follows, or the world says why it doesn't.
use Rattle.std.proofs.Common.{refl, inl}
use Rattle.world.specs.Causes.{cause_told}
use Rattle.replayer.proofs.Replays.{refused}
use Rattle.replayer.proofs.steps.take_line.Goals as goal

pub returns-in_default-clause-refused : goal.returns-in_default-clause-refused
returns-in_default-clause-refused c = λ past stands. inl (refl, c.in_default.ensures.refused)

pub apply-requires-clause-who : goal.apply-requires-clause-who
apply-requires-clause-who c = rw c.requires.team c.in-Ok.ensures.read.who

pub apply-requires-clause-h : goal.apply-requires-clause-h
apply-requires-clause-h c = c.in-Ok.ensures.read.h

pub apply-requires-clause-act : goal.apply-requires-clause-act
apply-requires-clause-act c = c.in-Ok.ensures.read.act

pub apply-requires-clause-steps : goal.apply-requires-clause-steps
apply-requires-clause-steps c = c.requires.few

pub returns-in-Ok-apply-clause-taken : goal.returns-in-Ok-apply-clause-taken
returns-in-Ok-apply-clause-taken c = λ past stands.
    let taken = c.in-Ok-apply.ensures.taken c.args.team.now past stands in
    (c.in-Ok.step, c.in-Ok.ensures.read, taken.0, taken.1, taken.2)

pub returns-in-Err-clause-refused : goal.returns-in-Err-clause-refused
returns-in-Err-clause-refused c = λ past stands.
    rw c.refused_by.ensures (refused c.args.team.now past c.args.line.now c.in-Ok.step (cause_told c.in-Err.why) c.in-Ok.ensures.read (c.in-Err.ensures.refused c.args.team.now past stands))
