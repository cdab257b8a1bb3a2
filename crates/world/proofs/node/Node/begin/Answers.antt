use Rattle.std.proofs.Common.{refl, sym, ◌∙◌}
use Rattle.world.proofs.Starts.{started_kept, ready_kept, starts, ready_started, of_one_team}
use Rattle.world.proofs.node.Node.begin.Goals as goal

pub returns-in_default-clause-started : goal.returns-in_default-clause-started
returns-in_default-clause-started c = started_kept c.args.self.now.started c.args.step.now.act (sym c.mode.ensures ∙ c.in_default.is)

pub returns-in_default-clause-ready : goal.returns-in_default-clause-ready
returns-in_default-clause-ready c = λ before runs known may.
    ready_kept c.args.team.now c.args.step.now.who c.args.step.now.h c.args.step.now.act c.args.self.now.core before (sym c.mode.ensures ∙ c.in_default.is) runs known may

pub returns-in_default-clause-same_team : goal.returns-in_default-clause-same_team
returns-in_default-clause-same_team c = λ one. one

pub returns-in_default-clause-bounds : goal.returns-in_default-clause-bounds
returns-in_default-clause-bounds c = refl

pub started-requires-clause-sound : goal.started-requires-clause-sound
started-requires-clause-sound c = c.requires.sound

pub started-requires-clause-who : goal.started-requires-clause-who
started-requires-clause-who c = c.requires.who

pub started-requires-clause-reading : goal.started-requires-clause-reading
started-requires-clause-reading c = c.requires.h

pub returns-in_err-started-clause-same_team : goal.returns-in_err-started-clause-same_team
returns-in_err-started-clause-same_team c = λ one. one

pub returns-in_err-started-clause-bounds : goal.returns-in_err-started-clause-bounds
returns-in_err-started-clause-bounds c = refl

pub returns-clause-started : goal.returns-clause-started
returns-clause-started c = starts c.args.self.now.started c.args.step.now.act c.in-Some.mode (sym c.mode.ensures ∙ c.in-Some.is)

pub returns-clause-ready : goal.returns-clause-ready
returns-clause-ready c = λ before runs known may.
    ready_started c.args.team.now c.args.step.now.who c.args.step.now.h c.args.step.now.act c.in-Some.mode c.in_ok-started.field-0 before (sym c.mode.ensures ∙ c.in-Some.is)
    (c.in_ok-started.ensures.team, c.in_ok-started.ensures.stands)

pub returns-clause-same_team : goal.returns-clause-same_team
returns-clause-same_team c = λ one. of_one_team c.args.team.now c.in_ok-started.field-0 c.in_ok-started.ensures.team

pub returns-clause-bounds : goal.returns-clause-bounds
returns-clause-bounds c = refl
