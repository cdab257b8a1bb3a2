use Rattle.std.proofs.Common.{◌≡◌, subst}
use Rattle.std.specs.List.{AllByRecursion}
use Rattle.tw_num.specs.Clock.{IsNotBefore}
use Rattle.tw_types.specs.Process.{Process}
use Rattle.tw_machine.specs.Step.{row_answer, step}
use Rattle.node_core.specs.Events.{event_seen}
use Rattle.node_core.specs.Sends.{IsSendable}
use Rattle.node_core.specs.WithMachine.{WithMachine, StandsWith}
use Rattle.node_core.proofs.Machines.{machine_follows}
use Rattle.node_core.proofs.process.Core.step.Goals as goal

pub returns-clause-stands : goal.returns-clause-stands
returns-clause-stands g c = subst (λ (w : WithMachine g.row.A.Denot). (p : Process) → StandsWith g.A.Machine.empty g.A.Machine.after w p → IsNotBefore c.args.h p.timing.clock
    → StandsWith g.A.Machine.empty g.A.Machine.after (record { state = c.step-answer.new.self; machine = c.apply_passes.new.machine }) (step w.state.team c.args.h (event_seen w.state.team c.args.event) p).process) c.self.view_is (λ p s known.
    machine_follows g.A.Machine.empty g.A.Machine.after (record { state = c.self.inside.state; machine = c.self.inside.machine }) c.self.inside.state.team c.args.h (event_seen c.self.inside.state.team c.args.event) p
    c.step-answer.new.self c.apply_passes.new.machine c.step-answer.new.out s c.length-length.ensures.passed (c.step-answer.ensures.stands p s.state known) (c.step-answer.ensures.out p s.state known) (rw (← c.as_slice.ensures.items) c.apply_passes.ensures))

pub returns-clause-answer : goal.returns-clause-answer
returns-clause-answer g c = subst (λ (w : WithMachine g.row.A.Denot). (p : Process) → StandsWith g.A.Machine.empty g.A.Machine.after w p → IsNotBefore c.args.h p.timing.clock
    → row_answer c.step-answer.result ≡ (step w.state.team c.args.h (event_seen w.state.team c.args.event) p).answer) c.self.view_is (λ p s known. c.step-answer.ensures.answer p s.state known)

pub returns-clause-out : goal.returns-clause-out
returns-clause-out g c = subst (λ (w : WithMachine g.row.A.Denot). (p : Process) → StandsWith g.A.Machine.empty g.A.Machine.after w p → IsNotBefore c.args.h p.timing.clock
    → c.step-answer.new.out ≡ (step w.state.team c.args.h (event_seen w.state.team c.args.event) p).out) c.self.view_is (λ p s known. c.step-answer.ensures.out p s.state known)

pub returns-clause-fits : goal.returns-clause-fits
returns-clause-fits g c = subst (λ (w : WithMachine g.row.A.Denot). AllByRecursion (IsSendable w.state.team.n) c.step-answer.new.out.sends) c.self.view_is c.step-answer.ensures.gives

pub returns-clause-team : goal.returns-clause-team
returns-clause-team g c = subst (λ (w : WithMachine g.row.A.Denot). c.step-answer.new.self.team ≡ w.state.team) c.self.view_is c.step-answer.ensures.team
