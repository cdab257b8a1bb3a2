use Rattle.std.proofs.Common.{◌≡◌, ◌<◌, ◌≤◌, ◌+◌, subst, true, length, Some, None}
use Rattle.std.specs.List.{AllByRecursion}
use Rattle.tw_num.specs.Clock.{moment_at, reading_at}
use Rattle.tw_types.specs.declared.message.Seat.{Seat}
use Rattle.tw_types.specs.Flag.{is_up}
use Rattle.tw_types.specs.Sends.{first_send_refusal, seq_to_send}
use Rattle.tw_machine.specs.Proposing.{own_seat, refusals}
use Rattle.node_core.specs.Outcomes.{send_answer, send_refusal}
use Rattle.node_core.specs.Sends.{IsSendable}
use Rattle.tw_num.specs.Clock.{IsNotBefore}
use Rattle.tw_types.specs.Process.{Process}
use Rattle.tw_machine.specs.Step.{step}
use Rattle.tw_machine.specs.Event.{Send}
use Rattle.node_core.specs.WithMachine.{WithMachine, StandsWith}
use Rattle.node_core.proofs.Machines.{machine_follows}
use Rattle.node_core.proofs.process.Core.propose.Goals as goal

pub returns-clause-stands : goal.returns-clause-stands
returns-clause-stands g c = subst (λ (w : WithMachine g.row.A.Denot). (p : Process) → StandsWith g.A.Machine.empty g.A.Machine.after w p → IsNotBefore c.args.h p.timing.clock
    → StandsWith g.A.Machine.empty g.A.Machine.after (record { state = c.propose-answer.new.self; machine = c.apply_passes.new.machine }) (step w.state.team c.args.h (Send c.args.order c.args.atom c.args.payload.now) p).process) c.self.view_is (λ p s known.
    machine_follows g.A.Machine.empty g.A.Machine.after (record { state = c.self.inside.state; machine = c.self.inside.machine }) c.self.inside.state.team c.args.h (Send c.args.order c.args.atom c.args.payload.now) p
    c.propose-answer.new.self c.apply_passes.new.machine c.propose-answer.new.out s c.length-length.ensures.passed (c.propose-answer.ensures.stands p s.state known) (c.propose-answer.ensures.out p s.state known) (rw (← c.as_slice.ensures.items) c.apply_passes.ensures))

pub returns-clause-answer : goal.returns-clause-answer
returns-clause-answer g c = subst (λ (w : WithMachine g.row.A.Denot). (p : Process) → StandsWith g.A.Machine.empty g.A.Machine.after w p → IsNotBefore c.args.h p.timing.clock
    → send_answer c.propose-answer.result ≡ (step w.state.team c.args.h (Send c.args.order c.args.atom c.args.payload.now) p).answer) c.self.view_is (λ p s known. c.propose-answer.ensures.answer p s.state known)

pub returns-clause-out : goal.returns-clause-out
returns-clause-out g c = subst (λ (w : WithMachine g.row.A.Denot). (p : Process) → StandsWith g.A.Machine.empty g.A.Machine.after w p → IsNotBefore c.args.h p.timing.clock
    → c.propose-answer.new.out ≡ (step w.state.team c.args.h (Send c.args.order c.args.atom c.args.payload.now) p).out) c.self.view_is (λ p s known. c.propose-answer.ensures.out p s.state known)

pub returns-clause-refused : goal.returns-clause-refused
returns-clause-refused g c = subst (λ (w : WithMachine g.row.A.Denot). (p : Process) → StandsWith g.A.Machine.empty g.A.Machine.after w p → IsNotBefore c.args.h p.timing.clock
    → send_refusal c.propose-answer.result ≡ first_send_refusal (refusals w.state.team (moment_at w.state.team.ppm w.state.team.eps c.args.h p.timing.clock) (length c.args.payload.now) p)) c.self.view_is (λ p s known. c.propose-answer.ensures.refused p s.state known)

pub returns-clause-complete : goal.returns-clause-complete
returns-clause-complete g c = subst (λ (w : WithMachine g.row.A.Denot). (p : Process) (seat : Seat) → StandsWith g.A.Machine.empty g.A.Machine.after w p → IsNotBefore c.args.h p.timing.clock
    → length c.args.payload.now ≤ 128 → is_up w.state.team p.vote p.belief (reading_at w.state.team.ppm w.state.team.eps c.args.h p.timing.clock) ≡ true → own_seat p ≡ Some seat
    → seq_to_send (Some seat) p.next_seq < seat.next + 8 → seq_to_send (Some seat) p.next_seq < 4294967295 → send_refusal c.propose-answer.result ≡ None) c.self.view_is (λ p seat s known. c.propose-answer.ensures.complete p seat s.state known)

pub returns-clause-fits : goal.returns-clause-fits
returns-clause-fits g c = subst (λ (w : WithMachine g.row.A.Denot). AllByRecursion (IsSendable w.state.team.n) c.propose-answer.new.out.sends) c.self.view_is c.propose-answer.ensures.gives

pub returns-clause-team : goal.returns-clause-team
returns-clause-team g c = subst (λ (w : WithMachine g.row.A.Denot). c.propose-answer.new.self.team ≡ w.state.team) c.self.view_is c.propose-answer.ensures.team
