use Rattle.std.proofs.Common.{◌≡◌, ◌∙◌, sym, refl, ap, subst, true}
use Rattle.tw_num.specs.declared.moment.Moment.{Moment}
use Rattle.tw_num.specs.Clock.{IsNotBefore}
use Rattle.tw_types.specs.Process.{Process}
use Rattle.tw_machine.specs.Event.{Event}
use Rattle.tw_machine.specs.Run.{Run}
use Rattle.tw_machine.specs.Proposing.{propose}
use Rattle.tw_machine.specs.Duties.{duties}
use Rattle.tw_machine.specs.Step.{moment_of, read_by, ruled_by, step}
use Rattle.tw_machine.proofs.Steps.{step_answer}
use Rattle.node_core.specs.Outcomes.{send_answer}
use Rattle.node_core.specs.StandsFor.{StandsFor, TimingStandsFor, RunStandsFor}
use Rattle.node_core.proofs.Steps.{read_stands, step_stands}
use Rattle.node_core.proofs.Uses.{refusal_told, nothing_refuses}
use Rattle.node_core.proofs.state.State.propose.Goals as goal

abbrev event : goal.After-duties → Event
event c = Event.Send c.args.order c.args.atom c.args.payload.now

-- the send
record IsSent (c : goal.After-duties) (p : Process) : Type 0 where
  moment : c.moment-now.result ≡ moment_of c.args.self.now.team c.args.h (event c) p
  stands : RunStandsFor c.args.self.now.team c.send_update-answer.new.self c.send_update-answer.new.out (ruled_by c.args.self.now.team c.args.h (event c) p).run
  answer : send_answer c.send_update-answer.result ≡ (ruled_by c.args.self.now.team c.args.h (event c) p).answer

is_sent : (c : goal.After-duties) (p : Process) → StandsFor c.args.self.now p → IsNotBefore c.args.h p.timing.clock → IsSent c p
is_sent c p s known =
    let team = c.args.self.now.team in
    let read : Run = read_by team c.args.h (event c) p in
    let moment : c.moment-now.result ≡ moment_of team c.args.h (event c) p = c.moment-now.ensures.exact team p.timing s.timing known in
    let timing : TimingStandsFor team c.moment-now.new.self read.process.timing = c.moment-now.ensures.stands team p.timing s.timing known in
    let begun = read_stands team c.args.self.now _ c.args.h (event c) p _ s refl refl refl refl refl refl refl refl refl refl timing c.requires.empty in
    record {
      moment = moment;
      stands = subst (λ (m : Moment). RunStandsFor team c.send_update-answer.new.self c.send_update-answer.new.out (propose team m c.args.order c.args.atom c.args.payload.now read).run) moment (c.send_update-answer.ensures.stands team read begun);
      answer = c.send_update-answer.ensures.answer team read begun ∙ ap (λ (m : Moment). (propose team m c.args.order c.args.atom c.args.payload.now read).answer) moment;
    }

-- the duties, and the whole
stepped : (c : goal.After-duties) (p : Process) → StandsFor c.args.self.now p → IsNotBefore c.args.h p.timing.clock
    → StandsFor c.duties.new.self (step c.args.self.now.team c.args.h (event c) p).process × (c.duties.new.out ≡ (step c.args.self.now.team c.args.h (event c) p).out)
stepped c p s known =
    let team = c.args.self.now.team in
    let sent = is_sent c p s known in
    step_stands team c.duties.new.self c.args.h (event c) p c.duties.new.out true refl
    (subst (λ (m : Moment). RunStandsFor team c.duties.new.self c.duties.new.out (duties team m (ruled_by team c.args.h (event c) p).run)) sent.moment (c.duties.ensures.stands team _ sent.stands))

pub returns-clause-stands : goal.returns-clause-stands
returns-clause-stands c = λ p s known. (stepped c p s known).0

pub returns-clause-answer : goal.returns-clause-answer
returns-clause-answer c = λ p s known. (is_sent c p s known).answer ∙ sym (step_answer c.args.self.now.team c.args.h (event c) p)

pub returns-clause-out : goal.returns-clause-out
returns-clause-out c = λ p s known. (stepped c p s known).1

pub returns-clause-refused : goal.returns-clause-refused
returns-clause-refused c = λ p s known. refusal_told c.args.self.now.team (moment_of c.args.self.now.team c.args.h (event c) p) c.args.order c.args.atom c.args.payload.now (read_by c.args.self.now.team c.args.h (event c) p) c.send_update-answer.result (is_sent c p s known).answer

pub returns-clause-complete : goal.returns-clause-complete
returns-clause-complete c = λ p seat s known small up seated near left.
    refusal_told c.args.self.now.team (moment_of c.args.self.now.team c.args.h (event c) p) c.args.order c.args.atom c.args.payload.now (read_by c.args.self.now.team c.args.h (event c) p) c.send_update-answer.result (is_sent c p s known).answer
    ∙ nothing_refuses _ _ seat _ p.next_seq small up seated near left
