use Rattle.std.proofs.Common.{◌≡◌, ◌∙◌, sym, refl, ap, subst, true, false, Option, Result}
use Rattle.tw_num.specs.declared.moment.Moment.{Moment}
use Rattle.tw_num.specs.Clock.{IsNotBefore}
use Rattle.tw_machine.specs.Types.{Datagram, Reason}
use Rattle.tw_types.specs.Process.{Process}
use Rattle.tw_machine.specs.Event.{Event}
use Rattle.tw_machine.specs.Rules.{rule}
use Rattle.tw_machine.specs.Duties.{duties}
use Rattle.tw_machine.specs.Run.{Ruled, Ended}
use Rattle.tw_machine.specs.Step.{learnt_by, moment_of, read_by, ruled_by, answer_by, row_answer, ended, step}
use Rattle.tw_machine.proofs.Steps.{learnt_not_before, step_answer}
use Rattle.node_core.specs.Events.{event_seen}
use Rattle.node_core.specs.Inbox.{packet_in}
use Rattle.node_core.specs.StandsFor.{StandsFor, TimingStandsFor, RunStandsFor}
use Rattle.node_core.proofs.Steps.{packet_rule, read_stands, step_stands}
use Rattle.node_core.proofs.state.State.step.Goals as goal
use Rattle.node_core.proofs.state.State.step.Goals.{then-has_duties, else-has_duties}

abbrev event : goal.After-answer → Event
event c = event_seen c.args.self.now.team c.args.event

-- what is left of the event, with the packet in the inbox
abbrev packet : goal.After-answer → Result (Option Datagram) Reason
packet c = packet_in c.learn-packet.result c.learn-packet.new.inbox

-- what the points before the rule come to, for a process that the core stands for
record Begins (c : goal.After-answer) (p : Process) : Type 0 where
  packet : packet c ≡ (learnt_by c.args.self.now.team c.args.h (event c) p).packet
  moment : c.moment-now.result ≡ moment_of c.args.self.now.team c.args.h (event c) p
  timing : TimingStandsFor c.args.self.now.team c.moment-now.new.self (read_by c.args.self.now.team c.args.h (event c) p).process.timing

begins : (c : goal.After-answer) (p : Process) → StandsFor c.args.self.now p → IsNotBefore c.args.h p.timing.clock → Begins c p
begins c p s known =
    let team = c.args.self.now.team in
    let who : p.identity.who ≡ c.args.self.now.identity.who = ap (λ i. i.who) s.identity in
    let learnt : TimingStandsFor team c.learn-packet.new.timing (learnt_by team c.args.h (event c) p).timing = rw who (c.learn-packet.ensures.stands p.timing s.timing known) in
    let later = learnt_not_before team p.identity.who c.args.h (event c) p.timing known in
    record {
      packet = rw who (c.learn-packet.ensures.packet p.timing s.timing known);
      moment = c.moment-now.ensures.exact team _ learnt later;
      timing = c.moment-now.ensures.stands team _ learnt later;
    }

-- the rule
record IsRuled (c : goal.After-answer) (p : Process) : Type 0 where
  stands : RunStandsFor c.args.self.now.team c.rule-dropped.new.self c.rule-dropped.new.out (ruled_by c.args.self.now.team c.args.h (event c) p).run
  answer : row_answer (answer_by c.rule-dropped.result) ≡ (ruled_by c.args.self.now.team c.args.h (event c) p).answer

ruled : (c : goal.After-answer) (p : Process) → StandsFor c.args.self.now p → IsNotBefore c.args.h p.timing.clock → IsRuled c p
ruled c p s known =
    let team = c.args.self.now.team in
    let before = begins c p s known in
    let read = read_by team c.args.h (event c) p in
    let begun = read_stands team c.args.self.now _ c.args.h (event c) p _ s refl refl refl refl refl refl refl refl refl refl before.timing c.requires.empty in
    let by_packet : Ruled = rule team (moment_of team c.args.h (event c) p) (learnt_by team c.args.h (event c) p).packet read in
    let is : ruled_by team c.args.h (event c) p ≡ ended by_packet = packet_rule team c.args.event (moment_of team c.args.h (event c) p) (learnt_by team c.args.h (event c) p).packet read in
    record {
      stands = rw is (subst (λ (k : Result (Option Datagram) Reason). RunStandsFor team c.rule-dropped.new.self c.rule-dropped.new.out (rule team (moment_of team c.args.h (event c) p) k read).run) before.packet
          (subst (λ (m : Moment). RunStandsFor team c.rule-dropped.new.self c.rule-dropped.new.out (rule team m (packet c) read).run) before.moment (c.rule-dropped.ensures.stands team read begun)));
      answer = ap (λ (o : Option Reason). row_answer (answer_by o)) (c.rule-dropped.ensures.dropped team read begun ∙ ap (λ (m : Moment). (rule team m (packet c) read).dropped) before.moment
          ∙ ap (λ (k : Result (Option Datagram) Reason). (rule team (moment_of team c.args.h (event c) p) k read).dropped) before.packet) ∙ sym (ap (λ (k : Ended). k.answer) is);
    }

-- the duties, and the whole
stepped : (c : goal.After-answer) (p : Process) → StandsFor c.args.self.now p → IsNotBefore c.args.h p.timing.clock
    → StandsFor c.if-has_duties.self (step c.args.self.now.team c.args.h (event c) p).process × (c.if-has_duties.out ≡ (step c.args.self.now.team c.args.h (event c) p).out)
stepped c p s known =
    let team = c.args.self.now.team in
    let before = begins c p s known in
    let rule = ruled c p s known in
    elim c.if-has_duties.branch [
      | then-has_duties w ↦ rw (w.self-is, w.out-is) (step_stands team w.duties.new.self c.args.h (event c) p w.duties.new.out true (sym (c.has_duties.ensures team) ∙ w.if-has_duties.true)
          (subst (λ (m : Moment). RunStandsFor team w.duties.new.self w.duties.new.out (duties team m (ruled_by team c.args.h (event c) p).run)) before.moment (w.duties.ensures.stands team _ rule.stands)))
      | else-has_duties w ↦ rw (w.self-is, w.out-is) (step_stands team c.rule-dropped.new.self c.args.h (event c) p c.rule-dropped.new.out false (sym (c.has_duties.ensures team) ∙ w.if-has_duties.false) rule.stands)
    ]

pub returns-clause-stands : goal.returns-clause-stands
returns-clause-stands c = λ p s known. (stepped c p s known).0

pub returns-clause-answer : goal.returns-clause-answer
returns-clause-answer c = λ p s known. ap row_answer c.answer.ensures ∙ (ruled c p s known).answer ∙ sym (step_answer c.args.self.now.team c.args.h (event c) p)

pub returns-clause-out : goal.returns-clause-out
returns-clause-out c = λ p s known. (stepped c p s known).1
