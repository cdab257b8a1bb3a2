use Rattle.std.proofs.Common.{◌≡◌, ◌∙◌, ◌<◌, refl, sym, ap, Option, None, arith}
use Rattle.tw_machine.specs.Types.{Team, Member, Decision, Report, Ballot}
use Rattle.tw_types.specs.declared.datagram.Body.TheVariants as bodies
use Rattle.tw_types.specs.Votes.{Vote, Promise}
use Rattle.tw_types.specs.Beliefs.{last_of, view_decision}
use Rattle.tw_types.specs.Refusals.{first_refusal}
use Rattle.tw_machine.specs.Standing.{promise_by}
use Rattle.tw_machine.specs.Run.{Run, Ruled, dropped}
use Rattle.tw_machine.specs.Electing.{answer_tests, promised, answer_election}
use Rattle.node_core.specs.StandsFor.{RunStandsFor, belief_seen}
use Rattle.node_core.proofs.Concerns.{answer_is, no_answer_is, told, reported_below, later, if_none, sent_alike}
use Rattle.node_core.proofs.state.State.answer_election.Goals as goal

-- what is promised is above what was promised before
above : (c : goal.After-send_to) → c.args.self.now.vote.promised < c.args.number
above c = if_none c.refuse_election.result _ c.in_default.is c.refuse_election.ensures.above

pub returns-clause-stands : goal.returns-clause-stands
returns-clause-stands c = λ team r s.
    let given : Promise = promise_by r.process c.args.number c.args.t in
    let none : first_refusal (answer_tests team c.args.now.now c.args.from c.args.number c.args.why c.args.t r.process) ≡ None = rw (← s.same_team) (sym (c.refuse_election.ensures.exact r.process s.process) ∙ c.in_default.is) in
    let body : bodies.Promise c.args.number c.report-report.result c.last_copy-decision.result ≡ bodies.Promise given.number given.report given.decision =
    ap (λ (x : Report). bodies.Promise c.args.number x c.last_copy-decision.result) (c.report-report.ensures.exact r.process s.process)
    ∙ ap (λ (x : Option Decision). bodies.Promise c.args.number given.report x) (c.last_copy-decision.ensures ∙ sym (ap last_of s.process.belief)) in
    rw (answer_is team c.args.now.now c.args.from c.args.number c.args.why c.args.t r none)
    (sent_alike team _ c.send_to.new.out c.args.now.now c.args.from (promised given r) _ _ body
    (c.send_to.ensures.stands team (promised given r) (record {
      same_team = s.same_team;
      process = record {
        identity = s.process.identity;
        timing = s.process.timing;
        beat = s.process.beat;
        vote = ap (λ (v : Vote). record v { promised = c.args.number }) s.process.vote;
        ballot = s.process.ballot;
        belief = s.process.belief;
        log = s.process.log;
        waiting = s.process.waiting;
        hold = s.process.hold;
        next_seq = s.process.next_seq;
      };
      given = s.given;
    })))

pub returns-clause-dropped : goal.returns-clause-dropped
returns-clause-dropped c = λ team r s.
    let none : first_refusal (answer_tests team c.args.now.now c.args.from c.args.number c.args.why c.args.t r.process) ≡ None = rw (← s.same_team) (sym (c.refuse_election.ensures.exact r.process s.process) ∙ c.in_default.is) in
    sym (ap (λ (x : Ruled). x.dropped) (answer_is team c.args.now.now c.args.from c.args.number c.args.why c.args.t r none))

-- a refused one changes nothing
refused_so : (c : goal.In-Some) (team : Team) (r : Run) → RunStandsFor team c.args.self.now c.args.out.now r → answer_election team c.args.now.now c.args.from c.args.number c.args.why c.args.t r ≡ dropped c.in-Some.reason r
refused_so c team r s = no_answer_is team c.args.now.now c.args.from c.args.number c.args.why c.args.t r c.in-Some.reason (rw (← s.same_team) (sym (c.refuse_election.ensures.exact r.process s.process) ∙ c.in-Some.is))

pub returns-in-Some-clause-stands : goal.returns-in-Some-clause-stands
returns-in-Some-clause-stands c = λ team r s. rw (refused_so c team r s) s

pub returns-in-Some-clause-dropped : goal.returns-in-Some-clause-dropped
returns-in-Some-clause-dropped c = λ team r s. rw (refused_so c team r s) refl

pub returns-clause-gives : goal.returns-clause-gives
returns-clause-gives c = record {
  fits = λ all. c.send_to.ensures.fits (λ head from incarnation. record {
    number_fits = c.requires.number;
    report = c.report-report.ensures.fits;
    who = ap (λ (m : Member). m.who) c.report-report.ensures.member ∙ sym from;
    incarnation = ap (λ (m : Member). m.incarnation) c.report-report.ensures.member ∙ sym incarnation;
    below = λ e. (let less = reported_below (belief_seen c.args.self.now.belief) c.report-report.result c.args.self.now.vote.promised c.requires.fits.kept c.report-report.ensures.group in let more = above c in omega (arith, less, more));
    decision = rw c.last_copy-decision.ensures (told c.args.self.now.team.n (belief_seen c.args.self.now.belief) c.report-report.result _ c.requires.fits.view refl c.report-report.ensures.kind c.report-report.ensures.group c.report-report.ensures.turn);
  }) all;
  few = c.send_to.ensures.few;
  passes = c.send_to.ensures.passes;
  earlies = c.send_to.ensures.earlies;
}

pub returns-clause-fits : goal.returns-clause-fits
returns-clause-fits c = record {
  promised = c.requires.number.count;
  support = c.requires.fits.support;
  view = c.requires.fits.view;
  kept = later (view_decision (belief_seen c.args.self.now.belief)) (λ (d : Decision). d.group) c.args.self.now.vote.promised c.args.number c.requires.fits.kept (let more = above c in omega (arith, more));
  ballot = c.requires.fits.ballot;
  held = later c.args.self.now.ballot (λ (b : Ballot). b.number) c.args.self.now.vote.promised c.args.number c.requires.fits.held (let more = above c in omega (arith, more));
  own = c.requires.fits.own;
  within = c.requires.fits.within;
  length = c.requires.fits.length;
  log = c.requires.fits.log;
  waiting = c.requires.fits.waiting;
  updates = c.requires.fits.updates;
}
