use Rattle.std.proofs.Common.{◌≡◌, ◌∙◌, ℕ, sym, ap, Some, arith}
use Rattle.tw_machine.specs.Types.{Ballot, Decision}
use Rattle.tw_types.specs.Beliefs.{view_decision}
use Rattle.tw_types.specs.Votes.{Vote}
use Rattle.tw_types.specs.declared.datagram.Body.TheVariants as bodies
use Rattle.node_core.specs.StandsFor.{belief_seen}
use Rattle.node_core.specs.Outcomes.{HoldsElection}
use Rattle.node_core.proofs.Concerns.{later, with_ballot, others_alike}
use Rattle.node_core.proofs.state.State.begin_election.Goals as goal

pub returns-in-Some-clause-stands : goal.returns-in-Some-clause-stands
returns-in-Some-clause-stands c = λ team r s.
    let m : HoldsElection team c.args.now.now c.args.t r (c.in-Some.ballot, c.in-Some.why) = c.in-Some.ensures.held team r s.same_team s.process in
    let number : c.in-Some.ballot.number ≡ m.own.number = ap (λ (b : Ballot). b.number) m.ballot in
    rw m.is (others_alike team _ c.send_to_others.new.out c.args.now.now (with_ballot m.own r) _ _ (ap (λ (x : ℕ). bodies.Election x c.in-Some.why) number)
    (c.send_to_others.ensures.stands team (with_ballot m.own r) (record {
      same_team = s.same_team;
      process = record {
        identity = s.process.identity;
        timing = s.process.timing;
        beat = s.process.beat;
        vote = ap (λ (v : Vote). record v { promised = m.own.number }) s.process.vote ∙ ap (λ (x : ℕ). record { promised = x; support = c.args.self.now.vote.support }) (sym number);
        ballot = ap (λ (b : Ballot). Some b) (sym m.ballot);
        belief = s.process.belief;
        log = s.process.log;
        waiting = s.process.waiting;
        hold = s.process.hold;
        next_seq = s.process.next_seq;
      };
      given = s.given;
    })))

pub returns-in-Some-clause-gives : goal.returns-in-Some-clause-gives
returns-in-Some-clause-gives c = record {
  fits = λ all. c.send_to_others.ensures.fits (λ head from incarnation. record { number_fits = c.in-Some.ensures.fits.number; why_fits = rw c.in-Some.ensures.why tt }) all;
  few = c.send_to_others.ensures.few;
  passes = c.send_to_others.ensures.passes;
  earlies = c.send_to_others.ensures.earlies;
}

pub returns-in-Some-clause-fits : goal.returns-in-Some-clause-fits
returns-in-Some-clause-fits c = record {
  promised = c.in-Some.ensures.fits.number.count;
  support = c.requires.fits.support;
  view = c.requires.fits.view;
  kept = later (view_decision (belief_seen c.args.self.now.belief)) (λ (d : Decision). d.group) c.args.self.now.vote.promised c.in-Some.ballot.number c.requires.fits.kept (omega (arith, c.in-Some.ensures.above));
  ballot = c.in-Some.ensures.fits;
  held = omega arith;
  own = c.in-Some.ensures.own;
  within = c.in-Some.ensures.within;
  length = c.requires.fits.length;
  log = c.requires.fits.log;
  waiting = c.requires.fits.waiting;
  updates = c.requires.fits.updates;
}
