use Rattle.std.proofs.Common.{◌≡◌, ◌∙◌, ap, subst, ℕ, not, nat_eq, length, arith}
use Rattle.tw_machine.specs.Types.{Team, Outputs}
use Rattle.tw_machine.specs.Sending.{datagram_to, sent_to_others}
use Rattle.node_core.specs.StandsFor.{RunStandsFor}
use Rattle.node_core.proofs.Others.{one_more, fewer_after}
use Rattle.node_core.proofs.state.State.send_to_others.Goals as goal

pub loop-to-preserved : goal.loop-to-preserved
loop-to-preserved c = record {
  stands = λ team r s. one_more team c.args.self.now _ r (datagram_to c.args.now.now r.process.identity r.process.timing c.args.body.now) (λ q. not (nat_eq q r.process.identity.who)) c.loop-to.to
      (c.send_to_other.ensures.stands team _ (c.loop-to.invariant.stands team r s));
  fits = λ sayable before. c.send_to_other.ensures.fits sayable (c.loop-to.invariant.fits sayable before);
  few = omega (arith, c.send_to_other.ensures.few, c.loop-to.invariant.few);
  passes = c.send_to_other.ensures.passes ∙ c.loop-to.invariant.passes;
  earlies = c.send_to_other.ensures.earlies ∙ c.loop-to.invariant.earlies;
  fewer = fewer_after (length c.args.out.now.sends) _ _ c.args.self.now.identity.who c.loop-to.to c.loop-to.invariant.fewer c.loop-to.invariant.few c.send_to_other.ensures.few (λ e. ap (λ (o : Outputs). length o.sends) (c.send_to_other.ensures.same e));
}

pub returns-clause-stands : goal.returns-clause-stands
returns-clause-stands c = λ team r s.
    let count : c.args.self.now.team.n ≡ team.n = ap (λ (t : Team). t.n) s.same_team in
    let all : c.loop-to.to ≡ team.n = omega (arith, count, c.loop-to.auto.to-end, c.loop-to-test.false) in
    subst (λ (n : ℕ). RunStandsFor team c.args.self.now c.loop-to.out (sent_to_others n c.args.now.now c.args.body.now r)) all (c.loop-to.invariant.stands team r s)
