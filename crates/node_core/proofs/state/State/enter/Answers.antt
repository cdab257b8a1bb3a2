use Rattle.std.proofs.Common.{subst, ◌∙◌, sym, ap, Some}
use Rattle.tw_types.specs.declared.message.Decision.{Decision}
use Rattle.tw_types.specs.Beliefs.{Informed}
use Rattle.tw_types.specs.Decisions.{decision_length}
use Rattle.tw_types.specs.Logs.{log_after}
use Rattle.tw_types.specs.Taking.{taken}
use Rattle.tw_types.specs.Waiting.{payloads_of, settled_by}
use Rattle.update_store.specs.Stock.{Stock}
use Rattle.node_core.specs.InRange.{WaitingFits}
use Rattle.node_core.proofs.Waits.{settled_fits}
use Rattle.node_core.proofs.Keeping.{entered_update}
use Rattle.node_core.proofs.Fitting.{fits_is}
use Rattle.node_core.proofs.Entered.{within_longer}
use Rattle.node_core.proofs.state.State.enter.Goals as goal

pub returns-clause-stands : goal.returns-clause-stands
returns-clause-stands c = λ p s. c.let_go.ensures.stands (record p { log = log_after (payloads_of p.waiting) c.args.d.now p.log; belief = taken c.args.d.now; waiting = settled_by c.args.d.now p.waiting }) (record {
  identity = s.identity;
  timing = s.timing;
  beat = s.beat;
  vote = s.vote;
  ballot = s.ballot;
  belief = ap (λ (d : Decision). Informed (Some d)) (sym c.copy.ensures);
  log = rw s.waiting (c.extend.ensures.log p.log s.log);
  waiting = ap (settled_by c.args.d.now) s.waiting ∙ sym (ap (λ (k : Stock). k.waiting) c.settle.ensures);
  hold = s.hold;
  next_seq = s.next_seq;
})

pub let_go-requires : goal.let_go-requires
let_go-requires c = record {
  fits = record {
    promised = c.requires.fits.promised;
    support = c.requires.fits.support;
    view = rw c.copy.ensures c.requires.decision;
    kept = rw c.copy.ensures c.requires.promised;
    ballot = c.requires.fits.ballot;
    held = c.requires.fits.held;
    own = c.requires.fits.own;
    within = rw c.extend.ensures.length (within_longer c.args.self.now.ballot c.args.self.now.identity.who c.args.self.now.oal.length (decision_length c.args.d.now) c.requires.fits.within
        (fits_is c.args.self.now.oal.length c.args.self.now.oal.passed (payloads_of c.args.self.now.store.waiting) c.args.d.now c.requires.list).longer);
    length = c.extend.ensures.length ∙ ap decision_length (sym c.copy.ensures);
    log = record { log = log_after (payloads_of c.args.self.now.store.waiting) c.args.d.now c.requires.fits.log.log; stands = c.extend.ensures.log c.requires.fits.log.log c.requires.fits.log.stands };
    waiting = subst (λ (k : Stock). WaitingFits c.args.self.now.team.n k.waiting) (sym c.settle.ensures) (settled_fits c.args.self.now.team.n c.args.d.now c.args.self.now.store.waiting c.requires.fits.waiting);
    updates = rw c.copy.ensures (entered_update c.args.self.now.team.n _ c.args.d.now c.args.self.now.oal c.extend.new.self c.args.self.now.store c.settle.new.self c.args.self.now.hold c.args.self.now.next_seq
        c.extend.ensures.value c.settle.ensures c.requires.decision c.requires.fits.waiting c.requires.fits.updates);
  };
}

pub returns-clause-last : goal.returns-clause-last
returns-clause-last c = rw c.let_go.ensures.belief (ap (λ (d : Decision). Some d) c.copy.ensures)
