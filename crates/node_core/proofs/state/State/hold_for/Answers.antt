use Rattle.std.proofs.Common.{◌∙◌, ℕ, sym, ap, subst, Some}
use Rattle.tw_types.specs.Beliefs.{log_length}
use Rattle.tw_types.specs.Votes.{Vote}
use Rattle.tw_types.specs.Waiting.{Waiting, holding}
use Rattle.tw_machine.specs.Entering.{held_for}
use Rattle.update_store.specs.Stock.{Stock}
use Rattle.node_core.specs.InRange.{WaitingFits}
use Rattle.node_core.specs.StandsFor.{purpose_seen}
use Rattle.node_core.proofs.Waits.{holding_fits}
use Rattle.node_core.proofs.Keeping.{held_update}
use Rattle.node_core.proofs.state.State.hold_for.Goals as goal

pub returns-clause-stands : goal.returns-clause-stands
returns-clause-stands c = λ team r s. c.ask.ensures.stands team (record r { process = held_for (purpose_seen c.args.purpose) c.args.d.now c.args.source r.process }) (record {
  same_team = s.same_team;
  process = record {
    identity = s.process.identity;
    timing = s.process.timing;
    beat = s.process.beat;
    vote = s.process.vote;
    ballot = s.process.ballot;
    belief = s.process.belief;
    log = s.process.log;
    waiting = ap (λ (w : Waiting). holding c.args.d.now (log_length r.process.log) c.args.source w) s.process.waiting
        ∙ ap (λ (x : ℕ). holding c.args.d.now x c.args.source c.args.self.now.store.waiting) (sym (c.length-first.ensures.log r.process.log s.process.log))
        ∙ sym (ap (λ (k : Stock). k.waiting) c.hold.ensures);
    next_seq = s.process.next_seq;
    hold = ap (λ (v : Vote). Some (record { purpose = purpose_seen c.args.purpose; promised = v.promised })) s.process.vote;
  };
  given = s.given;
})

pub returns-clause-fits : goal.returns-clause-fits
returns-clause-fits c = record {
  promised = c.requires.fits.promised;
  support = c.requires.fits.support;
  view = c.requires.fits.view;
  kept = c.requires.fits.kept;
  ballot = c.requires.fits.ballot;
  held = c.requires.fits.held;
  own = c.requires.fits.own;
  within = c.requires.fits.within;
  length = c.requires.fits.length;
  log = c.requires.fits.log;
  waiting = subst (λ (k : Stock). WaitingFits c.args.self.now.team.n k.waiting) (sym c.hold.ensures)
      (holding_fits c.args.self.now.team.n c.args.d.now c.length-first.result c.args.source c.args.self.now.store.waiting c.requires.fits.waiting c.requires.decision c.requires.source);
  updates = held_update c.args.self.now.team.n _ c.args.d.now c.length-first.result c.args.source c.args.self.now.oal c.args.self.now.store c.hold.new.self (record { purpose = c.args.purpose; promised = c.args.self.now.vote.promised }) c.args.self.now.hold c.args.self.now.next_seq
      c.hold.ensures c.requires.promised c.requires.fits.updates;
}
