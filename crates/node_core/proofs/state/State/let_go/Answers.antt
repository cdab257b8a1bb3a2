use Rattle.std.proofs.Common.{◌≡◌, ◌∙◌, sym, ap, subst, true, false}
use Rattle.update_store.specs.Stock.{Stock}
use Rattle.tw_machine.specs.Entering.{is_overtaken}
use Rattle.node_core.specs.InRange.{WaitingFits}
use Rattle.node_core.proofs.Waits.{released_fits}
use Rattle.node_core.proofs.Keeping.{released_update}
use Rattle.node_core.proofs.Entered.{left_waiting, left_hold}
use Rattle.node_core.proofs.state.State.let_go.Goals as goal

pub returns-then-has_overtaken-clause-stands : goal.returns-then-has_overtaken-clause-stands
returns-then-has_overtaken-clause-stands c = λ p s.
    let over : is_overtaken c.args.d.now c.args.self.now.store.waiting.held ≡ true = sym c.has_overtaken.ensures ∙ c.if-has_overtaken.true in
    record {
      identity = s.identity;
      timing = s.timing;
      beat = s.beat;
      vote = s.vote;
      ballot = s.ballot;
      belief = s.belief;
      log = s.log;
      waiting = left_waiting c.args.d.now p c.args.self.now.store.waiting true over s.waiting ∙ sym (ap (λ (k : Stock). k.waiting) c.release.ensures);
      hold = left_hold c.args.d.now p c.args.self.now.store.waiting _ true over s.waiting s.hold;
      next_seq = s.next_seq;
    }

pub returns-else-has_overtaken-clause-stands : goal.returns-else-has_overtaken-clause-stands
returns-else-has_overtaken-clause-stands c = λ p s.
    let over : is_overtaken c.args.d.now c.args.self.now.store.waiting.held ≡ false = sym c.has_overtaken.ensures ∙ c.if-has_overtaken.false in
    record {
      identity = s.identity;
      timing = s.timing;
      beat = s.beat;
      vote = s.vote;
      ballot = s.ballot;
      belief = s.belief;
      log = s.log;
      waiting = left_waiting c.args.d.now p c.args.self.now.store.waiting false over s.waiting;
      hold = left_hold c.args.d.now p c.args.self.now.store.waiting _ false over s.waiting s.hold;
      next_seq = s.next_seq;
    }

pub returns-then-has_overtaken-clause-fits : goal.returns-then-has_overtaken-clause-fits
returns-then-has_overtaken-clause-fits c = record {
  promised = c.requires.fits.promised;
  support = c.requires.fits.support;
  view = c.requires.fits.view;
  kept = c.requires.fits.kept;
  ballot = c.requires.fits.ballot;
  held = c.requires.fits.held;
  own = c.requires.fits.own;
  within = c.requires.fits.within;
  length = c.requires.fits.length;
  log = c.requires.fits.log;
  waiting = subst (λ (k : Stock). WaitingFits c.args.self.now.team.n k.waiting) (sym c.release.ensures) (released_fits c.args.self.now.team.n c.args.self.now.store.waiting c.requires.fits.waiting);
  updates = released_update c.args.self.now.team.n _ c.args.self.now.oal c.args.self.now.store c.release.new.self c.args.self.now.hold c.args.self.now.next_seq c.release.ensures c.requires.fits.updates;
}
