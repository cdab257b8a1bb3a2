use Rattle.std.proofs.Common.{◌≡◌, ◌∙◌, refl, sym, subst}
use Rattle.tw_types.specs.Beliefs.{view_decision}
use Rattle.tw_types.specs.Waiting.{putting, after_put}
use Rattle.update_store.specs.Stock.{Stock}
use Rattle.node_core.specs.StandsFor.{belief_seen}
use Rattle.node_core.specs.InRange.{WaitingFits}
use Rattle.node_core.proofs.Keeping.{put_fits, put_update, may_put}
use Rattle.node_core.proofs.state.State.put.Goals as goal

pub put-requires : goal.put-requires
put-requires c = rw c.view.ensures (may_put c.args.self.now.team.n (view_decision (belief_seen c.args.self.now.belief)) c.args.kept.now c.args.self.now.oal c.args.self.now.store c.args.self.now.hold c.args.self.now.next_seq c.requires.fits.view c.requires.update c.requires.fits.updates)

pub returns-clause-fits : goal.returns-clause-fits
returns-clause-fits c =
    let n = c.args.self.now.team.n in
    let view = view_decision (belief_seen c.args.self.now.belief) in
    let is : c.put.new.self ≡ record c.args.self.now.store { waiting = after_put view c.args.kept.now c.args.self.now.store.waiting } = c.put.ensures.after ∙ rw c.view.ensures refl in
    record {
      promised = c.requires.fits.promised;
      support = c.requires.fits.support;
      view = c.requires.fits.view;
      kept = c.requires.fits.kept;
      ballot = c.requires.fits.ballot;
      held = c.requires.fits.held;
      own = c.requires.fits.own;
      within = c.requires.fits.within;
      length = c.requires.fits.length;
      log = c.requires.fits.log;
      waiting = subst (λ (k : Stock). WaitingFits n k.waiting) (sym is) (put_fits n (putting view c.args.kept.now c.args.self.now.store.waiting) c.args.kept.now c.args.self.now.store.waiting c.requires.update c.requires.fits.waiting);
      updates = put_update n view c.args.kept.now c.args.self.now.oal c.args.self.now.store c.put.new.self c.args.self.now.hold c.args.self.now.next_seq is c.requires.fits.updates;
    }
