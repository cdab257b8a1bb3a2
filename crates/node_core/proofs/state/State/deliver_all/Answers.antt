use Rattle.std.proofs.Common.{◌≡◌, ◌∙◌, sym, subst, ℕ, IfSome}
use Rattle.tw_types.specs.Beliefs.{Log}
use Rattle.tw_types.specs.Deliveries.{log_delivered}
use Rattle.oal.specs.StandsFor.{StandsFor}
use Rattle.update_store.specs.Stock.{Stock}
use Rattle.node_core.specs.InRange.{WaitingFits, ReportsWithin}
use Rattle.node_core.proofs.Marks.{delivered_fits, delivered_update}
use Rattle.node_core.proofs.state.State.deliver_all.Goals as goal

pub returns-in-Some-clause-fits : goal.returns-in-Some-clause-fits
returns-in-Some-clause-fits c =
    let log : Log = c.requires.fits.log.log in
    let after : StandsFor c.deliver_earlies.new.log (log_delivered c.args.self.now.team c.in-Some.last.now log) = c.deliver_earlies.ensures.log _ (c.deliver_run.ensures.log log c.requires.fits.log.stands) in
    let same : c.deliver_earlies.new.log.length ≡ c.args.self.now.oal.length = c.deliver_earlies.ensures.length ∙ c.deliver_run.ensures.length in
    record {
      promised = c.requires.fits.promised;
      support = c.requires.fits.support;
      view = c.requires.fits.view;
      kept = c.requires.fits.kept;
      ballot = c.requires.fits.ballot;
      held = c.requires.fits.held;
      own = c.requires.fits.own;
      within = subst (λ (n : ℕ). IfSome c.args.self.now.ballot (ReportsWithin c.args.self.now.identity.who n)) (sym same) c.requires.fits.within;
      length = same ∙ c.requires.fits.length;
      log = record { log = log_delivered c.args.self.now.team c.in-Some.last.now log; stands = after };
      waiting = subst (λ (k : Stock). WaitingFits c.args.self.now.team.n k.waiting) (sym c.deliver_weaks.ensures.store) (delivered_fits c.args.self.now.team.n c.args.self.now.store.waiting c.requires.fits.waiting);
      updates = delivered_update c.args.self.now.team.n c.args.self.now.team c.in-Some.last.now _ log c.args.self.now.oal c.deliver_earlies.new.log c.args.self.now.store c.deliver_weaks.new.store c.args.self.now.hold c.args.self.now.next_seq
          c.requires.fits.log.stands after c.deliver_weaks.ensures.store c.requires.fits.updates;
    }
