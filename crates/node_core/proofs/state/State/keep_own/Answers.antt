use Rattle.std.proofs.Common.{◌≡◌, ◌∙◌, refl, sym, ap, arith}
use Rattle.tw_types.specs.Beliefs.{view_decision}
use Rattle.tw_types.specs.Waiting.{putting, Filled}
use Rattle.tw_machine.specs.Updating.{update_kept}
use Rattle.update_store.specs.Put.{putting_of}
use Rattle.node_core.proofs.Uses.{kept_run, kept_whatever}
use Rattle.node_core.proofs.state.State.keep_own.Goals as goal

pub returns-in-Filled-clause-stands : goal.returns-in-Filled-clause-stands
returns-in-Filled-clause-stands c = λ team r s.
    let how : putting (view_decision r.process.belief) c.args.kept.now r.process.waiting ≡ Filled = sym (c.put.ensures.answer r.process s.process) ∙ ap putting_of c.in-Filled.is in
    rw how (c.use_if_whole.ensures.stands team (update_kept Filled c.args.kept.now r) (kept_run team c.args.self.now c.put.new.self c.args.out.now r c.args.kept.now _ Filled s c.put.ensures.team (c.put.ensures.stands r.process s.process) how))

pub returns-in-Stored : goal.returns-in-Stored
returns-in-Stored c = record {
  stands = λ team r s. kept_whatever team c.args.now.now c.args.self.now c.put.new.self c.args.out.now r c.args.kept.now c.put.result (putting (view_decision r.process.belief) c.args.kept.now r.process.waiting) s c.put.ensures.team (c.put.ensures.stands r.process s.process) (c.put.ensures.answer r.process s.process) c.in-Stored.is;
  gives = record { fits = λ all. all; few = omega arith; passes = refl; earlies = refl };
  fits = c.put.ensures.fits;
  team = c.put.ensures.team;
}
