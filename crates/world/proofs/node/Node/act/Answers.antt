use Rattle.std.proofs.Common.{◌≡◌, refl, sym, subst, ◌∙◌, ℕ}
use Rattle.std.specs.List.{AllByRecursion}
use Rattle.tw_machine.specs.Types.{Outputs}
use Rattle.tw_types.specs.Outputs.{nothing}
use Rattle.node_core.specs.Sends.{IsSendable}
use Rattle.world.proofs.Acts.{crash_done}
use Rattle.world.proofs.node.Node.act.Goals as goal

none_sent : (n : ℕ) (o : Outputs) → o ≡ nothing → AllByRecursion (IsSendable n) o.sends
none_sent n o e = subst (λ (x : Outputs). AllByRecursion (IsSendable n) x.sends) (sym e) tt

pub returns-clause-deed : goal.returns-clause-deed
returns-clause-deed c = λ team before sent sound line stands there ready.
    crash_done team c.args.step.now.who c.args.step.now.h c.args.step.now.act sent c.in-Some.core c.look-lost.result _ _ _ before (sym c.runs_after.ensures ∙ c.if-runs_after.false) (rw c.in-Some.is at ready) c.look-lost.ensures.view
    c.gone-2.ensures c.silent-2.ensures.answer c.silent-2.ensures.out

pub returns-in_default-clause-fits : goal.returns-in_default-clause-fits
returns-in_default-clause-fits c = λ n one. none_sent n _ c.silent.ensures.out

pub returns-in_default-clause-same_team : goal.returns-in_default-clause-same_team
returns-in_default-clause-same_team c = λ n one. one

pub returns-then-runs_after-clause-deed : goal.returns-then-runs_after-clause-deed
returns-then-runs_after-clause-deed c = λ team before sent sound line stands there ready.
    c.act.ensures.deed team before sent sound line stands there (rw c.in-Some.is at ready) (sym c.runs_after.ensures ∙ c.if-runs_after.true)

pub returns-clause-fits : goal.returns-clause-fits
returns-clause-fits c = λ n one. none_sent n _ c.silent-2.ensures.out

pub returns-clause-same_team : goal.returns-clause-same_team
returns-clause-same_team c = λ n one. refl
