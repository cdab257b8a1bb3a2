-- The answer is the next pass, which tells what all passes are.
use Rattle.std.proofs.Common.{rules, arith, ◌≡◌, sym, subst, Some, None}
use Rattle.std.proofs.lemmas.Grind.{common_steps}
use Rattle.tw_types.specs.Deliveries.{next_pass, PassStep}
use Rattle.tw_types.proofs.Delivered.{pass_step}
use Rattle.delivery.proofs.next.next_pass.Goals as goal

pub returns-in_err-kept-clause-step : goal.returns-in_err-kept-clause-step
returns-in_err-kept-clause-step c = λ l s.
    let same : c.from_residual.result ≡ next_pass c.args.team.now c.args.d.now l = search rules in
    subst (PassStep c.args.team.now c.args.d.now l) (sym same) (pass_step c.args.team.now c.args.d.now l)

pub returns-then-passes_at-clause-step : goal.returns-then-passes_at-clause-step
returns-then-passes_at-clause-step c = λ l s.
    let same : Some c.how_passed.result ≡ next_pass c.args.team.now c.args.d.now l = grind (arith, common_steps) in
    subst (PassStep c.args.team.now c.args.d.now l) (sym same) (pass_step c.args.team.now c.args.d.now l)

pub returns-else-passes_at-clause-step : goal.returns-else-passes_at-clause-step
returns-else-passes_at-clause-step c = λ l s.
    let same : None ≡ next_pass c.args.team.now c.args.d.now l = grind (arith, common_steps) in
    subst (PassStep c.args.team.now c.args.d.now l) (sym same) (pass_step c.args.team.now c.args.d.now l)
