-- What a draft that is in the ranges becomes is in them.
use Rattle.std.proofs.Common.{sym, subst, arith, rules}
use Rattle.std.proofs.lemmas.Grind.{common_steps}
use Rattle.tw_types.specs.declared.message.Decision.{Decision}
use Rattle.tw_types.specs.Ranges.{DecisionFits}
use Rattle.decider.proofs.Fits.{finished_fits}
use Rattle.decider.proofs.making.finish.Goals as goal

pub returns-clause-exact : goal.returns-clause-exact
returns-clause-exact c = first_of (search rules, grind (arith, common_steps))

pub returns-clause-fits : goal.returns-clause-fits
returns-clause-fits c = λ n fits. subst (λ (d : Decision). DecisionFits n d) (sym (returns-clause-exact c)) (finished_fits n c.args.draft fits)
