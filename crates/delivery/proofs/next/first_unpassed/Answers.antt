use Rattle.std.proofs.Common.{◌∙◌, ap, max}
use Rattle.delivery.proofs.next.first_unpassed.Goals as goal

pub returns-clause-exact : goal.returns-clause-exact
returns-clause-exact c l s = c.max.ensures ∙ ap (max c.args.from) (c.passed.ensures.log l s)
