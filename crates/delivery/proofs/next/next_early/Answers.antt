-- The position that is found is the first one that goes early.
use Rattle.std.proofs.Common.{◌≡◌, ◌≤◌, sym, subst, true, false, max, rules, tests}
use Rattle.std.proofs.lemmas.Iterator.{first_from_Range}
use Rattle.tw_types.specs.Beliefs.{Log}
use Rattle.tw_types.specs.Logs.{kept_from}
use Rattle.tw_types.specs.Deliveries.{may_go_early, next_early, IsNextEarly, EarlyStep}
use Rattle.tw_types.proofs.Delivered.{next_is_least, early_step}
use Rattle.oal.specs.StandsFor.{StandsFor}
use Rattle.delivery.proofs.Finding.{found_first}
use Rattle.delivery.proofs.next.next_early.Goals as goal

found : (c : goal.After-find) (l : Log) → StandsFor c.args.log.now l → c.find.result ≡ next_early c.args.team.now c.args.d.now l c.args.from
found c l s = found_first c.args.team.now c.args.d.now l c.args.from c.first_unpassed.result c.length.result c.find.result
    (c.first_unpassed.ensures.exact l s) (c.length.ensures.log l s) (c.first_unpassed.ensures.kept l s)
    (first_from_Range _ _ _ _
    (λ i. kept_from l ≤ i → may_go_early c.args.team.now c.args.d.now l i ≡ true)
    (λ i. kept_from l ≤ i → may_go_early c.args.team.now c.args.d.now l i ≡ false)
    c.find.ensures.ran
    (λ x q k. search (rules, tests))
    (λ x q k. (search rules, search (rules, tests))))

pub returns-clause-exact : goal.returns-clause-exact
returns-clause-exact c = found c

pub returns-clause-least : goal.returns-clause-least
returns-clause-least c = λ l s. subst (IsNextEarly c.args.team.now c.args.d.now l c.args.from) (sym (found c l s)) (next_is_least c.args.team.now c.args.d.now l c.args.from)

pub returns-clause-step : goal.returns-clause-step
returns-clause-step c = λ l s. subst (EarlyStep c.args.team.now c.args.d.now (max c.args.from l.passed) l) (sym (found c l s)) (early_step c.args.team.now c.args.d.now (max c.args.from l.passed) l)
