use Rattle.std.proofs.Common.{◌≡◌, sym, ap, subst, ◌∙◌, map, take, arith}
use Rattle.std.specs.List.{AllByRecursion}
use Rattle.std.proofs.lemmas.List.{take_all}
use Rattle.node_loop.specs.Calls.{spelled, IsReachable}
use Rattle.node_loop.proofs.Calls.{all_reachable}
use Rattle.node_loop.proofs.sending.spell.Goals as goal

pub returns-clause-reachable : goal.returns-clause-reachable
returns-clause-reachable c =
    let all : take c.loop-to.to-index c.args.sends.now ≡ c.args.sends.now = take_all c.loop-to.to-index c.args.sends.now (omega (arith, c.loop-to-test.false)) in
    subst (AllByRecursion (IsReachable c.args.team.now.n)) (sym (c.loop-to.invariant.spelled ∙ ap (map (spelled c.args.team.now.line)) all)) (all_reachable c.args.team.now.line c.args.team.now.n c.args.sends.now c.requires.fits)
