use Rattle.std.proofs.Common.{◌≡◌, ◌∙◌, sym, ap, Option, Some, None}
use Rattle.std.specs.Option.{option_and_then}
use Rattle.tw_machine.specs.Types.{Team, Ballot}
use Rattle.node_core.specs.Outcomes.{made_if_complete}
use Rattle.node_core.proofs.Concerns.{Makes, makes, no_group_is}
use Rattle.node_core.proofs.state.State.make_group.Goals as goal

pub returns-in-Some-clause-stands : goal.returns-in-Some-clause-stands
returns-in-Some-clause-stands c = λ team r s.
    let made : option_and_then (made_if_complete team c.args.t r.process) r.process.ballot ≡ Some c.in-Some.made =
    ap (λ (x : Team). option_and_then (made_if_complete x c.args.t r.process) r.process.ballot) (sym s.same_team)
    ∙ ap (λ (o : Option Ballot). option_and_then (made_if_complete c.args.self.now.team c.args.t r.process) o) s.process.ballot ∙ sym (c.made.ensures.exact r.process s.process) ∙ c.in-Some.is in
    let m : Makes team c.args.now.now c.args.t r c.in-Some.made = makes team c.args.now.now c.args.t r c.in-Some.made made in
    rw m.is (c.begin_or_hold.ensures.stands team m.ballot r m.held s)

pub returns-in_default-clause-stands : goal.returns-in_default-clause-stands
returns-in_default-clause-stands c = λ team r s.
    let none : option_and_then (made_if_complete team c.args.t r.process) r.process.ballot ≡ None =
    ap (λ (x : Team). option_and_then (made_if_complete x c.args.t r.process) r.process.ballot) (sym s.same_team)
    ∙ ap (λ (o : Option Ballot). option_and_then (made_if_complete c.args.self.now.team c.args.t r.process) o) s.process.ballot ∙ sym (c.made.ensures.exact r.process s.process) ∙ c.in_default.is in
    rw (no_group_is team c.args.now.now c.args.t r none) s
