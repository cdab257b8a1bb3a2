use Rattle.std.proofs.Common.{◌∙◌, ap, Some}
use Rattle.tw_machine.specs.Types.{Decision, Outputs}
use Rattle.tw_types.specs.Votes.{Vote}
use Rattle.tw_machine.specs.Deciding.{supporting, making_kept}
use Rattle.node_core.proofs.state.State.make_decision.Goals as goal

pub returns-clause-stands : goal.returns-clause-stands
returns-clause-stands c = λ team before reports appended r s. c.send_to_others.ensures.stands team (making_kept (record { decision = c.args.d; before = before; reports = reports; appended = appended }) c.args.t r) (record {
  same_team = c.enter.ensures.team ∙ s.same_team;
  process = c.enter.ensures.stands (supporting c.args.t r.process) (record {
    identity = s.process.identity;
    timing = s.process.timing;
    beat = s.process.beat;
    vote = ap (λ (v : Vote). record v { support = Some c.args.t }) s.process.vote;
    ballot = s.process.ballot;
    belief = s.process.belief;
    log = s.process.log;
    waiting = s.process.waiting;
    hold = s.process.hold;
    next_seq = s.process.next_seq;
  });
  given = ap (λ (d : Decision). record (c.args.out.now) { made = Some d }) c.copy.ensures ∙ ap (λ (o : Outputs). record o { made = Some c.args.d }) s.given;
})
