use Rattle.tw_machine.proofs.Tables.{all_push}
use Rattle.node_core.specs.Sends.{IsSendable}
use Rattle.node_core.proofs.state.State.send_to.Goals as goal

pub returns-clause-fits : goal.returns-clause-fits
returns-clause-fits c = λ sayable all. rw c.send.ensures (all_push (IsSendable c.args.self.now.team.n) c.args.out.now.sends _ all (record {
  to = c.requires.to;
  fits = record { head = c.head_to-head.ensures.fits; body = sayable c.head_to-head.result c.head_to-head.ensures.from c.head_to-head.ensures.incarnation };
}))
