use Rattle.std.proofs.Common.{◌∙◌, sym, arith}
use Rattle.world.proofs.Worlds.{there, world_cause}
use Rattle.world.proofs.world.World.refusal.Goals as goal

pub returns : goal.returns
returns c = λ team past stands.
    let at = there c.args.self.now.processes.items c.from.result c.args.step.now.who c.index-node.result.now (omega arith) (omega (arith, c.args.self.now.each)) c.index-node.ensures in
    c.refusal.ensures ∙ sym (world_cause team past c.args.self.now c.args.step.now c.index-node.result.now c.may_receive-received.result stands at (c.may_receive-received.ensures team.line _ stands.sent.spelled))
