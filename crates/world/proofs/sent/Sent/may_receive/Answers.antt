use Rattle.world.proofs.Bytes.{receives}
use Rattle.world.proofs.sent.Sent.may_receive.Goals as goal

pub returns-in-Recv : goal.returns-in-Recv
returns-in-Recv c = λ line sent e. receives line c.args.self.now.bytes.items c.args.self.now.places.items sent c.args.step.now c.args.step.now.act c.in-Recv.number _ e c.in-Recv.is c.is_to.ensures
