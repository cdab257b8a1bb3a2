use Rattle.std.proofs.Common.{subst}
use Rattle.schedule_text.specs.Puts.{Puts}
use Rattle.node_loop.proofs.Texts.{put_whole}
use Rattle.node_loop.proofs.event.record.Goals as goal

pub returns-in-Ok : goal.returns-in-Ok
returns-in-Ok g c =
    subst (λ text. Puts (g.K.Sink.taken c.args.sink.now) (g.K.Sink.taken c.put_all.new.sink) (g.K.Sink.faults c.args.sink.now) (g.K.Sink.faults c.put_all.new.sink) c.put_all.result text)
    (rw c.bytes.ensures (put_whole c.in-Ok.field-0 _ _ _ _ _ c.write_event.result c.in-Ok.is c.clear.ensures.text c.write_event.ensures.text)) c.put_all.ensures
