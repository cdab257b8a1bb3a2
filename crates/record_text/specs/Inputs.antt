-- The inputs of the code.
use Rattle.tw_machine.specs.Record as record_
use Rattle.record_text.specs.declared.input.Input.{Input}
use Rattle.record_text.specs.declared.input.Input.TheVariants as lent

abbrev pub input_seen : Input → record_.Input
input_seen lent.Tick = record_.Input.Tick
input_seen (lent.Packet bytes) = record_.Input.Packet bytes.now
input_seen (lent.Reference lo hi) = record_.Input.Reference lo hi
input_seen (lent.Send order atom payload) = record_.Input.Send order atom payload.now
input_seen lent.Look = record_.Input.Look
