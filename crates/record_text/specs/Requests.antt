-- The requests of the code.
use Rattle.record_text.specs.declared.client.Request as code
use Rattle.record_text.specs.declared.client.Request.TheVariants as asked
use Rattle.tw_machine.specs.NodeRun.{Request, ToSend, ToLook, ToStop, Unknown}

abbrev pub request_seen : code.Request → Request
request_seen (asked.Send order atom payload) = ToSend order atom payload.items
request_seen asked.Look = ToLook
request_seen asked.Stop = ToStop
request_seen asked.Unknown = Unknown
