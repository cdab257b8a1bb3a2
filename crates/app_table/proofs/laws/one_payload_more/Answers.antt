use Rattle.app_table.proofs.Contents.{one_more, some_more}
use Rattle.app_table.proofs.laws.one_payload_more.Goals as goal

pub returns-clause-one : goal.returns-clause-one
returns-clause-one g c content payloads payload = one_more g.A.Machine.after content payloads payload

pub returns-clause-some : goal.returns-clause-some
returns-clause-some g c content payloads others = some_more g.A.Machine.after content payloads others
