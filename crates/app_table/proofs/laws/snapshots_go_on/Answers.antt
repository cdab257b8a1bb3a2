use Rattle.app_table.proofs.Contents.{goes_on, stands, restored}
use Rattle.app_table.proofs.laws.snapshots_go_on.Goals as goal

pub returns-clause-goes_on : goal.returns-clause-goes_on
returns-clause-goes_on g c start payloads others is all = let m = g.A.Machine in goes_on m.is_content m.empty m.after m.snapshot_of m.stood_for g.met.A.Machine.laws start payloads others is all

pub returns-clause-stands : goal.returns-clause-stands
returns-clause-stands g c start payloads is all = let m = g.A.Machine in stands m.is_content m.empty m.after m.snapshot_of m.stood_for g.met.A.Machine.laws start payloads is all

pub returns-clause-restored : goal.returns-clause-restored
returns-clause-restored g c content other payloads is found = let m = g.A.Machine in restored m.is_content m.empty m.after m.snapshot_of m.stood_for g.met.A.Machine.laws content other payloads is found
