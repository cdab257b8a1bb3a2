-- Same deliveries in one group: passes agree, and each update is delivered once.
use Rattle.std.proofs.Common.{List}
use Rattle.tw_machine.specs.Types.{Step, Team}
use Rattle.tw_types.specs.Team.{IsSound}
use Rattle.tw_machine.specs.Applied.{Meaning}
use Rattle.tw_machine.specs.Rows.{rows_of}
use Rattle.tw_machine.specs.SafeRows.{SameDeliveries}
use Rattle.tw_machine.specs.World.{Admissible}
use Rattle.safety_laws.proofs.OnceLaws.{delivered_once}
use Rattle.safety_laws.proofs.PassesAgree.{same_passes}
use Rattle.safety_laws.proofs.RowsOnce.{rows_once, early_before}

-- in every schedule
pub deliver_alike : {Content : Type 0} (meaning : Meaning Content) (team : Team) (past : List Step) → IsSound team → Admissible team past → SameDeliveries (rows_of meaning team past)
deliver_alike meaning team past sound ok = record {
  passes = same_passes meaning team past sound ok;
  once = rows_once meaning team past sound ok (delivered_once team past sound ok);
  early_before = early_before meaning team past sound ok (delivered_once team past sound ok);
}
