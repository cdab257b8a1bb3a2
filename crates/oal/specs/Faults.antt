-- Why a decision doesn't fit the list, as the reasons that a dropped packet has.
use Rattle.tw_types.specs.declared.answer.Reason.{Reason}
use Rattle.tw_types.specs.declared.answer.Reason.TheVariants.{Gap, Behind, Missing}
use Rattle.oal.specs.declared.list.ExtendFault.{ExtendFault}
use Rattle.oal.specs.declared.list.ExtendFault.TheVariants as faults

abbrev pub extend_reason : ExtendFault → Reason
extend_reason faults.Gap = Gap
extend_reason faults.Behind = Behind
extend_reason (faults.Missing id) = Missing id
