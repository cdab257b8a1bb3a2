-- The first checks' answers, as the reasons that a dropped packet has.
use Rattle.std.specs.Prelude.{Bool, true, false}
use Rattle.tw_types.specs.declared.answer.Reason.{Reason}
use Rattle.tw_types.specs.declared.answer.Reason.TheVariants.{Old, NotMember, Promised}
use Rattle.decider.specs.declared.taking.Path.{Path}
use Rattle.decider.specs.declared.taking.Path.TheVariants.{Take, Follow}
use Rattle.decider.specs.declared.taking.TakeFault.{TakeFault}
use Rattle.decider.specs.declared.taking.TakeFault.TheVariants as faults

abbrev pub take_reason : TakeFault → Reason
take_reason faults.Old = Old
take_reason faults.NotMember = NotMember
take_reason (faults.Promised group) = Promised group

-- whether a decision is followed
abbrev pub path_of : Bool → Path
path_of true = Follow
path_of false = Take
