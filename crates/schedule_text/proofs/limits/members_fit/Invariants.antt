use Rattle.std.proofs.Common.{map, take}
use Rattle.std.specs.List.{AllByRecursion}
use Rattle.tw_machine.specs.RowLimits.{MemberFits}
use Rattle.schedule_text.proofs.limits.members_fit.Given as goal

abbrev pub invariant-loop-seat : goal.invariant-loop-seat
invariant-loop-seat l = AllByRecursion MemberFits (map (λ s. s.member) (take l.seat-index l.seats))
