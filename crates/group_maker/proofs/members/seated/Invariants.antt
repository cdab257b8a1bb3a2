use Rattle.std.proofs.Common.{◌≡◌, ◌≤◌, length}
use Rattle.tw_types.specs.Groups.{ascending}
use Rattle.group_maker.proofs.members.seated.Given as goal

abbrev pub invariant-loop-who : goal.invariant-loop-who
invariant-loop-who l = (l.seated.items ≡ ascending l.who l.reports) × (length l.seated.items ≤ l.who)
