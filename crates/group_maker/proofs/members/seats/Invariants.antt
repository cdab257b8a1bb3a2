use Rattle.std.proofs.Common.{◌≡◌, ◌≤◌, map, take, length}
use Rattle.tw_types.specs.Groups.{seat_of}
use Rattle.group_maker.proofs.members.seats.Given as goal

abbrev pub invariant-loop-report : goal.invariant-loop-report
invariant-loop-report l = (l.seats.items ≡ map (seat_of l.best l.me l.t) (take l.report-index l.members)) × (length l.seats.items ≤ l.report-index)
