-- With those of the seats to come it is the least of all.
use Rattle.std.proofs.Common.{◌≡◌, min, drop}
use Rattle.std.specs.List.{reduce}
use Rattle.tw_types.specs.Turns.{acks}
use Rattle.decider.proofs.Least.{joined}
use Rattle.decider.proofs.making.least_ack.Given as goal

abbrev pub invariant-loop-seat : goal.invariant-loop-seat
invariant-loop-seat l = joined l.least (acks (drop l.seat-index l.seats)) ≡ reduce min (acks l.seats)
