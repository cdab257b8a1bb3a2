-- The seats so far.
use Rattle.std.proofs.Common.{◌≡◌, map, take}
use Rattle.tw_types.specs.Turns.{supported}
use Rattle.decider.proofs.making.with_support.Given as goal

abbrev pub invariant-loop-seat : goal.invariant-loop-seat
invariant-loop-seat l = l.all.items ≡ map (supported l.who l.support) (take l.seat-index l.seats)
