use Rattle.std.proofs.Common.{◌≡◌, [], ◌∷◌, map, take}
use Rattle.tw_types.specs.Appending.{raised}
use Rattle.order_rules.proofs.appending.raised.Given as goal

abbrev pub invariant-loop-seat : goal.invariant-loop-seat
invariant-loop-seat l = l.all.items ≡ map (raised (l.entry ∷ [])) (take l.seat-index l.seats)
