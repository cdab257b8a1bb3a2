-- It is the first one with the seats that were looked at.
use Rattle.std.proofs.Common.{◌<◌, take}
use Rattle.order_rules.specs.Next.{IsFirst}
use Rattle.update_store.specs.Stock.{IsStock}
use Rattle.order_rules.proofs.First.{with_seats}
use Rattle.order_rules.proofs.next.first_entry.Given as goal

abbrev pub invariant-loop-seat : goal.invariant-loop-seat
invariant-loop-seat l = record {
  first : IsFirst l.team l.t (with_seats (take l.seat-index l.seats) l.d) l.store.waiting.pending l.first;
  facts : 0 < l.seat-index → IsStock l.store;
}
