-- One seat more was looked at.
use Rattle.order_rules.proofs.First.{one_seat_more}
use Rattle.order_rules.proofs.next.first_entry.Goals as goal

pub loop-seat-preserved : goal.loop-seat-preserved
loop-seat-preserved c = record {
  first = one_seat_more c.args.team.now c.args.t c.args.d.now c.args.store.now.waiting.pending c.deref-seats.result.now c.loop-seat.seat-index _ c.loop-seat.first c.ripe_at.result c.earlier-first.result c.loop-seat-test.true c.ripe_at.ensures.facts.order c.loop-seat.invariant.first c.ripe_at.ensures.exact c.earlier-first.ensures;
  facts = λ _. c.ripe_at.ensures.facts;
}
