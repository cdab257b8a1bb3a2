use Rattle.std.proofs.Common.{◌≡◌, ◌+◌, ◌*◌, length, refl, sym, ◌∙◌, arith}
use Rattle.wire_body.specs.Decisions.{decision_at}
use Rattle.wire_head.proofs.Taken.{taken, tested}
use Rattle.wire_body.proofs.Left.{filled, left_by, left_last}
use Rattle.wire_body.proofs.decisions.fill_decision.Goals as goal

pub returns : goal.returns
unfolding decision_at
returns c =
    let seats = c.as_slice-seats.ensures.value in
    let behind : c.args.place + 54 + 30 * length c.fill_seats.new.seats.items + 1 ≡ c.args.place + 55 + 30 * length c.fill_seats.new.seats.items = omega arith in
    left_by _ _ (
    taken _ c.told_positive_at.ensures c.in_ok-decision.was (
    taken _ c.told_count_at.ensures c.in_ok-decision-2.was (
    taken _ c.count_at.ensures c.in_ok-decision-3.was (
    taken _ c.time_at.ensures c.in_ok-decision-4.was (
    taken _ c.count_at-2.ensures c.in_ok-decision-5.was (
    taken _ c.mark_at.ensures c.in_ok-decision-6.was (
    taken _ refl (filled _ _ _ c.fill_seats.ensures c.in_ok-fill_seats.was) (
    tested _ _ _ _ _ _ (rw seats at c.byte_at.ensures) c.in_ok-maker.was (rw seats at (sym c.is_maker.ensures ∙ c.in_ok-where_allowed.ensures.allowed)) refl)))))))) (
    left_last _ _ _ _ _ refl (rw (seats, behind) at c.fill_window.ensures))
