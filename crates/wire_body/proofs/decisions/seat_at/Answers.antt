use Rattle.std.proofs.Common.{◌≡◌, true, refl, rules}
use Rattle.wire_body.specs.Decisions.{seat_at, is_above}
use Rattle.wire_head.proofs.Taken.{taken, tested}
use Rattle.wire_body.proofs.decisions.seat_at.Goals as goal

pub returns : goal.returns
unfolding seat_at
returns c =
    let above : is_above c.args.n c.args.before.now c.in_ok-who.who ≡ true = search rules in
    tested _ _ _ _ _ _ c.byte_at.ensures c.in_ok-who.was above (
    taken _ c.count_at.ensures c.in_ok-incarnation.was (
    tested _ _ _ _ _ _ c.u32_at.ensures c.in_ok-next.was c.in_ok-where_allowed-2.ensures.allowed (
    taken _ c.support_at.ensures c.in_ok-support.was refl)))
