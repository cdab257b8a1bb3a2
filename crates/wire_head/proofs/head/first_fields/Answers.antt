use Rattle.std.proofs.Common.{◌≡◌, true, refl, rules}
use Rattle.wire_head.specs.Reading.{head_at, is_kind}
use Rattle.wire_head.proofs.Taken.{taken, tested, passed}
use Rattle.wire_head.proofs.head.first_fields.Goals as goal

pub returns-clause-exact : goal.returns-clause-exact
unfolding head_at
returns-clause-exact c =
    let kind : is_kind c.in_ok-kind.kind ≡ true = search rules in
    tested _ _ _ _ _ _ c.byte_at.ensures c.in_ok-version.was (passed _ _ c.fault_unless.ensures c.in_ok-fault_unless.was) (
    tested _ _ _ _ _ _ c.byte_at-2.ensures c.in_ok-kind.was kind (
    tested _ _ _ _ _ _ c.u32_at.ensures c.in_ok-line.was (passed _ _ c.fault_unless-3.ensures c.in_ok-fault_unless-3.was) (
    taken _ c.byte_at-3.ensures c.in_ok-from.was (
    taken _ c.byte_at-4.ensures c.in_ok-to.was (
    taken _ c.count_at.ensures c.in_ok-incarnation.was (
    taken _ c.count_at-2.ensures c.in_ok-sent.was (
    taken _ c.byte_to.ensures c.in_ok-flags.was (
    taken _ c.interval_if.ensures c.in_ok-interval.was (
    taken _ c.echo_if.ensures c.in_ok-echo.was refl)))))))))
