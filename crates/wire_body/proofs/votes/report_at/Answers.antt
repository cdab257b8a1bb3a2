use Rattle.std.proofs.Common.{◌≡◌, refl, sym, ◌∙◌, rules}
use Rattle.std.specs.Option.{option_map}
use Rattle.tw_types.specs.declared.message.Member.{Member}
use Rattle.wire_body.specs.Votes.{report_at}
use Rattle.wire_head.proofs.Taken.{taken, tested}
use Rattle.wire_body.proofs.votes.report_at.Goals as goal

pub returns : goal.returns
unfolding report_at
returns c =
    let told : c.map-told_incarnation.result ≡ option_map (λ (m : Member). m.incarnation) c.args.told = search rules in
    rw c.kind_from.ensures (
    tested _ _ _ _ _ _ c.byte_at.ensures c.in_ok-who.was (sym c.is_reporter.ensures ∙ c.in_ok-where_allowed.ensures.allowed) (
    taken _ (rw told at c.told_count_at.ensures) c.in_ok-incarnation.was (
    taken _ (rw c.last_kind.ensures at c.byte_to.ensures) c.in_ok-kind.was (
    tested _ _ _ _ _ _ c.u64_at.ensures c.in_ok-group.was (sym c.is_reported_group.ensures ∙ c.in_ok-where_allowed-2.ensures.allowed) (
    taken _ c.count_at.ensures c.in_ok-turn.was (
    taken _ c.count_at-2.ensures c.in_ok-length.was (
    taken _ c.support_at.ensures c.in_ok-support.was (
    taken _ c.count_at-3.ensures c.in_ok-reading.was refl))))))))
