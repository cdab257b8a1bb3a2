-- Entries are added one after the other, until nothing follows.
use Rattle.std.proofs.Common.{◌≡◌, [], ◌∷◌, length, subst, sym, arith}
use Rattle.tw_types.specs.Ranges.{Ascends}
use Rattle.tw_types.specs.declared.message.Decision.{Decision}
use Rattle.order_rules.proofs.Fits.{still_ascends}
use Rattle.order_rules.proofs.Grown.{Grown, not_grown, grown_more, number_left, same_seats, appended, listed}
use Rattle.order_rules.proofs.appending.append.Goals as goal

pub loop-entry-init : goal.loop-entry-init
loop-entry-init c = record { grown = not_grown c.args.team.now c.args.t c.args.passed c.args.store.now.waiting.pending c.args.d.now; ascends = c.requires }

pub add-requires-clause-next : goal.add-requires-clause-next
add-requires-clause-next c =
    number_left c.args.team.now c.args.t c.loop-entry.d c.args.store.now.waiting.pending c.in-Some.entry c.loop-entry.invariant.ascends (λ some. (c.in-Some.ensures.facts some).numbers) c.in-Some.ensures.next.next

pub loop-entry-preserved : goal.loop-entry-preserved
loop-entry-preserved c =
    let left = number_left c.args.team.now c.args.t c.loop-entry.d c.args.store.now.waiting.pending c.in-Some.entry c.loop-entry.invariant.ascends (λ some. (c.in-Some.ensures.facts some).numbers) c.in-Some.ensures.next.next in
    record {
      grown = subst (Grown c.args.team.now c.args.t c.args.passed c.args.store.now.waiting.pending c.args.d.now) (sym c.add.ensures) (grown_more c.args.team.now c.args.t c.args.passed c.args.store.now.waiting.pending c.args.d.now c.loop-entry.d c.in-Some.entry c.loop-entry.invariant.ascends left c.loop-entry.invariant.grown c.in-Some.ensures.next);
      ascends = subst (λ (d : Decision). Ascends d.seats.items) (sym c.add.ensures) (still_ascends (c.in-Some.entry ∷ []) c.loop-entry.d c.loop-entry.invariant.ascends);
    }

pub returns-clause-exact : goal.returns-clause-exact
returns-clause-exact c =
    let same : length c.loop-entry.d.seats.items ≡ length c.args.d.now.seats.items = same_seats c.args.team.now c.args.t c.args.passed c.args.store.now.waiting.pending c.args.d.now c.loop-entry.d c.loop-entry.invariant.grown in
    appended c.args.team.now c.args.t c.args.passed c.args.store.now.waiting.pending c.args.d.now c.loop-entry.d c.requires (λ some. (c.in_default.ensures.facts (omega arith)).order) c.loop-entry.invariant.grown c.in_default.ensures.next

pub returns-clause-listed : goal.returns-clause-listed
returns-clause-listed c =
    let same : length c.loop-entry.d.seats.items ≡ length c.args.d.now.seats.items = same_seats c.args.team.now c.args.t c.args.passed c.args.store.now.waiting.pending c.args.d.now c.loop-entry.d c.loop-entry.invariant.grown in
    listed c.args.team.now c.args.t c.args.passed c.args.store.now.waiting.pending c.args.d.now c.loop-entry.d c.requires (λ some. (c.in_default.ensures.facts (omega arith)).order) c.loop-entry.invariant.grown c.in_default.ensures.next

pub returns-clause-fits : goal.returns-clause-fits
returns-clause-fits c = c.loop-entry.invariant.grown.fits
