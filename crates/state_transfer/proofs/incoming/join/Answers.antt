use Rattle.std.proofs.Common.{◌≡◌, false, Some, sym, ap, ◌∙◌, arith}
use Rattle.std.proofs.lemmas.Bool.Decides.{nat_tests}
use Rattle.tw_types.specs.Collections.{Collection}
use Rattle.state_transfer.specs.Incoming.{is_kept}
use Rattle.state_transfer.proofs.Collected.{begins, joins_none}
use Rattle.state_transfer.proofs.incoming.join.Goals as goal

pub returns-then-not-is_kept-clause-joined : goal.returns-then-not-is_kept-clause-joined
returns-then-not-is_kept-clause-joined c p room is =
    let other : is_kept c.args.kept.now c.args.of ≡ false = grind (arith, nat_tests, c.is_kept.ensures, c.if-not-is_kept.true) in
    ap (λ (x : Collection). Some x) (begins c.args.of p room is ∙ sym (joins_none c.args.kept.now c.args.of p c.args.marks.now room is other))
