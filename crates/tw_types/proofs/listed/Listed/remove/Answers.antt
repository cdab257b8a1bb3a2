use Rattle.std.proofs.Common.{◌∙◌, ap, length, remove, arith}
use Rattle.std.proofs.lemmas.List.{length-take-le}
use Rattle.tw_types.proofs.Lists.{removed_kept}
use Rattle.tw_types.proofs.listed.Listed.remove.Goals as goal

pub returns-clause-items : goal.returns-clause-items
returns-clause-items g c =
    let seen = ap (λ l. length l) c.self.view_is in
    let size = length-take-le c.self.inside.count c.self.inside.items.items c.self.invariant.1.1 in
    let below = c.requires in
    rw c.remove.ensures.items (removed_kept c.self.inside.count c.args.place c.self.inside.items.items (omega (arith, below, seen, size)) c.self.invariant.1.1 ∙ ap (λ l. remove l c.args.place) c.self.view_is)
