use Rattle.std.proofs.Common.{◌∙◌, sym, ap, [], ◌∷◌, ◌++◌, arith}
use Rattle.tw_types.specs.declared.message.Kept.{Kept}
use Rattle.tw_types.specs.Waiting.{marked_early}
use Rattle.tw_types.specs.Deliveries.{as_early}
use Rattle.node_core.proofs.InTurn.{no_weaks, one_weak, fewer_weaks, weaks_room, all_weaks, weaks_left}
use Rattle.node_core.proofs.delivering.deliver_weaks.Goals as goal

pub loop-kept-init : goal.loop-kept-init
loop-kept-init c = no_weaks c.args.store.now c.args.out.now

pub push-requires : goal.push-requires
push-requires c = (omega arith, weaks_room c.args.store.now c.loop-kept.store c.args.out.now c.loop-kept.out c.in-Some.kept.now c.loop-kept.invariant c.in-Some.ensures.facts (sym c.in-Some.ensures.exact) c.requires.room)

pub loop-kept-smaller : goal.loop-kept-smaller
loop-kept-smaller c = fewer_weaks c.loop-kept.store c.mark_early.new.self c.in-Some.kept.now c.in-Some.ensures.facts (sym c.in-Some.ensures.exact)
    (c.mark_early.ensures ∙ ap (λ (k : Kept). record (c.loop-kept.store) { waiting = marked_early k.entry.id c.loop-kept.store.waiting }) c.copy.ensures)

pub loop-kept-preserved : goal.loop-kept-preserved
loop-kept-preserved c = one_weak c.args.store.now c.loop-kept.store c.mark_early.new.self c.args.out.now c.loop-kept.out c.push.new.self c.in-Some.kept.now c.loop-kept.invariant c.in-Some.ensures.facts (sym c.in-Some.ensures.exact)
    (c.mark_early.ensures ∙ ap (λ (k : Kept). record (c.loop-kept.store) { waiting = marked_early k.entry.id c.loop-kept.store.waiting }) c.copy.ensures)
    (c.push.ensures ∙ ap (λ (k : Kept). c.loop-kept.out ++ as_early k ∷ []) c.copy.ensures)

pub returns-clause-store : goal.returns-clause-store
returns-clause-store c = weaks_left c.args.store.now c.loop-kept.store c.args.out.now c.loop-kept.out c.loop-kept.invariant c.in_default.ensures.facts (sym c.in_default.ensures.exact)

pub returns-clause-out : goal.returns-clause-out
returns-clause-out c = all_weaks c.args.store.now c.loop-kept.store c.args.out.now c.loop-kept.out c.loop-kept.invariant c.in_default.ensures.facts (sym c.in_default.ensures.exact)
