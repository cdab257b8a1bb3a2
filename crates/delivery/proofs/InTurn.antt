-- Who delivers one after the other delivers just what is to be delivered.
use Rattle.std.proofs.Common.{◌≡◌, refl, sym, subst, ◌∙◌, ap, ℕ, zero, suc, ◌+◌, ◌-◌, ◌≤◌, ◌<◌, List, [], ◌∷◌, length, map, max, Option, Some, None, arith}
use Rattle.tw_types.specs.declared.team.Team.{Team}
use Rattle.tw_types.specs.declared.message.Kept.{Kept}
use Rattle.tw_types.specs.declared.message.Decision.{Decision}
use Rattle.tw_types.specs.declared.outputs.How.{How}
use Rattle.tw_types.specs.declared.outputs.Pass.{Pass}
use Rattle.tw_types.specs.Beliefs.{Log, log_length}
use Rattle.tw_types.specs.Updates.{WaitInOrder, next_weak, marked}
use Rattle.tw_types.specs.Logs.{log_at, passed_one, marked_at}
use Rattle.tw_types.specs.Deliveries.{passes, run_passed, as_early, earlies, earlies_marked, weaks, weaks_marked, Deliveries, delivered_by, log_delivered, next_pass, FirstPass, PassStep, next_early, EarlyStep, FirstWeak, WeakStep}
use Rattle.tw_types.proofs.Delivered.{at_within, OneMarked, one_marked, pass_step, early_step, weak_step}
use Rattle.delivery.specs.InTurn.{IsNextPass, PassedInTurn, MarkedInTurn, WeaksInTurn, DeliveredInTurn}

-- the pass of a position with another update and position that are the same
same_pass : (i : ℕ) (k : Kept) (p : Pass) → k ≡ p.kept → p.position ≡ i → record { position = i; kept = k; how = p.how } ≡ p
same_pass i k p e f =
    ap (λ (k : Kept). record { position = i; kept = k; how = p.how }) e ∙ ap (λ (n : ℕ). record { position = n; kept = p.kept; how = p.how }) (sym f)

same_update : (log : Log) (a b : Kept) → log_at log.passed log ≡ Some a → log_at log.passed log ≡ Some b → a ≡ b
same_update log a b e f = cc

-- passes that are each the next one are all passes
pass_on : (team : Team) (d : Decision) (log : Log) (p : Pass) (ps : List Pass) (after : Log) → IsNextPass team d log p → FirstPass team d log p.how →
    (ps ≡ passes team d (passed_one log)) × (after ≡ run_passed team d (passed_one log)) → (p ∷ ps ≡ passes team d log) × (after ≡ run_passed team d log)
pass_on team d log p ps after next step more = (begins more.0 ∙ sym step.begins, more.1 ∙ sym step.goes_on)
  where
    same : record { position = log.passed; kept = step.update; how = p.how } ≡ p
    same = same_pass log.passed step.update p (same_update log step.update p.kept step.there next.update) next.position

    begins : ps ≡ passes team d (passed_one log) → p ∷ ps ≡ record { position = log.passed; kept = step.update; how = p.how } ∷ passes team d (passed_one log)
    begins e = ap (λ xs. p ∷ xs) e ∙ ap (λ x. x ∷ passes team d (passed_one log)) (sym same)

passed : (team : Team) (d : Decision) (log : Log) (ps : List Pass) (after : Log) → PassedInTurn team d log ps after → (ps ≡ passes team d log) × (after ≡ run_passed team d log)
passed team d log [] after (none, same) =
    let step = subst (PassStep team d log) none (pass_step team d log) in
    (sym step.0, same ∙ sym step.1)
passed team d log (p ∷ ps) after (next, rest) =
    pass_on team d log p ps after next (subst (PassStep team d log) next.how (pass_step team d log)) (passed team d (passed_one log) ps after rest)

-- and so for the early ones
early : (team : Team) (d : Decision) (log : Log) (from : ℕ) (ks : List Kept) (after : Log) → MarkedInTurn team d log from ks after →
    (ks ≡ earlies team d (max from log.passed) log) × (after ≡ earlies_marked team d (max from log.passed) log)
early team d log from [] after (none, same) =
    let step = subst (EarlyStep team d (max from log.passed) log) none (early_step team d (max from log.passed) log) in
    (sym step.0, same ∙ sym step.1)
early team d log from (k ∷ ks) after (m, rest) =
    let step = subst (EarlyStep team d (max from log.passed) log) m.next (early_step team d (max from log.passed) log) in
    let more = early team d (marked_at m.position log) m.again ks after rest in
    let marked = one_marked m.position step.update log step.there in
    let update : as_early step.update ≡ k = cc (marked.same, m.update) in
    let from_first = step.from in
    let not_below = m.not_below in
    let not_behind = m.not_behind in
    let cursor = marked.passed in
    let low : max from log.passed ≤ max m.again (marked_at m.position log).passed = omega (arith, not_below, cursor) in
    let high : max m.again (marked_at m.position log).passed ≤ m.position + 1 = omega (arith, not_behind, cursor, from_first) in (
      ap (λ xs. k ∷ xs) (more.0 ∙ step.behind (max m.again (marked_at m.position log).passed) low high)
          ∙ ap (λ x. x ∷ earlies team d (max from log.passed) (marked_at m.position log)) (sym update) ∙ sym step.begins,
      more.1 ∙ step.goes_on_behind (max m.again (marked_at m.position log).passed) low high ∙ sym step.goes_on,
    )

-- and for the weak ones that wait
weak : (pending ws after : List Kept) → WaitInOrder pending → WeaksInTurn pending ws after → (ws ≡ weaks pending) × (after ≡ weaks_marked pending)
weak pending [] after order (none, same) =
    let step = subst (WeakStep pending) none (weak_step pending order) in
    (sym step.0, same ∙ sym step.1)
weak pending (w ∷ ws) after order (k, next, update, rest) =
    let step = subst (WeakStep pending) next (weak_step pending order) in
    let more = weak (map (marked k.entry.id) pending) ws after step.order rest in
    (ap (λ xs. w ∷ xs) more.0 ∙ ap (λ x. x ∷ weaks (map (marked k.entry.id) pending)) update ∙ sym step.begins, more.1 ∙ sym step.goes_on)

from_cursor : (log : Log) → max log.passed log.passed ≡ log.passed
from_cursor log = omega arith

pub in_turn : (team : Team) (d : Decision) (log : Log) (pending : List Kept) (all : Deliveries) (log_after : Log) (pending_after : List Kept) →
    WaitInOrder pending → DeliveredInTurn team d log pending all log_after pending_after →
    (all ≡ delivered_by team d log pending) × ((log_after ≡ log_delivered team d log) × (pending_after ≡ weaks_marked pending))
in_turn team d log pending all log_after pending_after order t =
    let p = passed team d log all.passes t.behind t.passes in
    let e = early team d t.behind t.behind.passed all.earlies log_after t.earlies in
    let w = weak pending all.weaks pending_after order t.weaks in
    let cursor = from_cursor t.behind in
    let early_ones : all.earlies ≡ earlies team d (run_passed team d log).passed (run_passed team d log) =
    e.0 ∙ ap (λ n. earlies team d n t.behind) cursor ∙ ap (λ (l : Log). earlies team d l.passed l) p.1 in
    let after : log_after ≡ log_delivered team d log =
    e.1 ∙ ap (λ n. earlies_marked team d n t.behind) cursor ∙ ap (λ (l : Log). earlies_marked team d l.passed l) p.1 in
    let whole : all ≡ delivered_by team d log pending =
    ap (λ ps. record { passes = ps; earlies = all.earlies; weaks = all.weaks }) p.0
    ∙ ap (λ es. record { passes = passes team d log; earlies = es; weaks = all.weaks }) early_ones
    ∙ ap (λ ws. record { passes = passes team d log; earlies = earlies team d (run_passed team d log).passed (run_passed team d log); weaks = ws }) w.0 in
    (whole, (after, w.1))

-- ---- and one can always deliver so

pass_from : (team : Team) (d : Decision) (log : Log) → ((k : Kept) → log_at log.passed log ≡ Some k → PassedInTurn team d (passed_one log) (passes team d (passed_one log)) (run_passed team d (passed_one log))) →
    PassedInTurn team d log (passes team d log) (run_passed team d log)
pass_from team d log more = go (next_pass team d log) refl (pass_step team d log)
  where
    go : (o : Option How) → next_pass team d log ≡ o → PassStep team d log o → PassedInTurn team d log (passes team d log) (run_passed team d log)
    go None e step = subst (λ ps. PassedInTurn team d log ps (run_passed team d log)) (sym step.0) (e, step.1)
    go (Some how) e step = subst (λ ps. PassedInTurn team d log ps (run_passed team d log)) (sym step.begins) (
      record { how = e; position = refl; update = step.there },
      subst (PassedInTurn team d (passed_one log) (passes team d (passed_one log))) (sym step.goes_on) (more step.update step.there),
    )

pass_all : (n : ℕ) (team : Team) (d : Decision) (log : Log) → log_length log - log.passed ≡ n → PassedInTurn team d log (passes team d log) (run_passed team d log)
pass_all zero team d log e = pass_from team d log (λ k is. let within = (at_within log.passed log k is).1 in absurd (omega (arith, e, within)))
pass_all (suc n) team d log e = pass_from team d log (λ k is. pass_all n team d (passed_one log) (omega (arith, e)))

mark_from : (team : Team) (d : Decision) (log : Log) (from : ℕ) →
    ((i : ℕ) → max from log.passed ≤ i → i < log_length log → (k : Kept) → OneMarked i k log (marked_at i log) →
    MarkedInTurn team d (marked_at i log) (i + 1) (earlies team d (max (i + 1) (marked_at i log).passed) (marked_at i log)) (earlies_marked team d (max (i + 1) (marked_at i log).passed) (marked_at i log))) →
    MarkedInTurn team d log from (earlies team d (max from log.passed) log) (earlies_marked team d (max from log.passed) log)
mark_from team d log from more = go (next_early team d log from) refl (early_step team d (max from log.passed) log)
  where
    first : ℕ
    first = max from log.passed

    go : (o : Option ℕ) → next_early team d log from ≡ o → EarlyStep team d first log o → MarkedInTurn team d log from (earlies team d first log) (earlies_marked team d first log)
    go None e step = subst (λ ks. MarkedInTurn team d log from ks (earlies_marked team d first log)) (sym step.0) (e, step.1)
    go (Some i) e step =
        let new : Log = marked_at i log in
        let marked = one_marked i step.update log step.there in
        let from_first : max from log.passed ≤ i = step.from in
        let cursor = marked.passed in
        let low : max from log.passed ≤ max (i + 1) new.passed = omega (arith, from_first) in
        let high : max (i + 1) new.passed ≤ i + 1 = omega (arith, cursor, from_first) in
        let rest = more i step.from (at_within i log step.update step.there).1 step.update marked in
        let behind = subst (λ ks. MarkedInTurn team d new (i + 1) ks (earlies_marked team d (max (i + 1) new.passed) new)) (step.behind (max (i + 1) new.passed) low high) rest in
        let after = step.goes_on_behind (max (i + 1) new.passed) low high ∙ sym step.goes_on in
        subst (λ ks. MarkedInTurn team d log from ks (earlies_marked team d first log)) (sym step.begins) (
          record { position = i; next = e; update = marked.same; again = i + 1; not_below = omega (arith, from_first); not_behind = omega arith },
          subst (MarkedInTurn team d new (i + 1) (earlies team d first new)) after behind,
        )

mark_all : (n : ℕ) (team : Team) (d : Decision) (log : Log) (from : ℕ) → log_length log - max from log.passed ≤ n →
    MarkedInTurn team d log from (earlies team d (max from log.passed) log) (earlies_marked team d (max from log.passed) log)
mark_all zero team d log from e = mark_from team d log from (λ i low high k m. absurd (omega (arith, e, low, high)))
mark_all (suc n) team d log from e = mark_from team d log from (λ i low high k m.
    let same = m.length in mark_all n team d (marked_at i log) (i + 1) (omega (arith, e, low, high, same)))

weak_from : (pending : List Kept) → WaitInOrder pending → ((k : Kept) → FirstWeak pending k → WeaksInTurn (map (marked k.entry.id) pending) (weaks (map (marked k.entry.id) pending)) (weaks_marked (map (marked k.entry.id) pending))) →
    WeaksInTurn pending (weaks pending) (weaks_marked pending)
weak_from pending order more = go (next_weak pending) refl (weak_step pending order)
  where
    go : (o : Option Kept) → next_weak pending ≡ o → WeakStep pending o → WeaksInTurn pending (weaks pending) (weaks_marked pending)
    go None e step = subst (λ ws. WeaksInTurn pending ws (weaks_marked pending)) (sym step.0) (e, step.1)
    go (Some k) e step = subst (λ ws. WeaksInTurn pending ws (weaks_marked pending)) (sym step.begins) (
      k,
      e,
      refl,
      subst (WeaksInTurn (map (marked k.entry.id) pending) (weaks (map (marked k.entry.id) pending))) (sym step.goes_on) (more k step),
    )

weak_all : (n : ℕ) (pending : List Kept) → WaitInOrder pending → length (weaks pending) ≤ n → WeaksInTurn pending (weaks pending) (weaks_marked pending)
weak_all zero pending order few = weak_from pending order (λ k step. let one = ap length step.begins in absurd (omega (arith, few, one)))
weak_all (suc n) pending order few = weak_from pending order (λ k step. let one = ap length step.begins in weak_all n (map (marked k.entry.id) pending) step.order (omega (arith, few, one)))

pub always_in_turn : (team : Team) (d : Decision) (log : Log) (pending : List Kept) → WaitInOrder pending →
    DeliveredInTurn team d log pending (delivered_by team d log pending) (log_delivered team d log) (weaks_marked pending)
always_in_turn team d log pending order =
    let behind : Log = run_passed team d log in
    record {
      behind = behind;
      passes = pass_all (log_length log - log.passed) team d log refl;
      earlies = subst (λ n. MarkedInTurn team d behind behind.passed (earlies team d n behind) (earlies_marked team d n behind)) (from_cursor behind)
          (mark_all (log_length behind - max behind.passed behind.passed) team d behind behind.passed (omega arith));
      weaks = weak_all (length (weaks pending)) pending order (omega arith);
    }
