-- A list that grows by the entries of a decision that fits it.
use Rattle.std.proofs.Common.{◌≡◌, refl, sym, ◌∙◌, ap, ℕ, ◌+◌, ◌-◌, ◌<◌, ◌≤◌, ◌^◌, nat_lt, Bool, true, false, ◌||◌, cond, List, [], ◌∷◌, ◌++◌, length, take, get_or, filter_map, Option, Some, None, suc, arith, length-append, length-drop}
use Rattle.std.specs.List.{cons_option}
use Rattle.std.specs.Option.{option_map}
use Rattle.std.proofs.lemmas.Bool.Decides.{nat_tests}
use Rattle.std.proofs.lemmas.List.{take_more, append-nil, length-take-le}
use Rattle.std.proofs.lemmas.List.Elements.{filter_map-append}
use Rattle.tw_types.specs.declared.message.Entry.{Entry}
use Rattle.tw_types.specs.declared.message.Kept.{Kept}
use Rattle.tw_types.specs.declared.message.Decision.{Decision}
use Rattle.tw_types.specs.declared.answer.Reason.TheVariants.{Gap, Behind, Missing}
use Rattle.tw_types.specs.Beliefs.{Log, log_length}
use Rattle.tw_types.specs.Decisions.{decision_length}
use Rattle.tw_types.specs.Refusals.{first_refusal}
use Rattle.tw_types.specs.Updates.{find_update}
use Rattle.tw_types.specs.Waiting.{entries_from}
use Rattle.tw_types.specs.Logs.{fit_tests_at, entry_joined, log_after}
use Rattle.oal.specs.Recent.{Recent, newest, grown, recent_after}
use Rattle.oal.specs.StandsFor.{StandsFor}
use Rattle.oal.proofs.Missing.{missing, told, not_told}
use Rattle.oal.proofs.Newest.{newest_joined, grown_twice}

-- what a decision that fits is
pub record Fitting (end passed : ℕ) (payloads : List Kept) (d : Decision) : Type 0 where
  pub low : d.low ≤ end
  pub reaches : end ≤ decision_length d
  pub near : decision_length d ≤ passed + 64
  pub there : missing payloads (entries_from end d) ≡ None

pub fitting : (end passed : ℕ) (payloads : List Kept) (d : Decision) → first_refusal (fit_tests_at end passed payloads d) ≡ None → Fitting end passed payloads d
fitting end passed payloads d = go (nat_lt end d.low || nat_lt (decision_length d) end) (nat_lt (passed + 64) (decision_length d)) refl refl
  where
    go : (a b : Bool) → (nat_lt end d.low || nat_lt (decision_length d) end) ≡ a → nat_lt (passed + 64) (decision_length d) ≡ b → cond a (Some Gap) (cond b (Some Behind) (missing payloads (entries_from end d))) ≡ None → Fitting end passed payloads d
    go true b e f none = cc
    go false true e f none = cc
    go false false e f none = record { low = search (arith, nat_tests); reaches = search (arith, nat_tests); near = search (arith, nat_tests); there = none }

-- no more entries join than there are, and as many where no payload is missing
pub joined_at_most : (payloads : List Kept) (es : List Entry) → length (filter_map (entry_joined payloads) es) ≤ length es
joined_at_most payloads [] = omega arith
joined_at_most payloads (e ∷ es) = go (entry_joined payloads e) (joined_at_most payloads es)
  where
    go : (o : Option Kept) → length (filter_map (entry_joined payloads) es) ≤ length es → length (cons_option o (filter_map (entry_joined payloads) es)) ≤ length (e ∷ es)
    go None h = omega arith
    go (Some k) h = omega arith

joined_by : (payloads : List Kept) (e : Entry) (found : Option Kept) → find_update e.id payloads ≡ found → entry_joined payloads e ≡ option_map (λ (k : Kept). record k { entry = e }) found
joined_by payloads e found is = ap (option_map (λ (k : Kept). record k { entry = e })) is

pub all_joined : (payloads : List Kept) (es : List Entry) → missing payloads es ≡ None → length (filter_map (entry_joined payloads) es) ≡ length es
all_joined payloads [] none = refl
all_joined payloads (e ∷ es) none = go (find_update e.id payloads) refl (all_joined payloads es)
  where
    go : (found : Option Kept) → find_update e.id payloads ≡ found → (missing payloads es ≡ None → length (filter_map (entry_joined payloads) es) ≡ length es) → length (cons_option (entry_joined payloads e) (filter_map (entry_joined payloads) es)) ≡ length (e ∷ es)
    go None is later = let is_told : missing payloads (e ∷ es) ≡ Some (Missing e.id) = told payloads e es is in cc
    go (Some k) is later =
        ap (λ o. length (cons_option o (filter_map (entry_joined payloads) es))) (joined_by payloads e (Some k) is) ∙ ap suc (later (sym (not_told payloads e es k is) ∙ none))

-- the entry that a loop has come to
taken : (payloads : List Kept) (es : List Entry) (i : ℕ) (d : Entry) → i < length es → filter_map (entry_joined payloads) (take (i + 1) es) ≡ filter_map (entry_joined payloads) (take i es) ++ cons_option (entry_joined payloads (get_or es i d)) []
taken payloads es i d within =
    ap (filter_map (entry_joined payloads)) (take_more es i d within) ∙ filter_map-append (entry_joined payloads) (take i es) (get_or es i d ∷ [])

pub none_more : (payloads : List Kept) (es : List Entry) (i : ℕ) (d : Entry) (o now : Recent) → None ≡ find_update (get_or es i d).id payloads → i < length es → now ≡ grown (filter_map (entry_joined payloads) (take i es)) o → now ≡ grown (filter_map (entry_joined payloads) (take (i + 1) es)) o
none_more payloads es i d o now none within so_far =
    let before : List Kept = filter_map (entry_joined payloads) (take i es) in
    let same : filter_map (entry_joined payloads) (take (i + 1) es) ≡ before = taken payloads es i d within ∙ ap (λ o. before ++ cons_option o []) (joined_by payloads (get_or es i d) None (sym none)) ∙ append-nil before in
    so_far ∙ ap (λ ks. grown ks o) (sym same)

pub one_more : (payloads : List Kept) (es : List Entry) (i : ℕ) (d : Entry) (o now : Recent) (k found : Kept) → k ≡ found → Some found ≡ find_update (get_or es i d).id payloads → i < length es → now ≡ grown (filter_map (entry_joined payloads) (take i es)) o → grown (record k { entry = get_or es i d } ∷ []) now ≡ grown (filter_map (entry_joined payloads) (take (i + 1) es)) o
one_more payloads es i d o now k found same is within so_far =
    let before : List Kept = filter_map (entry_joined payloads) (take i es) in
    let joined : Kept = record k { entry = get_or es i d } in
    let more : filter_map (entry_joined payloads) (take (i + 1) es) ≡ before ++ joined ∷ [] = taken payloads es i d within ∙ ap (λ o. before ++ cons_option o []) (joined_by payloads (get_or es i d) (Some k) (sym is ∙ ap Some (sym same))) in
    ap (grown (joined ∷ [])) so_far ∙ grown_twice before (joined ∷ []) o ∙ ap (λ ks. grown ks o) (sym more)

-- there is room for it
pub room : (payloads : List Kept) (d : Decision) (i : ℕ) (o now : Recent) → d.low < 2 ^ 61 → length d.window.items ≤ 32 → first_refusal (fit_tests_at o.length o.passed payloads d) ≡ None → i < length (entries_from o.length d) → now ≡ grown (filter_map (entry_joined payloads) (take i (entries_from o.length d))) o → (now.length < now.passed + 64) × (now.length < 2 ^ 62)
room payloads d i o now low few fits within so_far =
    let es : List Entry = entries_from o.length d in
    let f : Fitting o.length o.passed payloads d = fitting o.length o.passed payloads d fits in
    let rest : length es ≡ length d.window.items - (o.length - d.low) = length-drop (o.length - d.low) d.window.items in
    let joined : length (filter_map (entry_joined payloads) (take i es)) ≤ length (take i es) = joined_at_most payloads (take i es) in
    let first : length (take i es) ≡ i = length-take-le i es (omega arith) in
    let end : now.length ≡ o.length + length (filter_map (entry_joined payloads) (take i es)) = ap (λ (r : Recent). r.length) so_far in
    let passed : now.passed ≡ o.passed = ap (λ (r : Recent). r.passed) so_far in
    let near : decision_length d ≤ o.passed + 64 = f.near in
    let below : d.low ≤ o.length = f.low in
    (omega arith, omega arith)

-- what it is at the end
pub whole_length : (payloads : List Kept) (d : Decision) (o : Recent) → first_refusal (fit_tests_at o.length o.passed payloads d) ≡ None → (recent_after payloads d o).length ≡ decision_length d
whole_length payloads d o fits =
    let es : List Entry = entries_from o.length d in
    let f : Fitting o.length o.passed payloads d = fitting o.length o.passed payloads d fits in
    let rest : length es ≡ length d.window.items - (o.length - d.low) = length-drop (o.length - d.low) d.window.items in
    let joined : length (filter_map (entry_joined payloads) es) ≡ length es = all_joined payloads es f.there in
    let below : d.low ≤ o.length = f.low in
    let reaches : o.length ≤ decision_length d = f.reaches in
    omega arith

pub stands_after : (payloads : List Kept) (d : Decision) (o : Recent) (log : Log) → StandsFor o log → StandsFor (recent_after payloads d o) (log_after payloads d log)
stands_after payloads d o log s =
    let more : List Kept = filter_map (entry_joined payloads) (entries_from o.length d) in
    let same : filter_map (entry_joined payloads) (entries_from (log_length log) d) ≡ more = ap (λ n. filter_map (entry_joined payloads) (entries_from n d)) (sym s.length) in
    let all : length (log.entries ++ more) ≡ length log.entries + length more = length-append log.entries more in
    let end : o.length ≡ log.base + length log.entries = s.length in
    let longer : o.length + length more ≡ log.base + length (log.entries ++ more) = omega arith in
    record {
      length = longer ∙ ap (λ ks. log.base + length (log.entries ++ ks)) (sym same);
      passed = s.passed;
      kept = ap (λ ks. newest (ks ++ more)) s.kept ∙ newest_joined log.entries more ∙ ap (λ ks. newest (log.entries ++ ks)) (sym same);
    }
