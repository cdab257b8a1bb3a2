-- The payloads that are missing: how the first is found, and what it objects.
use Rattle.std.proofs.Common.{◌≡◌, refl, ◌∙◌, ap, sym, Bool, true, false, not, ◌||◌, cond, ℕ, ◌+◌, ◌<◌, List, [], ◌∷◌, ◌++◌, length, map, drop, get_or, Option, Some, None, find, Bor}
use Rattle.std.specs.List.{list_any}
use Rattle.std.specs.Prelude.{is_some, option_copied}
use Rattle.std.specs.Option.{option_map, option_or}
use Rattle.std.proofs.lemmas.List.{at_drop_more}
use Rattle.tw_types.specs.declared.message.Entry.{Entry}
use Rattle.tw_types.specs.declared.message.Kept.{Kept}
use Rattle.tw_types.specs.declared.answer.Reason.{Reason}
use Rattle.tw_types.specs.Refusals.{first_refusal}
use Rattle.tw_types.specs.Updates.{is_named, find_update, has_update}
use Rattle.tw_types.specs.Logs.{payload_test}
use Rattle.tw_types.specs.Groups.{Objection, first_objection, payload_objection}
use Rattle.tw_types.specs.Groups.NoGroup.{Missing}

-- an entry's payload is missing among these
abbrev pub is_missing : List Kept → Entry → Bool
is_missing payloads e = not (has_update e.id payloads)

-- the first entry whose payload is
abbrev pub missing : List Kept → List Entry → Option Entry
missing payloads es = find (is_missing payloads) es

-- an item passes a test exactly where one is found
any_found : {X : Type 0} (p : X → Bool) (xs : List X) → list_any p xs ≡ is_some (find p xs)
any_found p [] = refl
any_found {X = X} p (x ∷ xs) = elim (p x) as (λ b. (b || list_any p xs) ≡ is_some (cond b (Some x) (find p xs))) [ true ↦ refl | false ↦ any_found p xs ]

by_found : (payloads : List Kept) (e : Entry) → is_missing payloads e ≡ not (is_some (find_update e.id payloads))
by_found payloads e = ap not (any_found (is_named e.id) payloads)

-- ---- the search

told : (payloads : List Kept) (e : Entry) (es : List Entry) → find_update e.id payloads ≡ None → missing payloads (e ∷ es) ≡ Some e
told payloads e es none =
    let is : is_missing payloads e ≡ true = by_found payloads e ∙ ap (λ o. not (is_some o)) none in
    ap (λ b. cond b (Some e) (missing payloads es)) is

not_told : (payloads : List Kept) (e : Entry) (es : List Entry) (k : Kept) → find_update e.id payloads ≡ Some k → missing payloads (e ∷ es) ≡ missing payloads es
not_told payloads e es k found =
    let is : is_missing payloads e ≡ false = by_found payloads e ∙ ap (λ o. not (is_some o)) found in
    ap (λ b. cond b (Some e) (missing payloads es)) is

-- what is answered for the entry that a search has come to
pub told_at : (payloads : List Kept) (es : List Entry) (i : ℕ) (d : Entry) (answer : Option (Bor Kept)) → option_copied answer ≡ find_update (get_or es i d).id payloads → is_some answer ≡ false → i < length es → missing payloads (drop i es) ≡ missing payloads es → missing payloads es ≡ Some (get_or es i d)
told_at payloads es i d None found is_none within so_far = sym so_far ∙ at_drop_more (missing payloads) es i d within ∙ told payloads (get_or es i d) (drop (i + 1) es) (sym found)
told_at payloads es i d (Some k) found is_none within so_far = cc

pub not_told_at : (payloads : List Kept) (es : List Entry) (i : ℕ) (d : Entry) (answer : Option (Bor Kept)) → option_copied answer ≡ find_update (get_or es i d).id payloads → is_some answer ≡ true → i < length es → missing payloads (drop i es) ≡ missing payloads es → missing payloads (drop (i + 1) es) ≡ missing payloads es
not_told_at payloads es i d None found is_there within so_far = cc
not_told_at payloads es i d (Some k) found is_there within so_far =
    sym (not_told payloads (get_or es i d) (drop (i + 1) es) k.now (sym found)) ∙ sym (at_drop_more (missing payloads) es i d within) ∙ so_far

-- ---- what follows

-- of these objections the first one that is there is that of the first payload that is missing
pub objected : (payloads : List Kept) (es : List Entry) (others : List Objection)
    → first_objection (map (payload_objection payloads) es ++ others) ≡ option_or (option_map Missing (option_map (λ (e : Entry). e.id) (missing payloads es))) (first_objection others)
objected payloads [] others = refl
objected payloads (e ∷ es) others =
    elim (is_missing payloads e) as (λ b. cond b (Some (Missing e.id)) (first_objection (map (payload_objection payloads) es ++ others))
    ≡ option_or (option_map Missing (option_map (λ (e : Entry). e.id) (cond b (Some e) (missing payloads es)))) (first_objection others)) [
      | true ↦ refl
      | false ↦ objected payloads es others
    ]

-- nothing refuses where none is
pub none_refused : (payloads : List Kept) (es : List Entry) → option_map (λ (e : Entry). e.id) (missing payloads es) ≡ None → first_refusal (map (payload_test payloads) es) ≡ None
none_refused payloads [] none = refl
none_refused payloads (e ∷ es) none = go (is_missing payloads e) none (λ rest. none_refused payloads es rest)
  where
    go : (b : Bool) → option_map (λ (e : Entry). e.id) (cond b (Some e) (missing payloads es)) ≡ None
        → (option_map (λ (e : Entry). e.id) (missing payloads es) ≡ None → first_refusal (map (payload_test payloads) es) ≡ None)
        → cond b (Some (Reason.Missing e.id)) (first_refusal (map (payload_test payloads) es)) ≡ None
    go true none rest = cc
    go false none rest = rest none
