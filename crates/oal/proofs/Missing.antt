-- The first payload that is missing.
use Rattle.std.proofs.Common.{◌≡◌, refl, ◌∙◌, ap, Bool, true, false, not, ◌||◌, cond, ℕ, ◌+◌, ◌<◌, List, [], ◌∷◌, length, map, drop, get_or, Option, Some, None, find, sym, Bor}
use Rattle.std.specs.List.{list_any}
use Rattle.std.specs.Prelude.{is_some, option_copied}
use Rattle.std.proofs.lemmas.List.{at_drop_more}
use Rattle.tw_types.specs.declared.message.Entry.{Entry}
use Rattle.tw_types.specs.declared.message.Kept.{Kept}
use Rattle.tw_types.specs.declared.answer.Reason.{Reason}
use Rattle.tw_types.specs.declared.answer.Reason.TheVariants.{Missing}
use Rattle.tw_types.specs.Refusals.{first_refusal}
use Rattle.tw_types.specs.Updates.{is_named, find_update}
use Rattle.tw_types.specs.Logs.{payload_test}

-- an item passes a test exactly where one is found
any_found : {X : Type 0} (p : X → Bool) (xs : List X) → list_any p xs ≡ is_some (find p xs)
any_found p [] = refl
any_found {X = X} p (x ∷ xs) = elim (p x) as (λ b. (b || list_any p xs) ≡ is_some (cond b (Some x) (find p xs))) [ true ↦ refl | false ↦ any_found p xs ]

found_test : (payloads : List Kept) (e : Entry) → (payload_test payloads e).present ≡ not (is_some (find_update e.id payloads))
found_test payloads e = ap not (any_found (is_named e.id) payloads)

-- the first one that is missing among these
abbrev pub missing : List Kept → List Entry → Option Reason
missing payloads es = first_refusal (map (payload_test payloads) es)

-- an entry whose payload is missing is told, and one whose payload is found isn't
pub told : (payloads : List Kept) (e : Entry) (es : List Entry) → find_update e.id payloads ≡ None → missing payloads (e ∷ es) ≡ Some (Missing e.id)
told payloads e es none =
    let present : (payload_test payloads e).present ≡ true = found_test payloads e ∙ ap (λ o. not (is_some o)) none in
    ap (λ b. cond b (Some (Missing e.id)) (missing payloads es)) present

pub not_told : (payloads : List Kept) (e : Entry) (es : List Entry) (k : Kept) → find_update e.id payloads ≡ Some k → missing payloads (e ∷ es) ≡ missing payloads es
not_told payloads e es k found =
    let present : (payload_test payloads e).present ≡ false = found_test payloads e ∙ ap (λ o. not (is_some o)) found in
    ap (λ b. cond b (Some (Missing e.id)) (missing payloads es)) present

-- what is answered for the entry that a search has come to
pub told_at : (payloads : List Kept) (es : List Entry) (i : ℕ) (d : Entry) (answer : Option (Bor Kept)) → option_copied answer ≡ find_update (get_or es i d).id payloads → is_some answer ≡ false → i < length es → missing payloads (drop i es) ≡ missing payloads es → missing payloads es ≡ Some (Missing (get_or es i d).id)
told_at payloads es i d None found is_none within so_far = sym so_far ∙ at_drop_more (missing payloads) es i d within ∙ told payloads (get_or es i d) (drop (i + 1) es) (sym found)
told_at payloads es i d (Some k) found is_none within so_far = cc

pub not_told_at : (payloads : List Kept) (es : List Entry) (i : ℕ) (d : Entry) (answer : Option (Bor Kept)) → option_copied answer ≡ find_update (get_or es i d).id payloads → is_some answer ≡ true → i < length es → missing payloads (drop i es) ≡ missing payloads es → missing payloads (drop (i + 1) es) ≡ missing payloads es
not_told_at payloads es i d None found is_there within so_far = cc
not_told_at payloads es i d (Some k) found is_there within so_far =
    sym (not_told payloads (get_or es i d) (drop (i + 1) es) k.now (sym found)) ∙ sym (at_drop_more (missing payloads) es i d within) ∙ so_far
