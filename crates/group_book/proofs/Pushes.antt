-- The best of reports, as one more of them comes.
use Rattle.std.proofs.Common.{◌≡◌, ℕ, Bool, true, false, List, [], ◌∷◌, ◌++◌, map, Option, Some, None, refl, ap, ◌∙◌, cond}
use Rattle.std.specs.Prelude.{filter, if◌then◌else◌, IsNone, ◌↔◌}
use Rattle.std.specs.List.{reduce, list_any}
use Rattle.std.proofs.lemmas.List.{map-append, append-nil}
use Rattle.std.proofs.lemmas.List.Elements.{filter-append}
use Rattle.std.proofs.lemmas.Grind.{fold-append}
use Rattle.tw_types.specs.declared.message.Kind.{Kind}
use Rattle.tw_types.specs.declared.message.Kind.TheVariants.{Informed, Ready}
use Rattle.tw_types.specs.declared.message.Report.{Report}
use Rattle.tw_types.specs.Reports.{best, is_by_informed, greater_pair}

-- what follows the result of a reduction, with one item more
abbrev pub reduced_with : {A : Type 0} → (A → A → A) → Option A → A → A
reduced_with f None y = y
reduced_with f (Some x) y = f x y

reduce-push : {A : Type 0} (f : A → A → A) (xs : List A) (y : A) → reduce f (xs ++ y ∷ []) ≡ Some (reduced_with f (reduce f xs) y)
reduce-push f [] y = refl
reduce-push f (x ∷ xs) y = ap Some (fold-append f x xs (y ∷ []))

abbrev pub best_with : Option (ℕ × ℕ) → Report → Option (ℕ × ℕ)
best_with b r = if is_by_informed r then Some (reduced_with greater_pair b (r.group, r.turn)) else b

-- one report more
pub best-push : (xs : List Report) (r : Report) → best (xs ++ r ∷ []) ≡ best_with (best xs) r
best-push xs r =
    let split : filter is_by_informed (xs ++ r ∷ []) ≡ filter is_by_informed xs ++ filter is_by_informed (r ∷ []) = filter-append is_by_informed xs (r ∷ []) in
    ap (λ ys. reduce greater_pair (map (λ (q : Report). (q.group, q.turn)) ys)) split ∙ go (is_by_informed r)
  where
    go : (b : Bool) → reduce greater_pair (map (λ (q : Report). (q.group, q.turn)) (filter is_by_informed xs ++ cond b (r ∷ []) [])) ≡ cond b (Some (reduced_with greater_pair (best xs) (r.group, r.turn))) (best xs)
    go true = ap (reduce greater_pair) (map-append (λ (q : Report). (q.group, q.turn)) (filter is_by_informed xs) (r ∷ [])) ∙ reduce-push greater_pair (map (λ (q : Report). (q.group, q.turn)) (filter is_by_informed xs)) (r.group, r.turn)
    go false = ap (λ ys. reduce greater_pair (map (λ (q : Report). (q.group, q.turn)) ys)) (append-nil (filter is_by_informed xs))

-- there is no best one exactly where no report is of an informed process
pub none_informed : (xs : List Report) → IsNone (best xs) ↔ (list_any is_by_informed xs ≡ false)
none_informed [] = (λ e. refl, λ e. refl)
none_informed (r ∷ xs) = go r.kind refl (none_informed xs)
  where
    go : (k : Kind) → r.kind ≡ k → (IsNone (best xs) ↔ (list_any is_by_informed xs ≡ false)) → IsNone (best (r ∷ xs)) ↔ (list_any is_by_informed (r ∷ xs) ≡ false)
    go Informed e rest = rw e (λ h. cc, λ h. cc)
    go Ready e rest = rw e rest
