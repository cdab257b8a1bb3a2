-- The started group at a reading is the greatest that is made and starts there or before.
use Rattle.std.proofs.Common.{◌≡◌, refl, sym, ap, subst, ◌∙◌, inl, inr, ℕ, ◌≤◌, ◌==◌, leb, max, ◌⊎◌, arith, Bool, true, false, cond, List, [], ◌∷◌, map, filter, find, Option, Some, None}
use Rattle.std.specs.Option.{unwrap_or, option_map}
use Rattle.std.proofs.lemmas.Bool.Decides.{Decides-eqb}
use Rattle.std.proofs.lemmas.Option.{same_Some}
use Rattle.tw_types.specs.Row.{Row, Made}
use Rattle.tw_machine.proofs.Decided.{dec_le}
use Rattle.tw_machine.specs.Started.{makings, has_started, greatest, started_at}

-- the number stands in the list
abbrev pub Has : List ℕ → ℕ → Type 0
Has [] n = ⊥
Has (x ∷ xs) n = (x ≡ n) ⊎ Has xs n

one_of : (x y b : ℕ) → Dec (x ≤ y) → max x y ≡ b → (x ≡ b) ⊎ (y ≡ b)
one_of x y b (yes l) e = inr (omega arith)
one_of x y b (no l) e = inl (omega arith)

or_more : (x : ℕ) (xs : List ℕ) (o : Option ℕ) → greatest xs ≡ o → ((b : ℕ) → greatest xs ≡ Some b → Has xs b) → (b : ℕ) → Some (max x (unwrap_or o 0)) ≡ Some b → (x ≡ b) ⊎ Has xs b
or_more x xs None e h b f = let g : max x 0 ≡ b = same_Some _ _ f in inl (omega (arith, g))
or_more x xs (Some y) e h b f =
    let g : max x y ≡ b = same_Some _ _ f in
    let cases : (x ≡ b) ⊎ (y ≡ b) = one_of x y b (dec_le x y) g in
    elim cases [ inl p ↦ inl p | inr p ↦ inr (h b (e ∙ ap Some p)) ]

greatest_stands : (xs : List ℕ) (b : ℕ) → greatest xs ≡ Some b → Has xs b
greatest_stands [] b e = cc
greatest_stands (x ∷ xs) b e = or_more x xs (greatest xs) refl (greatest_stands xs) b e

none_above : (x : ℕ) (xs : List ℕ) (o : Option ℕ) → greatest xs ≡ o → ((c : ℕ) → Has xs c → c ≤ unwrap_or (greatest xs) 0) → (c : ℕ) → (x ≡ c) ⊎ Has xs c → c ≤ max x (unwrap_or o 0)
none_above x xs o e h c (inl p) = omega arith
none_above x xs o e h c (inr p) = let k : c ≤ unwrap_or o 0 = subst (λ q. c ≤ unwrap_or q 0) e (h c p) in omega arith

greatest_bounds : (xs : List ℕ) (c : ℕ) → Has xs c → c ≤ unwrap_or (greatest xs) 0
greatest_bounds [] c h = absurd h
greatest_bounds (x ∷ xs) c h = none_above x xs (greatest xs) refl (greatest_bounds xs) c h

kept : (t : ℕ → Bool) (x : ℕ) (xs : List ℕ) (c : ℕ) (b : Bool) → t x ≡ b → (Has (filter t xs) c → t c ≡ true) → Has (cond b (x ∷ filter t xs) (filter t xs)) c → t c ≡ true
kept t x xs c true e h (inl p) = subst (λ y. t y ≡ true) p e
kept t x xs c true e h (inr p) = h p
kept t x xs c false e h p = h p

filter_passes : (t : ℕ → Bool) (xs : List ℕ) (c : ℕ) → Has (filter t xs) c → t c ≡ true
filter_passes t [] c h = absurd h
filter_passes t (x ∷ xs) c h = kept t x xs c (t x) refl (filter_passes t xs c) h

stays : (t : ℕ → Bool) (x : ℕ) (xs : List ℕ) (c : ℕ) (b : Bool) → t x ≡ b → t c ≡ true → (Has xs c → Has (filter t xs) c) → (x ≡ c) ⊎ Has xs c → Has (cond b (x ∷ filter t xs) (filter t xs)) c
stays t x xs c true e f h (inl p) = inl p
stays t x xs c true e f h (inr p) = inr (h p)
stays t x xs c false e f h (inl p) = let g : t x ≡ true = subst (λ y. t y ≡ true) (sym p) f in cc
stays t x xs c false e f h (inr p) = h p

filter_keeps : (t : ℕ → Bool) (xs : List ℕ) (c : ℕ) → t c ≡ true → Has xs c → Has (filter t xs) c
filter_keeps t [] c f h = absurd h
filter_keeps t (x ∷ xs) c f h = stays t x xs c (t x) refl f (filter_keeps t xs c f) h

abbrev starts_by : ℕ → Option Made → Bool
starts_by reading o = unwrap_or (option_map (λ (m : Made). leb m.start reading) o) false

first_or_later : (reading c : ℕ) (m : Made) (ms : List Made) (b : Bool) → (m.group == c) ≡ b → (starts_by reading (find (λ (y : Made). y.group == c) ms) ≡ true → Has (map (λ (y : Made). y.group) ms) c) →
    starts_by reading (cond b (Some m) (find (λ (y : Made). y.group == c) ms)) ≡ true → (m.group ≡ c) ⊎ Has (map (λ (y : Made). y.group) ms) c
first_or_later reading c m ms true e h f = inl ((Decides-eqb m.group c).0 e)
first_or_later reading c m ms false e h f = inr (h f)

made_stands : (reading c : ℕ) (ms : List Made) → starts_by reading (find (λ (y : Made). y.group == c) ms) ≡ true → Has (map (λ (y : Made). y.group) ms) c
made_stands reading c [] f = cc
made_stands reading c (m ∷ ms) f = first_or_later reading c m ms (m.group == c) refl (made_stands reading c ms) f

begun : (rows : List Row) (reading c : ℕ) → has_started rows reading c ≡ true → Has (filter (has_started rows reading) (map (λ (m : Made). m.group) (makings rows))) c
begun rows reading c e = filter_keeps (has_started rows reading) _ c e (made_stands reading c (makings rows) e)

-- the started group has started, and no greater one has
pub started_is_greatest : (rows : List Row) (reading b : ℕ) → started_at rows reading ≡ Some b → (has_started rows reading b ≡ true) × ((c : ℕ) → has_started rows reading c ≡ true → c ≤ b)
started_is_greatest rows reading b e =
    let groups = filter (has_started rows reading) (map (λ (m : Made). m.group) (makings rows)) in
    (filter_passes (has_started rows reading) _ b (greatest_stands groups b e), λ c f. subst (λ o. c ≤ unwrap_or o 0) e (greatest_bounds groups c (begun rows reading c f)))

empty_greatest : (xs : List ℕ) (c : ℕ) → greatest xs ≡ None → Has xs c → ⊥
empty_greatest [] c e h = h
empty_greatest (x ∷ xs) c e h = cc

-- where there is no started group, no group has started
pub none_has_started : (rows : List Row) (reading c : ℕ) → started_at rows reading ≡ None → has_started rows reading c ≡ true → ⊥
none_has_started rows reading c e f = empty_greatest _ c e (begun rows reading c f)
