-- Updates by their ids: holes, what is found for a window, and how many different ones there are.
use Rattle.std.proofs.Common.{◌≡◌, ℕ, ◌<◌, ◌≤◌, ◌+◌, Bool, true, false, List, [], ◌∷◌, ◌++◌, length, map, take, get_or, Option, Some, None, refl, sym, ap, ◌∙◌, cond, arith}
use Rattle.std.specs.Prelude.{not, ◌&&◌, ◌||◌, filter, filter_map, find, slice_get, is_some}
use Rattle.std.specs.List.{list_any, AllByRecursion, cons_option}
use Rattle.std.specs.Option.{option_map, option_to_list}
use Rattle.std.proofs.lemmas.Bool.Decides.{nat_tests}
use Rattle.std.proofs.lemmas.List.Elements.{filter-append, filter_map-append}
use Rattle.std.proofs.lemmas.Map.Views.{any-filter_same}
use Rattle.std.proofs.lemmas.List.{take_more, map-append, length-map}
use Rattle.std.proofs.lemmas.Grind.{common_steps}
use Rattle.tw_types.specs.declared.message.UpdateId.{UpdateId}
use Rattle.tw_types.specs.declared.message.Entry.{Entry}
use Rattle.tw_types.specs.declared.message.Kept.{Kept}
use Rattle.tw_types.specs.Updates.{is_same_id, is_named, find_update, has_update}
use Rattle.tw_types.specs.Waiting.{Held, ids_from, first_hole, each_once, payloads_for}
use Rattle.update_store.specs.Stock.{DifferentUpdates, has_id}

-- ---- lists

pub all-filter : {X : Type 0} (P : X → Type 0) (p : X → Bool) (xs : List X) → AllByRecursion P xs → AllByRecursion P (filter p xs)
all-filter P p [] h = tt
all-filter P p (x ∷ xs) h = go (p x) (all-filter P p xs h.1)
  where
    go : (b : Bool) → AllByRecursion P (filter p xs) → AllByRecursion P (cond b (x ∷ filter p xs) (filter p xs))
    go true rest = (h.0, rest)
    go false rest = rest

pub all-weaker : {X : Type 0} (P Q : X → Type 0) → ((x : X) → P x → Q x) → (xs : List X) → AllByRecursion P xs → AllByRecursion Q xs
all-weaker P Q f [] h = tt
all-weaker P Q f (x ∷ xs) h = (f x h.0, all-weaker P Q f xs h.1)

first_of_filter : {X : Type 0} (p : X → Bool) (xs : List X) → slice_get (filter p xs) 0 ≡ find p xs
first_of_filter p [] = refl
first_of_filter p (x ∷ xs) = go (p x) (first_of_filter p xs)
  where
    go : (b : Bool) → slice_get (filter p xs) 0 ≡ find p xs → slice_get (cond b (x ∷ filter p xs) (filter p xs)) 0 ≡ cond b (Some x) (find p xs)
    go true rest = refl
    go false rest = rest

pub length-filter-le : {X : Type 0} (p : X → Bool) (xs : List X) → length (filter p xs) ≤ length xs
length-filter-le p [] = omega arith
length-filter-le p (x ∷ xs) = go (p x) (length-filter-le p xs)
  where
    go : (b : Bool) → length (filter p xs) ≤ length xs → length (cond b (x ∷ filter p xs) (filter p xs)) ≤ length (x ∷ xs)
    go true rest = omega arith
    go false rest = omega arith

-- a filter that drops one of them
filter_fewer : {X : Type 0} (p : X → Bool) (xs : List X) → list_any p xs ≡ true → length (filter (λ x. not (p x)) xs) < length xs
filter_fewer p [] h = cc
filter_fewer p (x ∷ xs) h = go (p x) h (filter_fewer p xs)
  where
    go : (b : Bool) → (b || list_any p xs) ≡ true → (list_any p xs ≡ true → length (filter (λ y. not (p y)) xs) < length xs) → length (cond (not b) (x ∷ filter (λ y. not (p y)) xs) (filter (λ y. not (p y)) xs)) < length (x ∷ xs)
    go true e rest = omega (arith, length-filter-le (λ y. not (p y)) xs)
    go false e rest = omega (arith, rest e)

length-filter_map-le : {X Y : Type 0} (f : X → Option Y) (xs : List X) → length (filter_map f xs) ≤ length xs
length-filter_map-le f [] = omega arith
length-filter_map-le f (x ∷ xs) = go (f x) (length-filter_map-le f xs)
  where
    go : (o : Option _) → length (filter_map f xs) ≤ length xs → length (cons_option o (filter_map f xs)) ≤ length (x ∷ xs)
    go None rest = omega arith
    go (Some y) rest = omega arith

-- ---- ids

pub same_id : (a b : UpdateId) → is_same_id a b ≡ true → a ≡ b
same_id a b h = grind (arith, nat_tests)

same_itself : (a : UpdateId) → is_same_id a a ≡ true
same_itself a = grind (arith, nat_tests)

same_turned : (a b : UpdateId) → is_same_id a b ≡ is_same_id b a
same_turned a b = grind (arith, nat_tests)

and_false : (b : Bool) → (b && false) ≡ false
and_false true = refl
and_false false = refl

-- the id is a hole where an entry has it and no payload does
pub hole_is : (id : UpdateId) (entries : List Entry) (payloads : List Kept) →
    list_any (λ (hole : UpdateId). is_same_id hole id) (filter (λ (i : UpdateId). not (has_update i payloads)) (map (λ (e : Entry). e.id) entries))
    ≡ (list_any (λ (e : Entry). is_same_id e.id id) entries && not (has_update id payloads))
hole_is id [] payloads = refl
hole_is id (e ∷ entries) payloads = go (has_update e.id payloads) refl (is_same_id e.id id) refl (hole_is id entries payloads)
  where
    go : (b : Bool) → has_update e.id payloads ≡ b → (s : Bool) → is_same_id e.id id ≡ s →
        list_any (λ (hole : UpdateId). is_same_id hole id) (filter (λ (i : UpdateId). not (has_update i payloads)) (map (λ (e : Entry). e.id) entries)) ≡ (list_any (λ (e : Entry). is_same_id e.id id) entries && not (has_update id payloads)) →
        list_any (λ (hole : UpdateId). is_same_id hole id) (cond (not b) (e.id ∷ filter (λ (i : UpdateId). not (has_update i payloads)) (map (λ (e : Entry). e.id) entries)) (filter (λ (i : UpdateId). not (has_update i payloads)) (map (λ (e : Entry). e.id) entries)))
        ≡ ((s || list_any (λ (e : Entry). is_same_id e.id id) entries) && not (has_update id payloads))
    go true h true s rest = let same = same_id e.id id s in let there : has_update id payloads ≡ true = rw same at h in rw (rest, there) (and_false (list_any (λ (e : Entry). is_same_id e.id id) entries))
    go true h false s rest = rest
    go false h true s rest = let same = same_id e.id id s in let there : has_update id payloads ≡ false = rw same at h in rw (s, there) refl
    go false h false s rest = rw (s, rest) refl

pub hole_told : (h : Held) → first_hole (Some h) ≡ option_map (λ (id : UpdateId). (id, h.source)) (find (λ (i : UpdateId). not (has_update i h.payloads)) (ids_from h.first h.decision))
hole_told h = ap (option_map (λ (id : UpdateId). (id, h.source))) (first_of_filter (λ (i : UpdateId). not (has_update i h.payloads)) (ids_from h.first h.decision))

-- ---- what is found for ids

has_id-filter : (id x : UpdateId) (ids : List UpdateId) → is_same_id x id ≡ false → has_id id (filter (λ (other : UpdateId). not (is_same_id x other)) ids) ≡ has_id id ids
has_id-filter id x ids e = any-filter_same (λ (other : UpdateId). is_same_id other id) (λ (other : UpdateId). not (is_same_id x other)) true (λ k s. let same = same_id k id s in rw (same, e) refl) ids

has_id-each_once : (id : UpdateId) (ids : List UpdateId) → has_id id (each_once ids) ≡ has_id id ids
has_id-each_once id [] = refl
has_id-each_once id (x ∷ ids) = go (is_same_id x id) refl (has_id-each_once id ids)
  where
    go : (b : Bool) → is_same_id x id ≡ b → has_id id (each_once ids) ≡ has_id id ids → (b || has_id id (filter (λ (other : UpdateId). not (is_same_id x other)) (each_once ids))) ≡ (b || has_id id ids)
    go true e rest = refl
    go false e rest = has_id-filter id x (each_once ids) e ∙ rest

-- one id more
each_once-push : (ids : List UpdateId) (id : UpdateId) → each_once (ids ++ id ∷ []) ≡ each_once ids ++ cond (has_id id ids) [] (id ∷ [])
each_once-push [] id = refl
each_once-push (x ∷ ids) id = ap (λ ys. x ∷ filter (λ (other : UpdateId). not (is_same_id x other)) ys) (each_once-push ids id) ∙ ap (λ ys. x ∷ ys) (filter-append (λ (other : UpdateId). not (is_same_id x other)) (each_once ids) (cond (has_id id ids) [] (id ∷ [])) ∙ ap (λ ys. filter (λ (other : UpdateId). not (is_same_id x other)) (each_once ids) ++ ys) (go (is_same_id x id) refl (has_id id ids)))
  where
    go : (b : Bool) → is_same_id x id ≡ b → (c : Bool) → filter (λ (other : UpdateId). not (is_same_id x other)) (cond c [] (id ∷ [])) ≡ cond (b || c) [] (id ∷ [])
    go true e true = refl
    go false e true = refl
    go true e false = rw e refl
    go false e false = rw e refl

-- what is found has the id
found_id : (id : UpdateId) (payloads : List Kept) (k : Kept) → find_update id payloads ≡ Some k → k.entry.id ≡ id
found_id id [] k h = cc
found_id id (x ∷ payloads) k h = go (is_named id x) refl (found_id id payloads k) h
  where
    go : (b : Bool) → is_named id x ≡ b → (find_update id payloads ≡ Some k → k.entry.id ≡ id) → cond b (Some x) (find_update id payloads) ≡ Some k → k.entry.id ≡ id
    go true e rest h = let same = same_id x.entry.id id e in cc
    go false e rest h = rest h

-- an id has a payload among those that are found exactly where it is one of the ids, and is found
has_found : (id : UpdateId) (payloads : List Kept) (ids : List UpdateId) → has_update id (filter_map (λ (i : UpdateId). find_update i payloads) ids) ≡ (has_id id ids && is_some (find_update id payloads))
has_found id payloads [] = refl
has_found id payloads (x ∷ ids) = go (is_same_id x id) refl (find_update x payloads) refl (has_found id payloads ids)
  where
    go : (b : Bool) → is_same_id x id ≡ b → (o : Option Kept) → find_update x payloads ≡ o →
        has_update id (filter_map (λ (i : UpdateId). find_update i payloads) ids) ≡ (has_id id ids && is_some (find_update id payloads)) →
        has_update id (cons_option o (filter_map (λ (i : UpdateId). find_update i payloads) ids)) ≡ ((b || has_id id ids) && is_some (find_update id payloads))
    go true e None f rest = let same = same_id x id e in let none : find_update id payloads ≡ None = rw same at f in rw (rest, none) (and_false (has_id id ids))
    go true e (Some k) f rest = let same = same_id x id e in let k_is = found_id x payloads k f in let there : find_update id payloads ≡ Some k = rw same at f in let named : is_same_id k.entry.id id ≡ true = rw k_is e in rw (named, there) refl
    go false e None f rest = rest
    go false e (Some k) f rest = let k_is = found_id x payloads k f in let named : is_same_id k.entry.id id ≡ false = rw k_is e in rw named rest

-- an id that is found already adds nothing, and one that isn't adds what is found for it
abbrev pub one_more : UpdateId → List UpdateId → List Kept → List Kept
one_more id ids payloads = cond (has_update id (payloads_for ids payloads)) [] (option_to_list (find_update id payloads))

pub payloads_for-push : (ids : List UpdateId) (id : UpdateId) (payloads : List Kept) → payloads_for (ids ++ id ∷ []) payloads ≡ payloads_for ids payloads ++ one_more id ids payloads
payloads_for-push ids id payloads =
    ap (filter_map (λ (i : UpdateId). find_update i payloads)) (each_once-push ids id)
    ∙ filter_map-append (λ (i : UpdateId). find_update i payloads) (each_once ids) (cond (has_id id ids) [] (id ∷ []))
    ∙ ap (λ ys. payloads_for ids payloads ++ ys) (go (has_id id ids) refl (find_update id payloads) refl (has_found id payloads (each_once ids) ∙ ap (λ b. b && is_some (find_update id payloads)) (has_id-each_once id ids)))
  where
    go : (b : Bool) → has_id id ids ≡ b → (o : Option Kept) → find_update id payloads ≡ o → has_update id (payloads_for ids payloads) ≡ (has_id id ids && is_some (find_update id payloads)) →
        filter_map (λ (i : UpdateId). find_update i payloads) (cond b [] (id ∷ [])) ≡ cond (has_update id (payloads_for ids payloads)) [] (option_to_list o)
    go true e (Some k) f has = rw (has, e, f) refl
    go true e None f has = rw (has, e, f) refl
    go false e (Some k) f has = rw (has, e, f) refl
    go false e None f has = rw (has, e, f) refl

length-each_once : (ids : List UpdateId) → length (each_once ids) ≤ length ids
length-each_once [] = omega arith
length-each_once (x ∷ ids) = omega (arith, length-filter-le (λ (other : UpdateId). not (is_same_id x other)) (each_once ids), length-each_once ids)

pub length-payloads_for : (ids : List UpdateId) (payloads : List Kept) → length (payloads_for ids payloads) ≤ length ids
length-payloads_for ids payloads = omega (arith, length-filter_map-le (λ (i : UpdateId). find_update i payloads) (each_once ids), length-each_once ids)

-- ---- they are of different updates, each one wanted

abbrev Apart : List UpdateId → Type 0
Apart [] = Unit {0}
Apart (id ∷ ids) = (has_id id ids ≡ false) × Apart ids

no_id-filter : (id : UpdateId) (p : UpdateId → Bool) (ids : List UpdateId) → has_id id ids ≡ false → has_id id (filter p ids) ≡ false
no_id-filter id p [] h = refl
no_id-filter id p (x ∷ ids) h = go (is_same_id x id) refl (p x) h (no_id-filter id p ids)
  where
    go : (b : Bool) → is_same_id x id ≡ b → (c : Bool) → (b || has_id id ids) ≡ false → (has_id id ids ≡ false → has_id id (filter p ids) ≡ false) → has_id id (cond c (x ∷ filter p ids) (filter p ids)) ≡ false
    go true e c h rest = cc
    go false e true h rest = rw e (rest h)
    go false e false h rest = rest h

apart-filter : (p : UpdateId → Bool) (ids : List UpdateId) → Apart ids → Apart (filter p ids)
apart-filter p [] h = tt
apart-filter p (x ∷ ids) h = go (p x) (apart-filter p ids h.1)
  where
    go : (c : Bool) → Apart (filter p ids) → Apart (cond c (x ∷ filter p ids) (filter p ids))
    go true rest = (no_id-filter x p ids h.0, rest)
    go false rest = rest

not_itself : (x : UpdateId) (ids : List UpdateId) → has_id x (filter (λ (other : UpdateId). not (is_same_id x other)) ids) ≡ false
not_itself x [] = refl
not_itself x (y ∷ ids) = go (is_same_id x y) refl (not_itself x ids)
  where
    go : (b : Bool) → is_same_id x y ≡ b → has_id x (filter (λ (other : UpdateId). not (is_same_id x other)) ids) ≡ false → has_id x (cond (not b) (y ∷ filter (λ (other : UpdateId). not (is_same_id x other)) ids) (filter (λ (other : UpdateId). not (is_same_id x other)) ids)) ≡ false
    go true e rest = rest
    go false e rest = let turned : is_same_id y x ≡ false = same_turned y x ∙ e in rw turned rest

apart_once : (ids : List UpdateId) → Apart (each_once ids)
apart_once [] = tt
apart_once (x ∷ ids) = (not_itself x (each_once ids), apart-filter (λ (other : UpdateId). not (is_same_id x other)) (each_once ids) (apart_once ids))

found_different : (payloads : List Kept) (ids : List UpdateId) → Apart ids → DifferentUpdates (filter_map (λ (i : UpdateId). find_update i payloads) ids)
found_different payloads [] h = tt
found_different payloads (x ∷ ids) h = go (find_update x payloads) refl (found_different payloads ids h.1)
  where
    go : (o : Option Kept) → find_update x payloads ≡ o → DifferentUpdates (filter_map (λ (i : UpdateId). find_update i payloads) ids) → DifferentUpdates (cons_option o (filter_map (λ (i : UpdateId). find_update i payloads) ids))
    go None f rest = rest
    go (Some k) f rest = let k_is = found_id x payloads k f in (rw (k_is, has_found x payloads ids, h.0) refl, rest)

pub payloads_different : (ids : List UpdateId) (payloads : List Kept) → DifferentUpdates (payloads_for ids payloads)
payloads_different ids payloads = found_different payloads (each_once ids) (apart_once ids)

found_wanted : (payloads : List Kept) (all ids : List UpdateId) → AllByRecursion (λ (i : UpdateId). has_id i all ≡ true) ids → AllByRecursion (λ (k : Kept). has_id k.entry.id all ≡ true) (filter_map (λ (i : UpdateId). find_update i payloads) ids)
found_wanted payloads all [] h = tt
found_wanted payloads all (x ∷ ids) h = go (find_update x payloads) refl (found_wanted payloads all ids h.1)
  where
    go : (o : Option Kept) → find_update x payloads ≡ o → AllByRecursion (λ (k : Kept). has_id k.entry.id all ≡ true) (filter_map (λ (i : UpdateId). find_update i payloads) ids) → AllByRecursion (λ (k : Kept). has_id k.entry.id all ≡ true) (cons_option o (filter_map (λ (i : UpdateId). find_update i payloads) ids))
    go None f rest = rest
    go (Some k) f rest = let k_is = found_id x payloads k f in (rw k_is h.0, rest)

has_later : (x i : UpdateId) (ids : List UpdateId) → has_id i ids ≡ true → has_id i (x ∷ ids) ≡ true
has_later x i ids h = go (is_same_id x i)
  where
    go : (b : Bool) → (b || has_id i ids) ≡ true
    go true = refl
    go false = h

all_there : (ids : List UpdateId) → AllByRecursion (λ (i : UpdateId). has_id i ids ≡ true) (each_once ids)
all_there [] = tt
all_there (x ∷ ids) = (
  rw (same_itself x) refl,
  all-weaker (λ (i : UpdateId). has_id i ids ≡ true) (λ (i : UpdateId). has_id i (x ∷ ids) ≡ true) (λ i h. has_later x i ids h) (filter (λ (other : UpdateId). not (is_same_id x other)) (each_once ids))
      (all-filter (λ (i : UpdateId). has_id i ids ≡ true) (λ (other : UpdateId). not (is_same_id x other)) (each_once ids) (all_there ids)),
)

pub payloads_wanted : (ids : List UpdateId) (payloads : List Kept) → AllByRecursion (λ (k : Kept). has_id k.entry.id ids ≡ true) (payloads_for ids payloads)
payloads_wanted ids payloads = found_wanted payloads ids (each_once ids) (all_there ids)

-- ---- so there are no more of them than ids

others_wanted : (id : UpdateId) (ids : List UpdateId) (payloads : List Kept) → has_update id payloads ≡ false → AllByRecursion (λ (k : Kept). has_id k.entry.id ids ≡ true) payloads →
    AllByRecursion (λ (k : Kept). has_id k.entry.id (filter (λ (other : UpdateId). not (is_same_id other id)) ids) ≡ true) payloads
others_wanted id ids [] none h = tt
others_wanted id ids (k ∷ payloads) none h = go (is_same_id k.entry.id id) refl none (others_wanted id ids payloads)
  where
    go : (b : Bool) → is_same_id k.entry.id id ≡ b → (b || has_update id payloads) ≡ false →
        (has_update id payloads ≡ false → AllByRecursion (λ (k : Kept). has_id k.entry.id ids ≡ true) payloads → AllByRecursion (λ (k : Kept). has_id k.entry.id (filter (λ (other : UpdateId). not (is_same_id other id)) ids) ≡ true) payloads) →
        AllByRecursion (λ (k : Kept). has_id k.entry.id (filter (λ (other : UpdateId). not (is_same_id other id)) ids) ≡ true) (k ∷ payloads)
    go true e n rest = cc
    go false e n rest = (any-filter_same (λ (other : UpdateId). is_same_id other k.entry.id) (λ (other : UpdateId). not (is_same_id other id)) true (λ i s. let same = same_id i k.entry.id s in rw (same, e) refl) ids ∙ h.0, rest n h.1)

pub no_more_than_ids : (ids : List UpdateId) (payloads : List Kept) → DifferentUpdates payloads → AllByRecursion (λ (k : Kept). has_id k.entry.id ids ≡ true) payloads → length payloads ≤ length ids
no_more_than_ids ids [] d w = omega arith
no_more_than_ids ids (k ∷ payloads) d w =
    let fewer = filter_fewer (λ (other : UpdateId). is_same_id other k.entry.id) ids w.0 in
    let rest = no_more_than_ids (filter (λ (other : UpdateId). not (is_same_id other k.entry.id)) ids) payloads d.1 (others_wanted k.entry.id ids payloads d.0 w.1) in
    omega arith

-- ---- a window's entries, one after the other

pub collected : (entries : List Entry) (payloads : List Kept) (i : ℕ) (e : Entry) → i < length entries →
    payloads_for (map (λ (x : Entry). x.id) (take (i + 1) entries)) payloads
    ≡ payloads_for (map (λ (x : Entry). x.id) (take i entries)) payloads ++ one_more (get_or entries i e).id (map (λ (x : Entry). x.id) (take i entries)) payloads
collected entries payloads i e lt =
    ap (λ ys. payloads_for (map (λ (x : Entry). x.id) ys) payloads) (take_more entries i e lt)
    ∙ ap (λ ids. payloads_for ids payloads) (map-append (λ (x : Entry). x.id) (take i entries) (get_or entries i e ∷ []))
    ∙ payloads_for-push (map (λ (x : Entry). x.id) (take i entries)) (get_or entries i e).id payloads

pub length-collected : (entries : List Entry) (payloads : List Kept) (i : ℕ) → i < length entries → length (payloads_for (map (λ (x : Entry). x.id) (take i entries)) payloads) < length entries
length-collected entries payloads i lt =
    omega (arith, length-payloads_for (map (λ (x : Entry). x.id) (take i entries)) payloads, length-map (take i entries) (λ (x : Entry). x.id), length-take_le entries i)
  where
    length-take_le : (entries : List Entry) (i : ℕ) → length (take i entries) ≤ i
    length-take_le entries i = grind (arith, common_steps)

pub collect_step : (entries : List Entry) (payloads found later : List Kept) (i : ℕ) (e : Entry) → i < length entries →
    found ≡ payloads_for (map (λ (x : Entry). x.id) (take i entries)) payloads →
    later ≡ found ++ cond (has_update (get_or entries i e).id found) [] (option_to_list (find_update (get_or entries i e).id payloads)) →
    later ≡ payloads_for (map (λ (x : Entry). x.id) (take (i + 1) entries)) payloads
collect_step entries payloads found later i e lt inv step = rw (collected entries payloads i e lt, ← inv) step

-- ---- a payload more

has_id-map : (id : UpdateId) (entries : List Entry) → has_id id (map (λ (e : Entry). e.id) entries) ≡ list_any (λ (e : Entry). is_same_id e.id id) entries
has_id-map id [] = refl
has_id-map id (e ∷ entries) = ap (λ b. is_same_id e.id id || b) (has_id-map id entries)

both_parts : (a b : Bool) → (a && not b) ≡ true → (a ≡ true) × (b ≡ false)
both_parts true false h = (refl, refl)
both_parts true true h = cc
both_parts false b h = cc

-- what a hole is: an id that is wanted, and has no payload
pub hole_parts : (id : UpdateId) (entries : List Entry) (payloads : List Kept) →
    list_any (λ (hole : UpdateId). is_same_id hole id) (filter (λ (i : UpdateId). not (has_update i payloads)) (map (λ (e : Entry). e.id) entries)) ≡ true →
    (has_id id (map (λ (e : Entry). e.id) entries) ≡ true) × (has_update id payloads ≡ false)
hole_parts id entries payloads h =
    let parts = both_parts (list_any (λ (e : Entry). is_same_id e.id id) entries) (has_update id payloads) (sym (hole_is id entries payloads) ∙ h) in
    (has_id-map id entries ∙ parts.0, parts.1)

no_update-push : (id : UpdateId) (payloads : List Kept) (k : Kept) → has_update id payloads ≡ false → is_same_id k.entry.id id ≡ false → has_update id (payloads ++ k ∷ []) ≡ false
no_update-push id [] k h e = rw e refl
no_update-push id (x ∷ payloads) k h e = go (is_same_id x.entry.id id) h (no_update-push id payloads k)
  where
    go : (b : Bool) → (b || has_update id payloads) ≡ false → (has_update id payloads ≡ false → is_same_id k.entry.id id ≡ false → has_update id (payloads ++ k ∷ []) ≡ false) → (b || has_update id (payloads ++ k ∷ [])) ≡ false
    go true h rest = cc
    go false h rest = rest h e

pub different-push : (payloads : List Kept) (k : Kept) → DifferentUpdates payloads → has_update k.entry.id payloads ≡ false → DifferentUpdates (payloads ++ k ∷ [])
different-push [] k d none = (refl, tt)
different-push (x ∷ payloads) k d none = go (is_same_id x.entry.id k.entry.id) refl none (different-push payloads k d.1)
  where
    go : (b : Bool) → is_same_id x.entry.id k.entry.id ≡ b → (b || has_update k.entry.id payloads) ≡ false → (has_update k.entry.id payloads ≡ false → DifferentUpdates (payloads ++ k ∷ [])) → DifferentUpdates (x ∷ payloads ++ k ∷ [])
    go true e n rest = cc
    go false e n rest = (no_update-push x.entry.id payloads k d.0 (same_turned k.entry.id x.entry.id ∙ e), rest n)

pub all-push : {X : Type 0} (P : X → Type 0) (xs : List X) (x : X) → AllByRecursion P xs → P x → AllByRecursion P (xs ++ x ∷ [])
all-push P [] x h p = (p, tt)
all-push P (y ∷ xs) x h p = (h.0, all-push P xs x h.1 p)
