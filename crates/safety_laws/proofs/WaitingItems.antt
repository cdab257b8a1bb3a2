-- What holds of each update that waits at a process holds of each that waits after a change of what waits, and of what goes into its list.
use Rattle.std.proofs.Common.{◌≡◌, refl, subst, inl, inr, ℕ, Bool, true, false, not, cond, List, [], ◌∷◌, filter, filter_map, Option, Some, None}
use Rattle.std.specs.List.{AllByRecursion, cons_option}
use Rattle.std.specs.Option.{option_map}
use Rattle.std.proofs.lemmas.Option.{same_Some}
use Rattle.tw_machine.specs.Types.{UpdateId, Entry, Kept, Decision}
use Rattle.tw_types.specs.Items.{In}
use Rattle.tw_types.specs.Logs.{entry_joined}
use Rattle.tw_types.specs.Updates.{is_same_id, is_named, find_update, waits_before, with_pending, stays_pending}
use Rattle.tw_types.specs.Waiting.{Held, Waiting, held_payloads, payloads_of, payloads_for, ids_from, each_once, with_payload, holding, released, settled_by}
use Rattle.tw_types.proofs.Lists.{all_parted, all_joined}
use Rattle.tw_machine.specs.Entering.{is_overtaken, let_go_below}
use Rattle.tw_machine.proofs.Tables.{all_push}
use Rattle.group_maker.proofs.Ranges.{all_kept}
use Rattle.safety_laws.proofs.Lists.{of_each, found_in}

-- ---- updates that are found

-- what holds of whatever is found for an item holds of all that is found
all_found : {X Y : Type 0} (P : Y → Type 0) (f : X → Option Y) (xs : List X) → ((x : X) (y : Y) → In x xs → f x ≡ Some y → P y) → AllByRecursion P (filter_map f xs)
all_found P f [] each = tt
all_found {X} {Y} P f (x ∷ xs) each = go (f x) refl (all_found P f xs (λ z y i. each z y (inr i)))
  where
    go : (o : Option Y) → f x ≡ o → AllByRecursion P (filter_map f xs) → AllByRecursion P (cons_option o (filter_map f xs))
    go None is rest = rest
    go (Some y) is rest = (each x y (inl refl) is, rest)

-- what a held decision keeps is of what was there
all_for : (P : Kept → Type 0) (ids : List UpdateId) (payloads : List Kept) → AllByRecursion P payloads → AllByRecursion P (payloads_for ids payloads)
all_for P ids payloads all = all_found P (λ (id : UpdateId). find_update id payloads) (each_once ids) (λ id u i is. of_each P payloads u all (found_in (is_named id) payloads u is).0)

-- an entry that gets a payload has that of an update of its id
pub all_entered : (P : Kept → Type 0) (payloads : List Kept) (es : List Entry) → AllByRecursion P payloads
    → ((e : Entry) (k : Kept) → In e es → P k → is_same_id k.entry.id e.id ≡ true → P (record k { entry = e })) → AllByRecursion P (filter_map (entry_joined payloads) es)
all_entered P payloads es all each = all_found P (entry_joined payloads) es (λ e u i joined. go e u i (find_update e.id payloads) refl joined)
  where
    go : (e : Entry) (u : Kept) → In e es → (o : Option Kept) → find_update e.id payloads ≡ o → option_map (λ (k : Kept). record k { entry = e }) o ≡ Some u → P u
    go e u i None is f = absurd (cc)
    go e u i (Some k) is f =
        let found = found_in (is_named e.id) payloads k is in
        subst P (same_Some (record k { entry = e }) u f) (each e k i (of_each P payloads k all found.0) found.1)

-- ---- what waits

-- one more that is pending
pub all_put : (P : Kept → Type 0) (k : Kept) (w : Waiting) → P k → AllByRecursion P (payloads_of w) → AllByRecursion P (payloads_of (record w { pending = with_pending k w.pending }))
all_put P k w new all =
    let parts = all_parted P w.pending (held_payloads w.held) all in
    all_joined P (with_pending k w.pending) (held_payloads w.held)
    (all_joined P (filter (λ (other : Kept). waits_before other k) w.pending) (k ∷ filter (λ (other : Kept). not (waits_before other k)) w.pending)
    (all_kept P (λ (other : Kept). waits_before other k) w.pending parts.0)
    (new, all_kept P (λ (other : Kept). not (waits_before other k)) w.pending parts.0))
    parts.1

-- one more that is kept with the held decision
pub all_filled : (P : Kept → Type 0) (k : Kept) (w : Waiting) → P k → AllByRecursion P (payloads_of w) → AllByRecursion P (payloads_of (record w { held = option_map (with_payload k) w.held }))
all_filled P k w new all =
    let parts = all_parted P w.pending (held_payloads w.held) all in
    all_joined P w.pending (held_payloads (option_map (with_payload k) w.held)) parts.0 (go w.held parts.1)
  where
    go : (o : Option Held) → AllByRecursion P (held_payloads o) → AllByRecursion P (held_payloads (option_map (with_payload k) o))
    go None rest = tt
    go (Some h) rest = all_push P h.payloads k rest new

-- nothing is held any more
pub all_released : (P : Kept → Type 0) (w : Waiting) → AllByRecursion P (payloads_of w) → AllByRecursion P (payloads_of (released w))
all_released P w all = all_joined P w.pending [] (all_parted P w.pending (held_payloads w.held) all).0 tt

-- another decision is held
pub all_held : (P : Kept → Type 0) (d : Decision) (first source : ℕ) (w : Waiting) → AllByRecursion P (payloads_of w) → AllByRecursion P (payloads_of (holding d first source w))
all_held P d first source w all =
    all_joined P w.pending (payloads_for (ids_from first d) (payloads_of w)) (all_parted P w.pending (held_payloads w.held) all).0 (all_for P (ids_from first d) (payloads_of w) all)

-- A decision is entered: what it lets go, and what doesn't stay pending, is only less.
pub all_settled : (P : Kept → Type 0) (d : Decision) (w : Waiting) → AllByRecursion P (payloads_of w) → AllByRecursion P (payloads_of (let_go_below d (settled_by d w)))
all_settled P d w all = go (is_overtaken d w.held)
  where
    less : AllByRecursion P (payloads_of (settled_by d w))
    less = let parts = all_parted P w.pending (held_payloads w.held) all in
        all_joined P (settled_by d w).pending (held_payloads w.held) (all_kept P (stays_pending d) w.pending parts.0) parts.1

    go : (over : Bool) → AllByRecursion P (payloads_of (cond over (released (settled_by d w)) (settled_by d w)))
    go true = all_released P (settled_by d w) less
    go false = less
