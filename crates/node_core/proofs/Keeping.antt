-- The updates of a process stay in range, where its store or its list changes.
use Rattle.std.proofs.Common.{find, ◌≡◌, refl, ap, ◌∙◌, ℕ, ◌+◌, ◌<◌, ◌≤◌, Bool, true, false, cond, List, [], ◌∷◌, Option, Some, None, IfSome, filter, filter_map, arith}
use Rattle.std.specs.Prelude.{not, nat_lt, nat_le, ◌||◌, ◌&&◌}
use Rattle.std.specs.List.{AllByRecursion, list_any, cons_option}
use Rattle.std.specs.Option.{option_map, option_map_or}
use Rattle.std.proofs.lemmas.Bool.Decides.{nat_tests}
use Rattle.tw_machine.specs.Types.{Entry, Kept, Member, Seat, Decision}
use Rattle.tw_types.specs.Ranges.{EntryFits, SeatFits, UpdateFits, DecisionFits, Ascends}
use Rattle.tw_types.specs.Decisions.{or_none, is_same_member, is_seat_of}
use Rattle.tw_types.specs.Updates.{find_update, has_update, is_named, is_awaited, sender, pending_room, seat_of_sender, stays_pending, waits_before}
use Rattle.tw_types.specs.Waiting.{Held, Waiting, is_hole, entries_from, payloads_of, Putting, Filled, Stored, Known, Stranger, OutOfRange, put_at_seat, put_by_seat, putting, known_if_own, putting_received, with_payload, put_as, after_put, MayPut, holding, released, settled_by}
use Rattle.tw_types.specs.Logs.{entry_joined}
use Rattle.tw_types.proofs.Lists.{all_joined}
use Rattle.oal.specs.Recent.{Recent, recent_after}
use Rattle.update_store.specs.Stock.{Stock}
use Rattle.tw_types.specs.Beliefs.{view_decision}
use Rattle.tw_types.specs.Process.{Process}
use Rattle.tw_machine.specs.Standing.{member_of}
use Rattle.tw_machine.specs.Updating.{received_as}
use Rattle.node_core.specs.declared.state.State.{State}
use Rattle.node_core.specs.StandsFor.{StandsFor, identity_seen, belief_seen}
use Rattle.node_core.specs.declared.state.Hold.{Hold}
use Rattle.node_core.specs.declared.state.Purpose.TheVariants.{ToTake}
use Rattle.node_core.specs.InRange.{KeptFits, ListedFits, HeldFits, WaitingFits, IsHeldFor, UpdatesFit}
use Rattle.node_core.proofs.Listing.{all_dropped, all_filtered, filtered_all, all_weaker, found_one}
use Rattle.node_core.proofs.Waits.{entries_fit, payloads_fit}

-- ---- the updates of a process, where its store or its list changes

-- a payload that waits may go on the list
joined_fits : (n : ℕ) (payloads : List Kept) (e : Entry) → EntryFits n e → AllByRecursion (KeptFits n) payloads → IfSome (entry_joined payloads e) (ListedFits n)
joined_fits n payloads e fits all = go (find_update e.id payloads) (found_one (KeptFits n) (is_named e.id) payloads all)
  where
    go : (o : Option Kept) → IfSome o (KeptFits n) → IfSome (option_map (λ (k : Kept). record k { entry = e }) o) (ListedFits n)
    go None h = tt
    go (Some k) h = record { id = fits.id; stamp = fits.stamp; payload = h.payload }

joined_all : (n : ℕ) (payloads : List Kept) (es : List Entry) → AllByRecursion (EntryFits n) es → AllByRecursion (KeptFits n) payloads → AllByRecursion (ListedFits n) (filter_map (entry_joined payloads) es)
joined_all n payloads [] fits all = tt
joined_all n payloads (e ∷ es) fits all = let rest = joined_all n payloads es fits.1 all in
    (elim (entry_joined payloads e) as (λ o. IfSome o (ListedFits n) → AllByRecursion (ListedFits n) (cons_option o (filter_map (entry_joined payloads) es))) [ None ↦ (λ h. rest) | Some k ↦ (λ h. (h, rest)) ]) (joined_fits n payloads e fits.0 all)

-- a decision's entries go on the list
pub entered_update : (n : ℕ) (view : Option Decision) (d : Decision) (o new : Recent) (k next : Stock) (hold : Option Hold) (seq : ℕ) → new ≡ recent_after (payloads_of k.waiting) d o → next ≡ record k { waiting = settled_by d k.waiting }
    → DecisionFits n d → WaitingFits n k.waiting → UpdatesFit n view o k hold seq → UpdatesFit n (Some d) new next hold seq
entered_update n view d o new k next hold seq grown settles fits waiting updates = rw (grown, settles) (record {
  listed = all_dropped (ListedFits n) _ _ (all_joined (ListedFits n) o.kept (filter_map (entry_joined (payloads_of k.waiting)) (entries_from o.length d)) updates.listed
      (joined_all n (payloads_of k.waiting) (entries_from o.length d) (entries_fit n o.length d fits.window) (payloads_fit n k.waiting waiting)));
  settled = filtered_all (stays_pending d) k.waiting.pending;
  held_for = updates.held_for;
  size = updates.size;
  numbered = updates.numbered;
})

-- a decision is held, or none any longer
pub held_update : (n : ℕ) (view : Option Decision) (d : Decision) (first source : ℕ) (o : Recent) (k new : Stock) (hold : Hold) (before : Option Hold) (seq : ℕ) → new ≡ record k { waiting = holding d first source k.waiting }
    → (hold.purpose ≡ ToTake → d.group ≤ hold.promised) → UpdatesFit n view o k before seq → UpdatesFit n view o new (Some hold) seq
held_update n view d first source o k new hold before seq is below updates = rw is (record { listed = updates.listed; settled = updates.settled; held_for = below; size = updates.size; numbered = updates.numbered })

pub released_update : (n : ℕ) (view : Option Decision) (o : Recent) (k new : Stock) (before : Option Hold) (seq : ℕ) → new ≡ record k { waiting = released k.waiting } → UpdatesFit n view o k before seq → UpdatesFit n view o new None seq
released_update n view o k new before seq is updates = rw is (record { listed = updates.listed; settled = updates.settled; held_for = tt; size = updates.size; numbered = updates.numbered })

-- ---- an update that is kept

put_fits_by : (n : ℕ) (putting : Putting) (k : Kept) (w : Waiting) → KeptFits n k → WaitingFits n w → WaitingFits n (put_as putting k w)
put_fits_by n Filled k w fits waiting = record { pending = waiting.pending; held = go w.held waiting.held }
  where
    go : (o : Option Held) → IfSome o (HeldFits n) → IfSome (option_map (with_payload k) o) (HeldFits n)
    go None h = tt
    go (Some x) h = record { decision = h.decision; source = h.source; payloads = all_joined (KeptFits n) x.payloads (k ∷ []) h.payloads (fits, tt) }
put_fits_by n Stored k w fits waiting = record {
  pending = all_joined (KeptFits n) (filter (λ (other : Kept). waits_before other k) w.pending) _ (all_filtered (KeptFits n) (λ (other : Kept). waits_before other k) w.pending waiting.pending)
      (fits, all_filtered (KeptFits n) (λ (other : Kept). not (waits_before other k)) w.pending waiting.pending);
  held = waiting.held;
}
put_fits_by n Known k w fits waiting = waiting
put_fits_by n Stranger k w fits waiting = waiting
put_fits_by n OutOfRange k w fits waiting = waiting

pub put_fits : (n : ℕ) (putting : Putting) (k : Kept) (w : Waiting) → UpdateFits n k → WaitingFits n w → WaitingFits n (put_as putting k w)
put_fits n putting k w fits waiting = put_fits_by n putting k w (record { entry = fits.entry; payload = fits.payload }) waiting

-- one that is stored is awaited at its sender's seat
stored_at : (next : ℕ) (pending : List Kept) (k : Kept) → put_at_seat next pending k ≡ Stored → is_awaited next k.entry.id.seq ≡ true
stored_at next pending k e = go (nat_lt k.entry.id.seq next) (has_update k.entry.id pending) (nat_le (next + 8) k.entry.id.seq) refl refl refl e
  where
    go : (a b c : Bool) → nat_lt k.entry.id.seq next ≡ a → has_update k.entry.id pending ≡ b → nat_le (next + 8) k.entry.id.seq ≡ c
        → cond (a || b) Known (cond c OutOfRange Stored) ≡ Stored → is_awaited next k.entry.id.seq ≡ true
    go true b c x y z e = absurd (cc)
    go false true c x y z e = absurd (cc)
    go false false true x y z e = absurd (cc)
    go false false false x y z e = grind (arith, nat_tests)

stored_by : (seat : Option Seat) (pending : List Kept) (k : Kept) → put_by_seat seat pending k ≡ Stored → option_map_or (λ (s : Seat). is_awaited s.next k.entry.id.seq) seat false ≡ true
stored_by None pending k e = absurd (cc)
stored_by (Some s) pending k e = stored_at s.next pending k e

stored_stays : (view : Option Decision) (k : Kept) (w : Waiting) → putting view k w ≡ Stored → stays_pending (or_none view) k ≡ true
stored_stays view k w e = go (is_hole k.entry.id w.held) e
  where
    go : (b : Bool) → cond b Filled (put_by_seat (seat_of_sender k.entry.id (or_none view)) w.pending k) ≡ Stored → stays_pending (or_none view) k ≡ true
    go true e = absurd (cc)
    go false e = stored_by (seat_of_sender k.entry.id (or_none view)) w.pending k e

abbrev StayAll : Option Decision → List Kept → Type 0
StayAll view pending = AllByRecursion (λ (k : Kept). stays_pending (or_none view) k ≡ true) pending

stay_by : (view : Option Decision) (how : Putting) (k : Kept) (w : Waiting) → (how ≡ Stored → stays_pending (or_none view) k ≡ true) → StayAll view w.pending → StayAll view (put_as how k w).pending
stay_by view Filled k w stays all = all
stay_by view Stored k w stays all = all_joined (λ (k : Kept). stays_pending (or_none view) k ≡ true) (filter (λ (other : Kept). waits_before other k) w.pending) _
    (all_filtered (λ (k : Kept). stays_pending (or_none view) k ≡ true) (λ (other : Kept). waits_before other k) w.pending all)
    (stays refl, all_filtered (λ (k : Kept). stays_pending (or_none view) k ≡ true) (λ (other : Kept). not (waits_before other k)) w.pending all)
stay_by view Known k w stays all = all
stay_by view Stranger k w stays all = all
stay_by view OutOfRange k w stays all = all

held_by_put : (how : Putting) (k : Kept) (w : Waiting) (hold : Option Hold) → IfSome hold (IsHeldFor w.held) → IfSome hold (IsHeldFor (put_as how k w).held)
held_by_put how k w None h = tt
held_by_put Filled k w (Some hold) h = λ take. go w.held (h take)
  where
    go : (o : Option Held) → IfSome o (λ x. x.decision.group ≤ hold.promised) → IfSome (option_map (with_payload k) o) (λ x. x.decision.group ≤ hold.promised)
    go None h = tt
    go (Some x) h = h
held_by_put Stored k w (Some hold) h = h
held_by_put Known k w (Some hold) h = h
held_by_put Stranger k w (Some hold) h = h
held_by_put OutOfRange k w (Some hold) h = h

pub put_update : (n : ℕ) (view : Option Decision) (u : Kept) (o : Recent) (k new : Stock) (hold : Option Hold) (seq : ℕ) → new ≡ record k { waiting = after_put view u k.waiting } → UpdatesFit n view o k hold seq → UpdatesFit n view o new hold seq
put_update n view u o k new hold seq is updates = rw is (record {
  listed = updates.listed;
  settled = stay_by view (putting view u k.waiting) u k.waiting (stored_stays view u k.waiting) updates.settled;
  held_for = held_by_put (putting view u k.waiting) u k.waiting hold updates.held_for;
  size = updates.size;
  numbered = updates.numbered;
})

-- and it may be put
view_ascends : (n : ℕ) (view : Option Decision) → IfSome view (DecisionFits n) → Ascends (or_none view).seats.items
view_ascends n None fits = tt
view_ascends n (Some d) fits = fits.ascending

view_below : (n : ℕ) (view : Option Decision) → IfSome view (DecisionFits n) → AllByRecursion (λ (s : Seat). s.member.who < n) (or_none view).seats.items
view_below n None fits = tt
view_below n (Some d) fits = all_weaker (SeatFits n) (λ (s : Seat). s.member.who < n) (λ s h. h.who) d.seats.items fits.seats

pub may_put : (n : ℕ) (view : Option Decision) (u : Kept) (o : Recent) (k : Stock) (hold : Option Hold) (seq : ℕ) → IfSome view (DecisionFits n) → UpdateFits n u → UpdatesFit n view o k hold seq → MayPut k.n view u k.waiting.pending
may_put n view u o k hold seq view_fits fits updates = rw updates.size (record { first = fits.entry.id.first; last = fits.entry.id.last; ascending = view_ascends n view view_fits; below = view_below n view view_fits; settled = updates.settled })

-- ---- an update of the process's own life that comes back to it

abbrev after_own : (seated : Bool) → Putting
after_own true = Known
after_own false = Stranger

own_at_seat : (next : ℕ) (pending : List Kept) (k : Kept) → known_if_own true (put_at_seat next pending k) ≡ Known
own_at_seat next pending k = go (nat_lt k.entry.id.seq next || has_update k.entry.id pending) (nat_le (next + pending_room) k.entry.id.seq)
  where
    go : (a b : Bool) → known_if_own true (cond a Known (cond b OutOfRange Stored)) ≡ Known
    go true b = refl
    go false true = refl
    go false false = refl

own_by_seats : (p : Seat → Bool) (seats : List Seat) (pending : List Kept) (k : Kept) → known_if_own true (put_by_seat (find p seats) pending k) ≡ after_own (list_any p seats)
own_by_seats p [] pending k = refl
own_by_seats p (s ∷ seats) pending k = go (p s) (own_by_seats p seats pending k)
  where
    go : (b : Bool) → known_if_own true (put_by_seat (find p seats) pending k) ≡ after_own (list_any p seats) → known_if_own true (put_by_seat (cond b (Some s) (find p seats)) pending k) ≡ after_own (b || list_any p seats)
    go true h = own_at_seat s.next pending k
    go false h = h

abbrev came_back : Member → Kept → Waiting → Bool
came_back me k w = is_same_member (sender k.entry.id) me && not (is_hole k.entry.id w.held)

abbrev received_by : (own hole : Bool) → Option Decision → Kept → Waiting → Putting
received_by own hole view k w = known_if_own own (cond hole Filled (put_by_seat (seat_of_sender k.entry.id (or_none view)) w.pending k))

pub own_received : (me : Member) (view : Option Decision) (k : Kept) (w : Waiting) (seated : Bool) → came_back me k w ≡ true
    → list_any (is_seat_of (sender k.entry.id)) (or_none view).seats.items ≡ seated → putting_received me view k w ≡ after_own seated
own_received me view k w seated back seat = go (is_same_member (sender k.entry.id) me) (is_hole k.entry.id w.held) back
  where
    go : (own hole : Bool) → (own && not hole) ≡ true → received_by own hole view k w ≡ after_own seated
    go true false e = own_by_seats (is_seat_of (sender k.entry.id)) (or_none view).seats.items w.pending k ∙ ap after_own seat
    go true true e = absurd (cc)
    go false hole e = absurd (cc)

-- any other one, and one that fills a hole, is received as it is put
pub received_as_put : (me : Member) (view : Option Decision) (k : Kept) (w : Waiting) → came_back me k w ≡ false → putting_received me view k w ≡ putting view k w
received_as_put me view k w back = go (is_same_member (sender k.entry.id) me) (is_hole k.entry.id w.held) back
  where
    same : (how : Putting) → known_if_own false how ≡ how
    same Filled = refl
    same Stored = refl
    same Known = refl
    same Stranger = refl
    same OutOfRange = refl

    go : (own hole : Bool) → (own && not hole) ≡ false → received_by own hole view k w ≡ cond hole Filled (put_by_seat (seat_of_sender k.entry.id (or_none view)) w.pending k)
    go true true e = refl
    go true false e = absurd (cc)
    go false hole e = same (cond hole Filled (put_by_seat (seat_of_sender k.entry.id (or_none view)) w.pending k))

-- what is received, by the state that stands for the process
pub received_here : (c : State) (p : Process) (k : Kept) → StandsFor c p → received_as p k ≡ putting_received (member_of (identity_seen c.identity)) (view_decision (belief_seen c.belief)) k c.store.waiting
received_here c p k s = rw (s.identity, s.belief, s.waiting) refl
