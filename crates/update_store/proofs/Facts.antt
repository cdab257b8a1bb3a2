-- What is true of the fields of a store stays so.
use Rattle.std.proofs.Common.{◌≡◌, ℕ, ◌<◌, ◌≤◌, ◌+◌, ◌-◌, Bool, true, false, List, [], ◌∷◌, ◌++◌, length, map, Option, Some, None, refl, cond, arith, length-append, length-drop}
use Rattle.std.specs.Prelude.{◌||◌, nat_lt, nat_le}
use Rattle.std.specs.Option.{option_map, option_map_or}
use Rattle.std.proofs.lemmas.Bool.Decides.{nat_tests}
use Rattle.std.proofs.lemmas.List.{length-map}
use Rattle.tw_types.specs.declared.message.UpdateId.{UpdateId}
use Rattle.tw_types.specs.declared.message.Entry.{Entry}
use Rattle.tw_types.specs.declared.message.Kept.{Kept}
use Rattle.tw_types.specs.declared.message.Seat.{Seat}
use Rattle.tw_types.specs.declared.message.Decision.{Decision}
use Rattle.tw_types.specs.Decisions.{or_none}
use Rattle.tw_types.specs.Updates.{is_awaited, has_update, settled, stays_pending, marked, seat_of_sender, with_pending, WaitInOrder, pending_room}
use Rattle.tw_types.specs.Waiting.{Waiting, Filled, Stored, Known, OutOfRange, MayPut, entries_from, ids_from, is_hole, payloads_for, putting, put_by_seat, put_at_seat}
use Rattle.update_store.specs.Stock.{HasNumber, IsKeptFor, has_id}
use Rattle.update_store.specs.Inside.{IsInside, stock_of, with_payloads}
use Rattle.update_store.specs.declared.store.HeldDecision.{HeldDecision}
use Rattle.update_store.specs.declared.store.Store.TheInside.{Inside}
use Rattle.update_store.proofs.Ids.{all-filter, length-filter-le, payloads_different, payloads_wanted, length-payloads_for, no_more_than_ids, hole_parts, different-push, all-push}
use Rattle.update_store.proofs.Order.{order_filter, order_marked, numbers_marked, order_with, all_with, length_with}
use Rattle.update_store.proofs.Rooms.{few_seated, one_before, is_seated}

pub settled_inside : (d : Decision) (s : Inside) → IsInside s → IsInside (record s { pending = settled d s.pending })
settled_inside d s h = record {
  stock = record {
    order = order_filter (stays_pending d) s.pending h.stock.order;
    numbers = all-filter HasNumber (stays_pending d) s.pending h.stock.numbers;
    few = omega (arith, length-filter-le (stays_pending d) s.pending, h.stock.few);
    held = h.stock.held;
  };
  alone = h.alone;
  window = h.window;
}

pub marked_inside : (id : UpdateId) (s : Inside) → IsInside s → IsInside (record s { pending = map (marked id) s.pending })
marked_inside id s h = record {
  stock = record {
    order = order_marked id s.pending h.stock.order;
    numbers = numbers_marked id s.pending h.stock.numbers;
    few = omega (arith, length-map s.pending (marked id), h.stock.few);
    held = h.stock.held;
  };
  alone = h.alone;
  window = h.window;
}

pub released_inside : (s : Inside) → IsInside s → IsInside (record s { held = None; payloads = [] })
released_inside s h = record {
  stock = record { order = h.stock.order; numbers = h.stock.numbers; few = h.stock.few; held = tt };
  alone = λ _. refl;
  window = tt;
}

few_ids : (first : ℕ) (d : Decision) → length d.window.items ≤ 32 → length (ids_from first d) ≤ 32
few_ids first d le = omega (arith, length-map (entries_from first d) (λ (e : Entry). e.id), length-drop (first - d.low) d.window.items)

pub held_inside : (s : Inside) (d : Decision) (first source : ℕ) (payloads spare : List Kept) → IsInside s → length d.window.items ≤ 32 →
    IsInside (record s { held = Some (record { decision = d; first = first; source = source }); payloads = payloads_for (ids_from first d) payloads; spare = spare })
held_inside s d first source payloads spare h le = record {
  stock = record {
    order = h.stock.order;
    numbers = h.stock.numbers;
    few = h.stock.few;
    held = record {
      different = payloads_different (ids_from first d) payloads;
      wanted = payloads_wanted (ids_from first d) payloads;
      few = omega (arith, length-payloads_for (ids_from first d) payloads, few_ids first d le);
    };
  };
  alone = λ n. cc;
  window = le;
}

-- ---- a hole that is filled

-- one payload more of a decision that wants it
filled_length : (h : HeldDecision) (payloads : List Kept) (k : Kept) → IsKeptFor (with_payloads payloads h) → length h.decision.window.items ≤ 32 →
    has_id k.entry.id (ids_from h.first h.decision) ≡ true → has_update k.entry.id payloads ≡ false → length payloads < 32
filled_length h payloads k kept le wanted none =
    omega (arith, no_more_than_ids (ids_from h.first h.decision) (k ∷ payloads) (none, kept.different) (wanted, kept.wanted), few_ids h.first h.decision le)

pub filled_room : (n : ℕ) (pending : List Kept) (held : Option HeldDecision) (payloads spare : List Kept) (k : Kept) → IsInside (record { n = n; pending = pending; held = held; payloads = payloads; spare = spare }) →
    is_hole k.entry.id (option_map (with_payloads payloads) held) ≡ true → length payloads < 32
filled_room n pending None payloads spare k inside hole = cc
filled_room n pending (Some h) payloads spare k inside hole =
    let parts = hole_parts k.entry.id (entries_from h.first h.decision) payloads hole in
    filled_length h payloads k inside.stock.held inside.window parts.0 parts.1

pub filled_inside : (n : ℕ) (pending : List Kept) (held : Option HeldDecision) (payloads spare : List Kept) (k : Kept) → IsInside (record { n = n; pending = pending; held = held; payloads = payloads; spare = spare }) →
    is_hole k.entry.id (option_map (with_payloads payloads) held) ≡ true → IsInside (record { n = n; pending = pending; held = held; payloads = payloads ++ k ∷ []; spare = spare })
filled_inside n pending None payloads spare k inside hole = cc
filled_inside n pending (Some h) payloads spare k inside hole =
    let parts = hole_parts k.entry.id (entries_from h.first h.decision) payloads hole in
    let room = filled_length h payloads k inside.stock.held inside.window parts.0 parts.1 in
    record {
      stock = record {
        order = inside.stock.order;
        numbers = inside.stock.numbers;
        few = inside.stock.few;
        held = record {
          different = different-push payloads k inside.stock.held.different parts.1;
          wanted = all-push (λ (x : Kept). has_id x.entry.id (ids_from h.first h.decision) ≡ true) payloads k inside.stock.held.wanted parts.0;
          few = omega (arith, length-append payloads (k ∷ []));
        };
      };
      alone = λ none. cc;
      window = inside.window;
    }

-- ---- what an answer says

not_filled : (seat : Option Seat) (pending : List Kept) (k : Kept) → put_by_seat seat pending k ≡ Filled → ⊥
not_filled None pending k e = cc
not_filled (Some s) pending k e = go (nat_lt k.entry.id.seq s.next || has_update k.entry.id pending) (nat_le (s.next + pending_room) k.entry.id.seq) e
  where
    go : (a b : Bool) → cond a Known (cond b OutOfRange Stored) ≡ Filled → ⊥
    go true b e = cc
    go false true e = cc
    go false false e = cc

pub filled_is_hole : (view : Option Decision) (k : Kept) (w : Waiting) → putting view k w ≡ Filled → is_hole k.entry.id w.held ≡ true
filled_is_hole view k w e = go (is_hole k.entry.id w.held) e
  where
    go : (b : Bool) → cond b Filled (put_by_seat (seat_of_sender k.entry.id (or_none view)) w.pending k) ≡ Filled → b ≡ true
    go true e = refl
    go false e = absurd (not_filled (seat_of_sender k.entry.id (or_none view)) w.pending k e)

stored_at : (next : ℕ) (pending : List Kept) (k : Kept) → put_at_seat next pending k ≡ Stored → (is_awaited next k.entry.id.seq ≡ true) × (has_update k.entry.id pending ≡ false)
stored_at next pending k e = go (has_update k.entry.id pending) refl (nat_lt k.entry.id.seq next) refl (nat_le (next + pending_room) k.entry.id.seq) refl e
  where
    go : (a : Bool) → has_update k.entry.id pending ≡ a → (b : Bool) → nat_lt k.entry.id.seq next ≡ b → (c : Bool) → nat_le (next + pending_room) k.entry.id.seq ≡ c →
        cond (b || a) Known (cond c OutOfRange Stored) ≡ Stored → (is_awaited next k.entry.id.seq ≡ true) × (has_update k.entry.id pending ≡ false)
    go true ea true eb c ec e = cc
    go true ea false eb c ec e = cc
    go false ea true eb c ec e = cc
    go false ea false eb true ec e = cc
    go false ea false eb false ec e = (grind (arith, nat_tests), ea)

stored_by : (seat : Option Seat) (pending : List Kept) (k : Kept) → put_by_seat seat pending k ≡ Stored → (option_map_or (λ (s : Seat). is_awaited s.next k.entry.id.seq) seat false ≡ true) × (has_update k.entry.id pending ≡ false)
stored_by None pending k e = cc
stored_by (Some s) pending k e = stored_at s.next pending k e

pub stored_is : (view : Option Decision) (k : Kept) (w : Waiting) → putting view k w ≡ Stored → (is_seated (or_none view).seats.items k ≡ true) × (has_update k.entry.id w.pending ≡ false)
stored_is view k w e = go (is_hole k.entry.id w.held) e
  where
    go : (b : Bool) → cond b Filled (put_by_seat (seat_of_sender k.entry.id (or_none view)) w.pending k) ≡ Stored → (is_seated (or_none view).seats.items k ≡ true) × (has_update k.entry.id w.pending ≡ false)
    go true e = cc
    go false e = stored_by (seat_of_sender k.entry.id (or_none view)) w.pending k e

-- ---- an update that is stored

stored_order : (view : Option Decision) (k : Kept) (w : Waiting) (n : ℕ) → MayPut n view k w.pending → WaitInOrder w.pending → putting view k w ≡ Stored → WaitInOrder (with_pending k w.pending)
stored_order view k w n may order e =
    let is = stored_is view k w e in
    order_with k w.pending order (one_before (or_none view).seats.items k w.pending may.ascending is.0 may.settled is.1)

stored_length : (view : Option Decision) (k : Kept) (w : Waiting) (n : ℕ) → MayPut n view k w.pending → WaitInOrder w.pending → length (or_none view).seats.items ≤ 15 → putting view k w ≡ Stored → length (with_pending k w.pending) ≤ 120
stored_length view k w n may order le e =
    let is = stored_is view k w e in
    omega (
      arith,
      few_seated (or_none view).seats.items (with_pending k w.pending) may.ascending (stored_order view k w n may order e)
          (all_with (λ (y : Kept). is_seated (or_none view).seats.items y ≡ true) k w.pending is.0 may.settled),
    )

pub stored_room : (view : Option Decision) (k : Kept) (s : Inside) (n : ℕ) → MayPut n view k s.pending → IsInside s → length (or_none view).seats.items ≤ 15 → putting view k (stock_of s).waiting ≡ Stored → length s.pending < 120
stored_room view k s n may h le e = omega (arith, stored_length view k (stock_of s).waiting n may h.stock.order le e, length_with k s.pending)

pub stored_inside : (view : Option Decision) (k : Kept) (s : Inside) (n : ℕ) → MayPut n view k s.pending → IsInside s → length (or_none view).seats.items ≤ 15 → putting view k (stock_of s).waiting ≡ Stored → IsInside (record s { pending = with_pending k s.pending })
stored_inside view k s n may h le e = record {
  stock = record {
    order = stored_order view k (stock_of s).waiting n may h.stock.order e;
    numbers = all_with HasNumber k s.pending (record { first = may.first; last = may.last }) h.stock.numbers;
    few = stored_length view k (stock_of s).waiting n may h.stock.order le e;
    held = h.stock.held;
  };
  alone = h.alone;
  window = h.window;
}
