-- A decision that grew by entries that came one after the other.
use Rattle.std.proofs.Common.{◌≡◌, refl, ℕ, ◌+◌, ◌<◌, ◌≤◌, true, false, List, [], ◌∷◌, ◌++◌, length, inl, inr, ◌⊎◌, arith, sym, ap, ◌∙◌, subst, length-append}
use Rattle.std.specs.List.{AllByRecursion}
use Rattle.std.proofs.lemmas.List.{length-map}
use Rattle.std.proofs.lemmas.Bool.Decides.{nat_tests}
use Rattle.tw_types.specs.declared.team.Team.{Team}
use Rattle.tw_types.specs.declared.message.UpdateId.{UpdateId}
use Rattle.tw_types.specs.declared.message.Entry.{Entry}
use Rattle.tw_types.specs.declared.message.Kept.{Kept}
use Rattle.tw_types.specs.declared.message.Seat.{Seat}
use Rattle.tw_types.specs.declared.message.Decision.{Decision}
use Rattle.tw_types.specs.Ranges.{Ascends, SentFits}
use Rattle.tw_types.specs.Decisions.{decision_length, is_seat_of}
use Rattle.update_store.specs.Stock.{HasNumber}
use Rattle.tw_types.specs.Turns.{DraftFits}
use Rattle.tw_types.specs.Updates.{sender}
use Rattle.tw_types.specs.Appending.{is_candidate, is_ripe, may_come, has_room, MayBeAppended, IsAppended, appended_list, raised, with_appended, IsNextEntry}
use Rattle.tw_types.proofs.Appended.{appended_is}
use Rattle.order_rules.specs.Next.{room_for_one, GoesOn, Ends, Empty, Full}
use Rattle.order_rules.specs.Next as next
use Rattle.order_rules.proofs.Lists.{holds_of, holds_of_each, both}
use Rattle.order_rules.proofs.Longest.{longest, one_appended, room_by, has_room_by, NoneFollows, IsFull}
use Rattle.order_rules.proofs.Unique.{WaitForSeats, seat_of, one_seat}
use Rattle.order_rules.proofs.Fits.{one_more_fits}
use Rattle.order_rules.proofs.Shift.{EachIsFirst, each_is_next, one_more_first, with_one_more, may_come_with, with_nothing}

pub record Grown (team : Team) (t passed : ℕ) (pending : List Kept) (d e : Decision) : Type 0 where
  pub entries : List Entry
  pub each : EachIsFirst team t d pending entries
  pub room : has_room passed d pending entries ≡ true
  pub grown : e ≡ with_appended entries d
  pub fits : (n : ℕ) → DraftFits n d → AllByRecursion (λ (k : Kept). SentFits n k.entry) pending → DraftFits n e

pub not_grown : (team : Team) (t passed : ℕ) (pending : List Kept) (d : Decision) → Grown team t passed pending d d
not_grown team t passed pending d = record { entries = []; each = tt; room = refl; grown = sym (with_nothing d); fits = λ n fits sent. fits }

-- ---- room

window_with : (d : Decision) (entries : List Entry) → length (with_appended entries d).window.items ≡ length d.window.items + length entries
window_with d entries = length-append d.window.items entries

room_shifted : (passed : ℕ) (d : Decision) (entries : List Entry) → room_for_one passed (with_appended entries d) ≡ room_by (length d.window.items) (decision_length d) passed (length entries + 1)
room_shifted passed d entries =
    let window : length (d.window.items ++ entries) + 1 ≡ length d.window.items + (length entries + 1) = omega (arith, window_with d entries) in
    let end : d.low + length (d.window.items ++ entries) + 1 ≡ d.low + length d.window.items + (length entries + 1) = omega (arith, window_with d entries) in
    rw (window, end) refl

-- ---- one entry more, and the end

pub grown_more : (team : Team) (t passed : ℕ) (pending : List Kept) (d e : Decision) (x : Entry) → Ascends e.seats.items → AllByRecursion (λ (s : Seat). is_seat_of (sender x.id) s ≡ true → s.next < 4294967295) e.seats.items → Grown team t passed pending d e → GoesOn team t passed e pending x → Grown team t passed pending d (with_appended (x ∷ []) e)
grown_more team t passed pending d e x up left g on =
    let next : IsNextEntry team t (with_appended g.entries d) pending [] x = subst (λ z. IsNextEntry team t z pending [] x) g.grown on.next in
    let room : room_for_one passed (with_appended g.entries d) ≡ true = ap (room_for_one passed) (sym g.grown) ∙ on.room in
    record {
      entries = g.entries ++ x ∷ [];
      each = one_more_first team t d pending g.entries x g.each next;
      room = has_room_by passed d pending (g.entries ++ x ∷ []) (length g.entries) (length-append g.entries (x ∷ [])) ∙ (sym (room_shifted passed d g.entries) ∙ room);
      grown = ap (with_appended (x ∷ [])) g.grown ∙ sym (with_one_more g.entries x d);
      fits = λ n fits sent. one_more_fits n team t passed e pending x up left on sent (g.fits n fits sent);
    }

nothing_follows : (team : Team) (t passed : ℕ) (pending : List Kept) (d : Decision) (entries : List Entry) → Ends team t passed (with_appended entries d) pending → NoneFollows team t d pending entries ⊎ IsFull passed d pending entries
nothing_follows team t passed pending d entries (Empty none) =
    inl (holds_of_each (λ (k : Kept). may_come team t d entries k ≡ false) pending
    (λ k c. may_come_with team t d entries k ∙ holds_of (λ (k : Kept). may_come team t (with_appended entries d) [] k ≡ false) pending k none c))
nothing_follows team t passed pending d entries (Full full) =
    inr (λ others e. has_room_by passed d pending others (length entries) e ∙ (sym (room_shifted passed d entries) ∙ full))

pub appended : (team : Team) (t passed : ℕ) (pending : List Kept) (d e : Decision) → Ascends d.seats.items → WaitForSeats d pending → Grown team t passed pending d e → Ends team t passed e pending → (entries : List Entry) × IsAppended team t passed d pending entries × (e ≡ with_appended entries d)
appended team t passed pending d e up order g ends =
    let may : MayBeAppended team t passed d pending g.entries = record { each = each_is_next team t d pending g.entries g.each; room = g.room } in
    let end = nothing_follows team t passed pending d g.entries (subst (λ z. Ends team t passed z pending) g.grown ends) in
    (g.entries, longest team t passed d pending g.entries up order may end, g.grown)

-- and that list is the one of the definition
pub listed : (team : Team) (t passed : ℕ) (pending : List Kept) (d e : Decision) → Ascends d.seats.items → WaitForSeats d pending → Grown team t passed pending d e → Ends team t passed e pending → e ≡ with_appended (appended_list team t passed d pending) d
listed team t passed pending d e up order g ends =
    let r = appended team t passed pending d e up order g ends in
    r.2 ∙ ap (λ (entries : List Entry). with_appended entries d) (one_appended team t passed d pending r.0 (appended_list team t passed d pending) up order r.1 (appended_is team t passed d pending up))

-- ---- seats

-- the next number of the seat that sent the entry is that of a pending update, so one more is below the greatest number
pub number_left : (team : Team) (t : ℕ) (d : Decision) (pending : List Kept) (e : Entry) → Ascends d.seats.items → (0 < length d.seats.items → AllByRecursion HasNumber pending) → IsNextEntry team t d pending [] e → AllByRecursion (λ (s : Seat). is_seat_of (sender e.id) s ≡ true → s.next < 4294967295) d.seats.items
number_left team t d pending e up numbers next =
    let can : is_candidate d [] next.update ≡ true = (both (is_candidate d [] next.update) (is_ripe team t next.update.entry) next.ripe).0 in
    let own = seat_of d [] next.update can in
    let last : next.update.entry.id.seq ≤ 4294967294 = (holds_of HasNumber pending next.update (numbers (omega (arith, own.1.seated.1))) next.waits).last in
    let sent : e.id ≡ next.update.entry.id = ap (λ (x : Entry). x.id) next.entry in
    let seq : next.update.entry.id.seq ≡ own.0.next = own.1.seq ∙ omega arith in
    holds_of_each (λ (s : Seat). is_seat_of (sender e.id) s ≡ true → s.next < 4294967295) d.seats.items
    (λ s c is. let who : s.member.who ≡ e.id.who = grind (arith, nat_tests) in
    let same : s ≡ own.0 = one_seat d.seats.items s own.0 up c own.1.seated (who ∙ (ap (λ (id : UpdateId). id.who) sent ∙ sym own.1.who)) in
    let number : s.next ≡ next.update.entry.id.seq = ap (λ (s : Seat). s.next) same ∙ sym seq in
    omega arith)

pub same_seats : (team : Team) (t passed : ℕ) (pending : List Kept) (d e : Decision) → Grown team t passed pending d e → length e.seats.items ≡ length d.seats.items
same_seats team t passed pending d e g = ap (λ (d : Decision). length d.seats.items) g.grown ∙ length-map d.seats.items (raised g.entries)
