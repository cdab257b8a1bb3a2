-- The next decision fits the list that it goes on.
use Rattle.std.proofs.Common.{◌≡◌, refl, sym, ap, subst, ◌∙◌, ℕ, ◌+◌, ◌-◌, ◌/◌, ◌<◌, ◌≤◌, nat_eq, max, Bool, true, false, cond, List, [], ◌∷◌, ◌++◌, length, drop, map, filter_map, Some, None, IfSome, is_some, arith, length-drop}
use Rattle.std.specs.Prelude.{◌&&◌}
use Rattle.std.specs.List.{AllByRecursion, list_all, cons_option}
use Rattle.std.proofs.lemmas.Bool.Decides.{nat_tests}
use Rattle.std.proofs.lemmas.List.{length-append}
use Rattle.std.proofs.Math.Seq.{drop-append_seam}
use Rattle.tw_machine.specs.Types.{Team, Entry, Kept, Support, Seat, Decision}
use Rattle.tw_types.specs.Refusals.{first_refusal}
use Rattle.tw_types.specs.Ranges.{Ascends, DecisionFits}
use Rattle.tw_types.specs.Decisions.{decision_length}
use Rattle.tw_types.specs.Updates.{has_update, is_named}
use Rattle.tw_types.specs.Waiting.{entries_from}
use Rattle.tw_types.specs.Logs.{fit_tests_at}
use Rattle.tw_types.specs.Turns.{next_draft, supported, acks, least, raised_low, with_own_support, next_decision}
use Rattle.tw_types.specs.Appending.{raised, with_appended, IsNextEntry, EachIsNext, has_room}
use Rattle.tw_machine.proofs.Tables.{same_number}
use Rattle.node_core.proofs.Listing.{any_of, any_front, drop_both, least_first, least_second}
use Rattle.node_core.proofs.Fitting.{fitting}

-- ---- the least of what the seats have

abbrev IsWithin : ℕ → Seat → Type 0
IsWithin end s = IfSome s.support (λ (support : Support). support.ack ≤ end)

of_first : (end : ℕ) (s : Seat) (seats : List Seat) → IsWithin end s → is_some s.support ≡ true → least (acks (s ∷ seats)) ≤ end
of_first end s seats within some =
    let ack_of : Support → ℕ = λ (support : Support). support.ack in
    let others : List Support = filter_map (λ (s : Seat). s.support) seats in
    (elim s.support as (λ o. IfSome o (λ (support : Support). support.ack ≤ end) → is_some o ≡ true → least (map ack_of (cons_option o others)) ≤ end) [
      | None ↦ (λ w e. absurd (cc))
      | Some x ↦ (λ w e. (let h : least (x.ack ∷ map ack_of others) ≤ x.ack = least_first x.ack (map ack_of others) in omega (arith, h, w)))
    ]) within some

of_second : (end : ℕ) (s1 s2 : Seat) (seats : List Seat) → is_some s1.support ≡ true → IsWithin end s2 → is_some s2.support ≡ true → least (acks (s1 ∷ s2 ∷ seats)) ≤ end
of_second end s1 s2 seats some1 within some2 =
    let ack_of : Support → ℕ = λ (support : Support). support.ack in
    let others : List Support = filter_map (λ (s : Seat). s.support) seats in
    (elim s1.support as (λ o. is_some o ≡ true → least (map ack_of (cons_option o (cons_option s2.support others))) ≤ end) [
      | None ↦ (λ e. absurd (cc))
      | Some a ↦ (λ e. (elim s2.support as (λ o. IfSome o (λ (support : Support). support.ack ≤ end) → is_some o ≡ true → least (map ack_of (a ∷ cons_option o others)) ≤ end) [
        | None ↦ (λ w e. absurd (cc))
        | Some b ↦ (λ w e. (let h : least (a.ack ∷ b.ack ∷ map ack_of others) ≤ b.ack = least_second a.ack b.ack (map ack_of others) in omega (arith, h, w)))
      ]) within some2)
    ]) some1

both : (a b : Bool) → (a && b) ≡ true → (a ≡ true) × (b ≡ true)
both true true e = (refl, refl)
both true false e = absurd (cc)
both false b e = absurd (cc)

-- a seat of the next decision: its next number raised, and its maker's with the new support
abbrev next_seat : ℕ → Support → List Entry → Seat → Seat
next_seat who support entries s = supported who support (raised entries s)

-- The ack of another seat than the maker's is what it was.
another : (end who : ℕ) (support : Support) (entries : List Entry) (seats : List Seat) → 2 ≤ length seats → Ascends seats → AllByRecursion (IsWithin end) seats
    → list_all (λ (s : Seat). is_some s.support) (map (supported who support) (map (raised entries) seats)) ≡ true → least (acks (map (supported who support) (map (raised entries) seats))) ≤ end
another end who support entries [] many ascends within all = absurd (omega (arith, many))
another end who support entries (s ∷ []) many ascends within all = absurd (omega (arith, many))
another end who support entries (s1 ∷ s2 ∷ seats) many ascends within all = go (nat_eq s1.member.who who) refl
  where
    rest : List Seat
    rest = map (supported who support) (map (raised entries) seats)

    some1 : is_some (next_seat who support entries s1).support ≡ true
    some1 = (both (is_some (next_seat who support entries s1).support) (list_all (λ (s : Seat). is_some s.support) (next_seat who support entries s2 ∷ rest)) all).0

    some2 : is_some (next_seat who support entries s2).support ≡ true
    some2 = (both (is_some (next_seat who support entries s2).support) (list_all (λ (s : Seat). is_some s.support) rest)
        (both (is_some (next_seat who support entries s1).support) (list_all (λ (s : Seat). is_some s.support) (next_seat who support entries s2 ∷ rest)) all).1).0

    same : (s : Seat) → nat_eq s.member.who who ≡ false → next_seat who support entries s ≡ raised entries s
    same s e = rw e refl

    go : (b : Bool) → nat_eq s1.member.who who ≡ b → least (acks (next_seat who support entries s1 ∷ next_seat who support entries s2 ∷ rest)) ≤ end
    go false e = of_first end (next_seat who support entries s1) (next_seat who support entries s2 ∷ rest) (subst (IsWithin end) (sym (same s1 e)) within.0) some1
    go true e =
        let below : s1.member.who < s2.member.who = ascends.0.0 in
        let other : nat_eq s2.member.who who ≡ false = grind (arith, nat_tests) in
        of_second end (next_seat who support entries s1) (next_seat who support entries s2) rest some1 (subst (IsWithin end) (sym (same s2 other)) within.1.0) some2

-- so low ends up within what was there before
raised_within : (end low : ℕ) (seats : List Seat) → low ≤ end → (list_all (λ (s : Seat). is_some s.support) seats ≡ true → least (acks seats) ≤ end) → (low ≤ raised_low low seats) × (raised_low low seats ≤ end)
raised_within end low seats below all = go (list_all (λ (s : Seat). is_some s.support) seats) refl
  where
    go : (b : Bool) → list_all (λ (s : Seat). is_some s.support) seats ≡ b → (low ≤ cond b (max low (least (acks seats))) low) × (cond b (max low (least (acks seats))) low ≤ end)
    go true e = let h = all e in (omega arith, omega (arith, h))
    go false e = (omega arith, below)

-- ---- what is added

-- the payload of each entry that is added is pending
pub added_there : (team : Team) (t : ℕ) (d : Decision) (pending others : List Kept) (before entries : List Entry) → EachIsNext team t d pending before entries
    → AllByRecursion (λ (e : Entry). has_update e.id (pending ++ others) ≡ true) entries
added_there team t d pending others before [] each = tt
added_there team t d pending others before (e ∷ entries) each = (there each.0, added_there team t d pending others (before ++ e ∷ []) entries each.1)
  where
    there : IsNextEntry team t d pending before e → has_update e.id (pending ++ others) ≡ true
    there next =
        let id : e.id ≡ next.update.entry.id = ap (λ (e : Entry). e.id) next.entry in
        let named : is_named next.update.entry.id next.update ≡ true = rw (same_number next.update.entry.id.who, same_number next.update.entry.id.incarnation, same_number next.update.entry.id.seq) refl in
        subst (λ x. has_update x (pending ++ others) ≡ true) (sym id) (any_front (is_named next.update.entry.id) pending others (any_of (is_named next.update.entry.id) pending next.update next.waits named))

-- what is added has room behind what was passed
pub added_near : (passed : ℕ) (d : Decision) (pending : List Kept) (entries : List Entry) → decision_length d ≤ passed + 64 → has_room passed d pending entries ≡ true → decision_length d + length entries ≤ passed + 64
added_near passed d pending [] near room = omega (arith, near)
added_near passed d pending (e ∷ entries) near room = search (arith, nat_tests)

-- ---- the next decision

pub next_fits : (n passed t who : ℕ) (payloads : List Kept) (last : Decision) (entries : List Entry) → 3 ≤ n → DecisionFits n last
    → AllByRecursion (λ (e : Entry). has_update e.id payloads ≡ true) entries → decision_length last + length entries ≤ passed + 64
    → first_refusal (fit_tests_at (decision_length last) passed payloads (next_decision entries last t who)) ≡ None
next_fits n passed t who payloads last entries team fits there near =
    let d : Decision = with_own_support (with_appended entries (next_draft last t who)) in
    let w : List Entry = last.window.items in
    let end : ℕ = decision_length last in
    let majority : n / 2 + 1 ≤ length last.seats.items = fits.majority in
    let many : 2 ≤ length last.seats.items = omega (arith, majority, team) in
    let bounds : (last.low ≤ raised_low last.low d.seats.items) × (raised_low last.low d.seats.items ≤ end) =
    raised_within end last.low d.seats.items (omega arith) (another end who _ entries last.seats.items many fits.ascending fits.acks) in
    let low : ℕ = raised_low last.low d.seats.items in
    let above : last.low ≤ low = bounds.0 in
    let within : low ≤ end = bounds.1 in
    let both : length (w ++ entries) ≡ length w + length entries = length-append w entries in
    let left : length (drop (low - last.low) (w ++ entries)) ≡ length (w ++ entries) - (low - last.low) = length-drop (low - last.low) (w ++ entries) in
    let whole : low + length (drop (low - last.low) (w ++ entries)) ≡ end + length entries = omega (arith, above, within, both, left) in
    let skipped : (low - last.low) + (end - low) ≡ length w = omega (arith, above, within) in
    let rest : entries_from end (next_decision entries last t who) ≡ entries =
    drop_both (end - low) (low - last.low) (w ++ entries) ∙ ap (λ (k : ℕ). drop k (w ++ entries)) skipped ∙ drop-append_seam w entries in
    fitting end passed payloads (next_decision entries last t who) within (omega (arith, whole)) (omega (arith, whole, near)) (subst (AllByRecursion (λ (e : Entry). has_update e.id payloads ≡ true)) (sym rest) there)
