-- What waits, worked out by hand: updates that are put, and a decision that is held.
use Rattle.std.proofs.Common.{◌≡◌, refl, ℕ, false, true, List, [], ◌∷◌, Option, Some, None, map}
use Rattle.tw_types.specs.declared.message.UpdateId.{UpdateId}
use Rattle.tw_types.specs.declared.message.Order.{Order}
use Rattle.tw_types.specs.declared.message.Order.TheVariants.{Unordered, Total}
use Rattle.tw_types.specs.declared.message.Atom.{Atom}
use Rattle.tw_types.specs.declared.message.Atom.TheVariants.{Weak, Strong}
use Rattle.tw_types.specs.declared.message.Kept.{Kept}
use Rattle.tw_types.specs.declared.message.Seat.{Seat}
use Rattle.tw_types.specs.declared.message.Decision.{Decision}
use Rattle.tw_types.specs.Decisions.{no_decision}
use Rattle.tw_types.specs.Updates.{settled, next_weak}
use Rattle.tw_types.specs.Waiting.{Waiting, Putting, Filled, Stored, Known, Stranger, OutOfRange, nothing_waits, putting, after_put, holding, holes_of, first_hole, is_hole, released, settled_by, marked_early, payloads_of, held_payloads}
use Rattle.tw_types.specs.Updates.{find_update}

abbrev id_of : (who incarnation seq : ℕ) → UpdateId
id_of who incarnation seq = record { who = who; incarnation = incarnation; seq = seq }

-- an update with one byte, which is its number
abbrev update : UpdateId → Kept
update id = record {
  entry = record { id = id; order = Total; atom = Weak; stamp = 0; late = false };
  early = false;
  payload = record { items = id.seq ∷ [] };
}

abbrev early : Kept → Kept
early k = record k { early = true }

abbrev seat : (who next : ℕ) → Seat
seat who next = record { member = record { who = who; incarnation = 5 }; next = next; support = None }

abbrev view : Option Decision
view = Some (record no_decision { seats = record { items = seat 0 1 ∷ seat 1 3 ∷ seat 2 4294967290 ∷ [] } })

abbrev waiting : List Kept → Waiting
waiting pending = record { pending = pending; held = None }

abbrev what_becomes : (who incarnation seq : ℕ) → List Kept → Putting
what_becomes who incarnation seq pending = putting view (update (id_of who incarnation seq)) (waiting pending)

below_next : what_becomes 1 5 2 [] ≡ Known
below_next = refl

next_one : what_becomes 1 5 3 [] ≡ Stored
next_one = refl

pending_already : what_becomes 1 5 3 (update (id_of 1 5 3) ∷ []) ≡ Known
pending_already = refl

eighth : what_becomes 1 5 10 [] ≡ Stored
eighth = refl

ninth : what_becomes 1 5 11 [] ≡ OutOfRange
ninth = refl

of_another_life : what_becomes 1 6 3 [] ≡ Stranger
of_another_life = refl

of_no_seat : what_becomes 3 5 1 [] ≡ Stranger
of_no_seat = refl

-- the numbers that are awaited go past the last one that there is
just_below_next : what_becomes 2 5 4294967289 [] ≡ Known
just_below_next = refl

last_number : what_becomes 2 5 4294967294 [] ≡ Stored
last_number = refl

without_a_view : putting None (update (id_of 1 5 3)) nothing_waits ≡ Stranger
without_a_view = refl

-- whenever they come, they wait by who sent them, and by their numbers
in_order : (after_put view (update (id_of 1 5 3)) (after_put view (update (id_of 2 5 4294967294)) (after_put view (update (id_of 0 5 8)) (after_put view (update (id_of 1 5 10)) nothing_waits)))).pending
    ≡ update (id_of 0 5 8) ∷ update (id_of 1 5 3) ∷ update (id_of 1 5 10) ∷ update (id_of 2 5 4294967294) ∷ []
in_order = refl

-- a higher next drops what is below it, a lower one what is too far ahead, and without a seat none stays
abbrev two_pending : List Kept
two_pending = update (id_of 1 5 3) ∷ update (id_of 1 5 10) ∷ []

abbrev next_of_one : ℕ → Decision
next_of_one next = record no_decision { seats = record { items = seat 1 next ∷ [] } }

next_rises : settled (next_of_one 4) two_pending ≡ update (id_of 1 5 10) ∷ []
next_rises = refl

next_falls : settled (next_of_one 2) two_pending ≡ update (id_of 1 5 3) ∷ []
next_falls = refl

no_seat_left : settled (record no_decision { seats = record { items = seat 0 1 ∷ [] } }) two_pending ≡ []
no_seat_left = refl

-- ---- a held decision: five updates at positions 2 to 6, of which those from 4 on are wanted

abbrev a : UpdateId
a = id_of 0 5 1

abbrev b : UpdateId
b = id_of 0 5 2

abbrev c : UpdateId
c = id_of 0 5 3

abbrev d : UpdateId
d = id_of 1 5 3

abbrev e : UpdateId
e = id_of 1 5 4

abbrev window_of : List UpdateId → Decision
window_of ids = record no_decision { low = 2; window = record { items = map (λ (id : UpdateId). (update id).entry) ids } }

-- one update is pending and was delivered early, one is kept with a decision that was held before
abbrev before : Waiting
before = record {
  pending = early (update c) ∷ [];
  held = Some (record { decision = window_of (d ∷ []); first = 2; source = 1; payloads = update d ∷ [] });
}

abbrev held : Waiting
held = holding (window_of (a ∷ b ∷ c ∷ d ∷ e ∷ [])) 4 2 before

copied_from_both : held_payloads held.held ≡ early (update c) ∷ update d ∷ []
copied_from_both = refl

pending_stays : held.pending ≡ before.pending
pending_stays = refl

one_hole : holes_of held.held ≡ e ∷ []
one_hole = refl

asked_of_the_source : first_hole held.held ≡ Some (e, 2)
asked_of_the_source = refl

before_first_is_no_hole : is_hole a held.held ≡ false
before_first_is_no_hole = refl

-- it is filled though its sender has no seat
filled_by_a_stranger : putting None (update e) held ≡ Filled
filled_by_a_stranger = refl

abbrev full : Waiting
full = after_put None (update e) held

no_hole_left : first_hole full.held ≡ None
no_hole_left = refl

-- a decision without seats keeps nothing pending, and what is held stays
abbrev after_settling : Waiting
after_settling = settled_by no_decision full

found_with_its_mark : find_update c (payloads_of after_settling) ≡ Some (early (update c))
found_with_its_mark = refl

found_as_it_came : find_update e (payloads_of after_settling) ≡ Some (update e)
found_as_it_came = refl

nothing_after_release : payloads_of (released after_settling) ≡ []
nothing_after_release = refl

-- a decision that is held later loses what it doesn't want
newer_loses_others : held_payloads (holding (window_of (d ∷ [])) 2 1 after_settling).held ≡ update d ∷ []
newer_loses_others = refl

-- one payload for an update that stands at two places
at_two_places : holes_of (after_put None (update e) (holding (window_of (e ∷ e ∷ [])) 2 1 nothing_waits)).held ≡ []
at_two_places = refl

held_once : held_payloads (holding (window_of (d ∷ d ∷ [])) 2 1 before).held ≡ update d ∷ []
held_once = refl

-- a pending update is found before a held one of the same id, and marking it leaves the held one
abbrev twice : Waiting
twice = record before { pending = update d ∷ [] }

pending_first : find_update d (payloads_of (marked_early d twice)) ≡ Some (early (update d))
pending_first = refl

held_unmarked : held_payloads (marked_early d twice).held ≡ update d ∷ []
held_unmarked = refl

-- ---- the next weak one

abbrev sent_as : Order → Atom → UpdateId → Kept
sent_as order atom id = record (update id) { entry = record ((update id).entry) { order = order; atom = atom } }

skips_others : next_weak (sent_as Unordered Strong a ∷ sent_as Total Weak b ∷ early (sent_as Unordered Weak c) ∷ sent_as Unordered Weak d ∷ sent_as Unordered Weak e ∷ []) ≡ Some (sent_as Unordered Weak d)
skips_others = refl
