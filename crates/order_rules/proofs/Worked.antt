-- The appended entries, worked out by hand.
use Rattle.std.proofs.Common.{◌≡◌, refl, ℕ, true, false, List, [], ◌∷◌, ◌++◌, None, map, replicate}
use Rattle.tw_types.specs.declared.message.Entry.{Entry}
use Rattle.tw_types.specs.declared.message.Kept.{Kept}
use Rattle.tw_types.specs.declared.message.Order.{Order}
use Rattle.tw_types.specs.declared.message.Order.TheVariants.{Unordered, Total, Timed}
use Rattle.tw_types.specs.declared.message.Atom.TheVariants.{Weak}
use Rattle.tw_types.specs.declared.message.Seat.{Seat}
use Rattle.tw_types.specs.declared.message.TimeMark.{TimeMark}
use Rattle.tw_types.specs.declared.message.Decision.{Decision}
use Rattle.tw_types.specs.Decisions.{no_decision}
use Rattle.tw_types.specs.Examples.{team_a}
use Rattle.tw_types.specs.Appending.{IsAppended, with_appended}
use Rattle.order_rules.proofs.Computed.{Computes, computed}

-- an update of a process, ordered or not, with its number and its stamp
abbrev entry : (who : ℕ) → Order → (seq stamp : ℕ) → Entry
entry who order seq stamp = record { id = record { who = who; incarnation = 10; seq = seq }; order = order; atom = Weak; stamp = stamp; late = false }

abbrev waits : Entry → Kept
waits e = record { entry = e; early = false; payload = record { items = [] } }

abbrev seat : (who next : ℕ) → Seat
seat who next = record { member = record { who = who; incarnation = 10 }; next = next; support = None }

abbrev three_seats : (a b c : ℕ) → List Seat
three_seats a b c = seat 0 a ∷ seat 1 b ∷ seat 2 c ∷ []

abbrev decision : Decision
decision = record no_decision { seats = record { items = three_seats 1 1 1 } }

-- theta is 30000
abbrev Appends : (t passed : ℕ) → Decision → (pending entries : List Entry) → Type 0
Appends t passed d pending entries = IsAppended team_a t passed d (map waits pending) entries

abbrev by_tests : (t passed : ℕ) (d : Decision) (pending entries : List Entry) → Computes team_a t passed d (map waits pending) entries → Appends t passed d pending entries
by_tests t passed d pending entries = computed team_a t passed d (map waits pending) entries

-- ---- timed updates

abbrev two_timed : List Entry
two_timed = entry 1 Timed 1 714000 ∷ entry 2 Timed 1 714000 ∷ []

unripe : Appends 743999 0 decision two_timed []
unripe = by_tests 743999 0 decision two_timed [] (record { ascending = refl; order = refl; added = refl; room = refl; end = refl })

ripe : Appends 744000 0 decision two_timed two_timed
ripe = by_tests 744000 0 decision two_timed two_timed (record { ascending = refl; order = refl; added = refl; room = refl; end = refl })

abbrev mark : (stamp who seq : ℕ) → TimeMark
mark stamp who seq = record { stamp = stamp; who = who; seq = seq }

abbrev with_two : Decision
with_two = record decision { mark = mark 714000 2 1; seats = record { items = three_seats 1 2 2 }; window = record { items = two_timed } }

two_appended : with_appended two_timed decision ≡ with_two
two_appended = refl

-- one with a lower stamp comes then
abbrev lower : Entry
lower = entry 0 Timed 1 713000

late_one : Appends 744000 0 with_two (lower ∷ []) (record lower { late = true } ∷ [])
late_one = by_tests 744000 0 with_two (lower ∷ []) (record lower { late = true } ∷ []) (record { ascending = refl; order = refl; added = refl; room = refl; end = refl })

mark_stays : (with_appended (record lower { late = true } ∷ []) with_two).mark ≡ mark 714000 2 1
mark_stays = refl

-- ---- orders

abbrev mixed : (stamp : ℕ) → List Entry
mixed stamp = entry 0 Total 1 0 ∷ entry 1 Timed 1 stamp ∷ entry 1 Total 2 0 ∷ entry 2 Unordered 1 0 ∷ []

timed_first : Appends 744000 0 decision (mixed 714000) (entry 1 Timed 1 714000 ∷ entry 0 Total 1 0 ∷ entry 1 Total 2 0 ∷ entry 2 Unordered 1 0 ∷ [])
timed_first = by_tests 744000 0 decision (mixed 714000) (entry 1 Timed 1 714000 ∷ entry 0 Total 1 0 ∷ entry 1 Total 2 0 ∷ entry 2 Unordered 1 0 ∷ []) (record { ascending = refl; order = refl; added = refl; room = refl; end = refl })

-- an unripe one holds back the later ones of its sender, and no others
held_back : Appends 744000 0 decision (mixed 714001) (entry 0 Total 1 0 ∷ entry 2 Unordered 1 0 ∷ [])
held_back = by_tests 744000 0 decision (mixed 714001) (entry 0 Total 1 0 ∷ entry 2 Unordered 1 0 ∷ []) (record { ascending = refl; order = refl; added = refl; room = refl; end = refl })

-- ---- room

abbrev two_total : List Entry
two_total = entry 0 Total 1 0 ∷ entry 1 Total 1 0 ∷ []

abbrev first_total : List Entry
first_total = entry 0 Total 1 0 ∷ []

abbrev long : ℕ → Decision
long low = record decision { low = low }

one_below_64 : Appends 0 0 (long 63) two_total first_total
one_below_64 = by_tests 0 0 (long 63) two_total first_total (record { ascending = refl; order = refl; added = refl; room = refl; end = refl })

at_64 : Appends 0 0 (long 64) two_total []
at_64 = by_tests 0 0 (long 64) two_total [] (record { ascending = refl; order = refl; added = refl; room = refl; end = refl })

one_passed : Appends 0 1 (long 64) two_total first_total
one_passed = by_tests 0 1 (long 64) two_total first_total (record { ascending = refl; order = refl; added = refl; room = refl; end = refl })

last_but_one : Appends 0 1152921504606846974 (long 1152921504606846974) two_total first_total
last_but_one = by_tests 0 1152921504606846974 (long 1152921504606846974) two_total first_total (record { ascending = refl; order = refl; added = refl; room = refl; end = refl })

no_position_left : Appends 0 1152921504606846975 (long 1152921504606846975) two_total []
no_position_left = by_tests 0 1152921504606846975 (long 1152921504606846975) two_total [] (record { ascending = refl; order = refl; added = refl; room = refl; end = refl })

abbrev copies : ℕ → List Entry
copies n = replicate n (entry 2 Total 1 0)

abbrev filled : ℕ → Decision
filled n = record decision { window = record { items = copies n } }

window_of_31 : Appends 0 0 (filled 31) two_total first_total
window_of_31 = by_tests 0 0 (filled 31) two_total first_total (record { ascending = refl; order = refl; added = refl; room = refl; end = refl })

window_of_32 : Appends 0 0 (filled 32) two_total []
window_of_32 = by_tests 0 0 (filled 32) two_total [] (record { ascending = refl; order = refl; added = refl; room = refl; end = refl })

-- ---- five processes with eight updates each fill a window

abbrev eight : (who : ℕ) → List Entry
eight who = map (λ (seq : ℕ). entry who Total seq 0) (1 ∷ 2 ∷ 3 ∷ 4 ∷ 5 ∷ 6 ∷ 7 ∷ 8 ∷ [])

abbrev five_seats : Decision
five_seats = record no_decision { seats = record { items = map (λ (who : ℕ). seat who 1) (0 ∷ 1 ∷ 2 ∷ 3 ∷ 4 ∷ []) } }

abbrev thirty_two : List Entry
thirty_two = eight 0 ++ eight 1 ++ eight 2 ++ eight 3

full_window : Appends 0 0 five_seats (thirty_two ++ eight 4) thirty_two
full_window = by_tests 0 0 five_seats (thirty_two ++ eight 4) thirty_two (record { ascending = refl; order = refl; added = refl; room = refl; end = refl })
