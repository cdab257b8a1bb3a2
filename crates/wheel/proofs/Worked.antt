-- Slots, owners, the ring and the promise window, computed at values that were worked out by hand.
use Rattle.std.proofs.Common.{◌≡◌, refl, ℕ, true, false, List, [], ◌∷◌, map, Some, None}
use Rattle.tw_types.specs.declared.message.Decision.{Decision}
use Rattle.tw_types.specs.declared.answer.Reason.TheVariants.{Quarantine, OutOfWindow, Promised}
use Rattle.tw_types.specs.declared.outputs.Mode.TheVariants as modes
use Rattle.tw_types.specs.Examples.{team_a}
use Rattle.tw_types.specs.Decisions.{no_decision}
use Rattle.tw_types.specs.Refusals.{first_refusal}
use Rattle.tw_types.specs.Slots.{slot_of, owner, next_owned, after, is_suspect, is_stuck}
use Rattle.tw_types.specs.Promises.{is_quarantined, number_tests, promise_tests}

-- ---- slots of 100000, and their owners among three

last_of_a_slot : slot_of team_a 99999 ≡ 0
last_of_a_slot = refl

first_of_a_slot : slot_of team_a 100000 ≡ 1
first_of_a_slot = refl

owner_of_7 : owner 3 7 ≡ 1
owner_of_7 = refl

-- 1 owns 7 itself
from_7_by_1 : next_owned 3 7 1 ≡ 7
from_7_by_1 = refl

from_7_by_2 : next_owned 3 7 2 ≡ 8
from_7_by_2 = refl

from_8_by_1 : next_owned 3 8 1 ≡ 10
from_8_by_1 = refl

from_8_by_2 : next_owned 3 8 2 ≡ 8
from_8_by_2 = refl

-- ---- the ring of seats; 1 and 5 have none

abbrev seats_of : List ℕ → Decision
seats_of members = record no_decision { seats = record { items = map (λ who. record { member = record { who = who; incarnation = 699990 }; next = 1; support = None }) members } }

abbrev ring : Decision
ring = seats_of (0 ∷ 2 ∷ 4 ∷ [])

after_0 : after ring 0 ≡ 2
after_0 = refl

after_1 : after ring 1 ≡ 2
after_1 = refl

-- the last one is followed by the first
after_4 : after ring 4 ≡ 0
after_4 = refl

after_5 : after ring 5 ≡ 0
after_5 = refl

-- a single seat follows itself, and every other process
alone_below : after (seats_of (2 ∷ [])) 0 ≡ 2
alone_below = refl

alone : after (seats_of (2 ∷ [])) 2 ≡ 2
alone = refl

alone_above : after (seats_of (2 ∷ [])) 4 ≡ 2
alone_above = refl

-- ---- overdue decisions

abbrev made_at_712000 : Decision
made_at_712000 = record ring { group = 7; turn = 1; made = 712000 }

one_ring : is_suspect team_a (Some made_at_712000) 762000 ≡ false
one_ring = refl

above_one_ring : is_suspect team_a (Some made_at_712000) 762001 ≡ true
above_one_ring = refl

two_rings : is_stuck team_a (Some made_at_712000) 812000 ≡ false
two_rings = refl

above_two_rings : is_stuck team_a (Some made_at_712000) 812001 ≡ true
above_two_rings = refl

nothing_is_suspect : is_suspect team_a None 812001 ≡ false
nothing_is_suspect = refl

nothing_is_stuck : is_stuck team_a None 0 ≡ true
nothing_is_stuck = refl

-- ---- what may be promised: in slot 7 the numbers 6 to 11, in slot 8 from 7 on

two_below : first_refusal (number_tests team_a 0 5 700000) ≡ Some OutOfWindow
two_below = refl

one_below : first_refusal (number_tests team_a 0 6 700000) ≡ None
one_below = refl

four_above : first_refusal (number_tests team_a 0 11 700000) ≡ None
four_above = refl

five_above : first_refusal (number_tests team_a 0 12 700000) ≡ Some OutOfWindow
five_above = refl

promised_itself : first_refusal (number_tests team_a 7 7 700000) ≡ Some (Promised 7)
promised_itself = refl

-- the number that was promised is told
promised_more : first_refusal (number_tests team_a 9 7 700000) ≡ Some (Promised 9)
promised_more = refl

-- the window goes before the promise
below_both : first_refusal (number_tests team_a 12 5 700000) ≡ Some OutOfWindow
below_both = refl

slot_nearly_over : first_refusal (number_tests team_a 0 6 799999) ≡ None
slot_nearly_over = refl

slot_over : first_refusal (number_tests team_a 0 6 800000) ≡ Some OutOfWindow
slot_over = refl

-- ---- quarantine, 1104003 ticks from a restart at 100000 on

quarantine_nearly_over : is_quarantined team_a (record { who = 1; mode = modes.Again; incarnation = 100000; began = 100000 }) 1204002 ≡ true
quarantine_nearly_over = refl

quarantine_over : is_quarantined team_a (record { who = 1; mode = modes.Again; incarnation = 100000; began = 100000 }) 1204003 ≡ false
quarantine_over = refl

started_first : is_quarantined team_a (record { who = 1; mode = modes.First; incarnation = 100000; began = 100000 }) 100000 ≡ false
started_first = refl

-- it goes before the window and the promise
quarantined : first_refusal (promise_tests team_a true 12 5 700000) ≡ Some Quarantine
quarantined = refl

not_quarantined : first_refusal (promise_tests team_a false 12 5 700000) ≡ Some OutOfWindow
not_quarantined = refl
