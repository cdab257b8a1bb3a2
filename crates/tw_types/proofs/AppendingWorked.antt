-- The appended list where one or two updates wait, worked out by hand.
use Rattle.std.proofs.Common.{◌≡◌, refl, ℕ, false, true, List, [], ◌∷◌, None}
use Rattle.tw_types.specs.declared.message.Order.{Order}
use Rattle.tw_types.specs.declared.message.Order.TheVariants.{Timed, Total}
use Rattle.tw_types.specs.declared.message.Atom.TheVariants.{Weak}
use Rattle.tw_types.specs.declared.message.Entry.{Entry}
use Rattle.tw_types.specs.declared.message.Kept.{Kept}
use Rattle.tw_types.specs.declared.message.Seat.{Seat}
use Rattle.tw_types.specs.declared.message.Decision.{Decision}
use Rattle.tw_types.specs.Decisions.{no_decision}
use Rattle.tw_types.specs.Examples.{team_a}
use Rattle.tw_types.specs.Appending.{appended_list, with_appended}

abbrev entry : (who seq : ℕ) → Order → (stamp : ℕ) → Entry
entry who seq order stamp = record { id = record { who = who; incarnation = 5; seq = seq }; order = order; atom = Weak; stamp = stamp; late = false }

abbrev update : (who seq : ℕ) → Order → (stamp : ℕ) → Kept
update who seq order stamp = record { entry = entry who seq order stamp; early = false; payload = record { items = [] } }

abbrev seat : (who next : ℕ) → Seat
seat who next = record { member = record { who = who; incarnation = 5 }; next = next; support = None }

abbrev of_seats : List Seat → Decision
of_seats seats = record no_decision { seats = record { items = seats } }

abbrev three : Decision
three = of_seats (seat 0 1 ∷ seat 1 1 ∷ seat 2 1 ∷ [])

abbrev two_timed : List Kept
two_timed = update 1 1 Timed 714000 ∷ update 2 1 Timed 714000 ∷ []

before_theta : appended_list team_a 743999 0 three two_timed ≡ []
unfolding appended_list
before_theta = refl

at_theta : appended_list team_a 744000 0 three two_timed ≡ entry 1 1 Timed 714000 ∷ entry 2 1 Timed 714000 ∷ []
unfolding appended_list
at_theta = refl

with_both : with_appended (appended_list team_a 744000 0 three two_timed) three ≡ record three {
  mark = record { stamp = 714000; who = 2; seq = 1 };
  seats = record { items = seat 0 1 ∷ seat 1 2 ∷ seat 2 2 ∷ [] };
  window = record { items = entry 1 1 Timed 714000 ∷ entry 2 1 Timed 714000 ∷ [] };
}
unfolding appended_list
with_both = refl

-- one with a lower stamp that comes afterwards is late, and the mark stays
abbrev after_both : Decision
after_both = record three { mark = record { stamp = 714000; who = 2; seq = 1 } }

late_one : appended_list team_a 744000 0 after_both (update 0 1 Timed 713000 ∷ []) ≡ record (entry 0 1 Timed 713000) { late = true } ∷ []
unfolding appended_list
late_one = refl

mark_stays : (with_appended (record (entry 0 1 Timed 713000) { late = true } ∷ []) after_both).mark ≡ after_both.mark
mark_stays = refl

-- a timed one goes before others, and its sender's next one waits for it
timed_first : appended_list team_a 744000 0 three (update 0 1 Total 0 ∷ update 1 1 Timed 714000 ∷ update 1 2 Total 0 ∷ []) ≡ entry 1 1 Timed 714000 ∷ entry 0 1 Total 0 ∷ entry 1 2 Total 0 ∷ []
unfolding appended_list
timed_first = refl

unripe_holds_back : appended_list team_a 743999 0 three (update 0 1 Total 0 ∷ update 1 1 Timed 714000 ∷ update 1 2 Total 0 ∷ []) ≡ entry 0 1 Total 0 ∷ []
unfolding appended_list
unripe_holds_back = refl

-- the list has room for 64 beyond what was passed
abbrev at_length : ℕ → Decision
at_length low = record three { low = low }

one_more : appended_list team_a 744000 0 (at_length 63) two_timed ≡ entry 1 1 Timed 714000 ∷ []
unfolding appended_list
one_more = refl

no_more : appended_list team_a 744000 0 (at_length 64) two_timed ≡ []
unfolding appended_list
no_more = refl

passed_one : appended_list team_a 744000 1 (at_length 64) two_timed ≡ entry 1 1 Timed 714000 ∷ []
unfolding appended_list
passed_one = refl
