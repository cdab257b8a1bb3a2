-- The flag at the moments at which it changes, worked out by hand.
use Rattle.std.proofs.Common.{◌≡◌, refl, ℕ, true, false, List, [], ◌∷◌, Option, Some, None}
use Rattle.tw_types.specs.declared.message.Support.{Support}
use Rattle.tw_types.specs.declared.message.Seat.{Seat}
use Rattle.tw_types.specs.declared.message.Decision.{Decision}
use Rattle.tw_types.specs.Votes.{no_vote}
use Rattle.tw_types.specs.Beliefs.{Informed, Blank}
use Rattle.tw_types.specs.Decisions.{no_decision}
use Rattle.tw_types.specs.Flag.{is_up}
use Rattle.tw_types.specs.Examples.{team_a}

-- the seat of a process, which last made a decision of the group at this reading
abbrev seat : ℕ → Option ℕ → Seat
seat who at = record { member = record { who = who; incarnation = 699990 }; next = 1; support = support at }
  where
    support : Option ℕ → Option Support
    support None = None
    support (Some at) = Some (record { ack = 0; at = at })

abbrev group : List Seat → Decision
group seats = record no_decision { group = 7; turn = 1; made = 712000; start = 701001; maker = 2; seats = record { items = seats } }

-- two of three members support it
abbrev two_of_three : Decision
two_of_three = group (seat 0 None ∷ seat 1 (Some 702000) ∷ seat 2 (Some 712000) ∷ [])

before_the_start : is_up team_a no_vote (Informed (Some two_of_three)) (Some 701000) ≡ false
unfolding is_up
before_the_start = refl

from_the_start_on : is_up team_a no_vote (Informed (Some two_of_three)) (Some 701001) ≡ true
unfolding is_up
from_the_start_on = refl

-- the first support counts for a lease, its last moment too
last_moment : is_up team_a no_vote (Informed (Some two_of_three)) (Some 1102000) ≡ true
unfolding is_up
last_moment = refl

lease_over : is_up team_a no_vote (Informed (Some two_of_three)) (Some 1102001) ≡ false
unfolding is_up
lease_over = refl

-- of a group of two processes one is a majority neither of the group nor of the team
one_of_two : is_up team_a no_vote (Informed (Some (group (seat 1 (Some 702000) ∷ seat 2 None ∷ [])))) (Some 712000) ≡ false
unfolding is_up
one_of_two = refl

-- three are more than half of a group of five, and not of a team of seven; four are of both
abbrev five_seats : Option ℕ → Decision
five_seats fourth = group (seat 0 None ∷ seat 1 (Some 702000) ∷ seat 2 (Some 712000) ∷ seat 3 (Some 712000) ∷ seat 4 fourth ∷ [])

three_of_seven : is_up (record team_a { n = 7 }) no_vote (Informed (Some (five_seats None))) (Some 712000) ≡ false
unfolding is_up
three_of_seven = refl

four_of_seven : is_up (record team_a { n = 7 }) no_vote (Informed (Some (five_seats (Some 712000)))) (Some 712000) ≡ true
unfolding is_up
four_of_seven = refl

without_a_reading : is_up team_a no_vote (Informed (Some two_of_three)) None ≡ false
unfolding is_up
without_a_reading = refl

without_a_decision : is_up team_a no_vote (Informed None) (Some 712000) ≡ false
unfolding is_up
without_a_decision = refl

blank : is_up team_a no_vote (Blank (Some two_of_three)) (Some 712000) ≡ false
unfolding is_up
blank = refl
