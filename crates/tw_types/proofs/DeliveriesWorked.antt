-- What is delivered, worked out by hand.
use Rattle.std.proofs.Common.{◌≡◌, refl, ℕ, false, true, List, [], ◌∷◌, Option, Some, None}
use Rattle.tw_types.specs.declared.message.Order.{Order}
use Rattle.tw_types.specs.declared.message.Order.TheVariants.{Unordered, Total, Timed}
use Rattle.tw_types.specs.declared.message.Atom.{Atom}
use Rattle.tw_types.specs.declared.message.Atom.TheVariants.{Weak, Strong, Strict}
use Rattle.tw_types.specs.declared.message.Kept.{Kept}
use Rattle.tw_types.specs.declared.message.Seat.{Seat}
use Rattle.tw_types.specs.declared.message.Decision.{Decision}
use Rattle.tw_types.specs.declared.outputs.How.TheVariants.{Now, Earlier, Late}
use Rattle.tw_types.specs.declared.outputs.Mode.TheVariants.{First}
use Rattle.tw_types.specs.Beliefs.{Informed, Blank, Log}
use Rattle.tw_types.specs.Decisions.{no_decision}
use Rattle.tw_types.specs.Flag.{is_up}
use Rattle.tw_types.specs.Process.{Process, started}
use Rattle.tw_types.specs.Examples.{team_a}
use Rattle.tw_types.specs.Deliveries.{fulfils, pass_of, as_early, passes, run_passed, earlies, earlies_marked, weaks_marked, Deliveries, deliveries, delivered_by, log_delivered, next_pass, next_early}

abbrev update_of : (seq : ℕ) → Order → Atom → Kept
update_of seq order atom = record {
  entry = record { id = record { who = 1; incarnation = 699990; seq = seq }; order = order; atom = atom; stamp = 714000; late = false };
  early = false;
  payload = record { items = 97 ∷ [] };
}

abbrev update : Order → Atom → Kept
update = update_of 1

abbrev late : Kept → Kept
late k = record k { entry = record (k.entry) { late = true } }

-- the seat of a process that made a decision at this reading, when its list was so long
abbrev seat : (who ack at : ℕ) → Seat
seat who ack at = record { member = record { who = who; incarnation = 699990 }; next = 1; support = Some (record { ack = ack; at = at }) }

-- the seat of one that made none yet
abbrev silent : ℕ → Seat
silent who = record { member = record { who = who; incarnation = 699990 }; next = 1; support = None }

-- a decision of group 7, behind whose low stand so many entries
abbrev group : (turn length : ℕ) → List Seat → Decision
group turn length seats = record no_decision { group = 7; turn = turn; start = 701001; low = length; seats = record { items = seats } }

-- a process that took it, with this list, of which nothing is passed, and these pending updates
abbrev process : Option Decision → (entries pending : List Kept) → Process
process last entries pending = record (started 1 First 699990) {
  belief = Informed last;
  log = record { base = 0; entries = entries; passed = 0 };
  waiting = record { pending = pending; held = None };
}

abbrev nothing : Deliveries
nothing = record { passes = []; earlies = []; weaks = [] }

-- ---- a total update that its sender puts into the third decision: weak ones pass there at once, strong ones when a second member
-- has them, and strict ones when the third has

abbrev third : Decision
third = group 3 1 (seat 0 0 722000 ∷ seat 1 1 732000 ∷ seat 2 0 712000 ∷ [])

abbrev fourth : Decision
fourth = group 4 1 (seat 0 0 722000 ∷ seat 1 1 732000 ∷ seat 2 1 742000 ∷ [])

abbrev fifth : Decision
fifth = group 5 1 (seat 0 1 752000 ∷ seat 1 1 732000 ∷ seat 2 1 742000 ∷ [])

weak_at_once : deliveries team_a (Some 732000) (process (Some third) (update Total Weak ∷ []) []) ≡ record nothing { passes = pass_of 0 (update Total Weak) ∷ [] }
unfolding is_up passes run_passed earlies
weak_at_once = refl

passed_now : (pass_of 0 (update Total Weak)).how ≡ Now
passed_now = refl

strong_waits : deliveries team_a (Some 732000) (process (Some third) (update Total Strong ∷ []) []) ≡ nothing
unfolding is_up passes run_passed earlies
strong_waits = refl

strong_with_two : deliveries team_a (Some 742000) (process (Some fourth) (update Total Strong ∷ []) []) ≡ record nothing { passes = pass_of 0 (update Total Strong) ∷ [] }
unfolding is_up passes run_passed earlies
strong_with_two = refl

strict_waits : deliveries team_a (Some 742000) (process (Some fourth) (update Total Strict ∷ []) []) ≡ nothing
unfolding is_up passes run_passed earlies
strict_waits = refl

strict_with_all : deliveries team_a (Some 752000) (process (Some fifth) (update Total Strict ∷ []) []) ≡ record nothing { passes = pass_of 0 (update Total Strict) ∷ [] }
unfolding is_up passes run_passed earlies
strict_with_all = refl

-- ---- an unordered weak update is delivered as it is sent, and when its entry is passed it was delivered earlier

abbrev first : Decision
first = group 1 0 (silent 0 ∷ seat 1 0 702000 ∷ seat 2 0 712000 ∷ [])

as_it_is_sent : deliveries team_a (Some 714000) (process (Some first) [] (update Unordered Weak ∷ [])) ≡ record nothing { weaks = as_early (update Unordered Weak) ∷ [] }
unfolding is_up passes run_passed earlies
as_it_is_sent = refl

marked_as_it_waits : weaks_marked (update Unordered Weak ∷ update Total Weak ∷ []) ≡ as_early (update Unordered Weak) ∷ update Total Weak ∷ []
marked_as_it_waits = refl

no_second_delivery : deliveries team_a (Some 732000) (process (Some third) (as_early (update Unordered Weak) ∷ []) []) ≡ record nothing { passes = record { position = 0; kept = as_early (update Unordered Weak); how = Earlier } ∷ [] }
unfolding is_up passes run_passed earlies
no_second_delivery = refl

-- where it wasn't delivered before
first_delivery : (pass_of 0 (update Unordered Weak)).how ≡ Now
first_delivery = refl

-- a late one is passed as late, whatever its atomicity waits for; a mark on an ordered one means nothing
late_does_not_wait : deliveries team_a (Some 732000) (process (Some third) (late (as_early (update Timed Strict)) ∷ []) [])
    ≡ record nothing { passes = record { position = 0; kept = late (as_early (update Timed Strict)); how = Late } ∷ [] }
unfolding is_up passes run_passed earlies
late_does_not_wait = refl

mark_on_an_ordered_one : (pass_of 0 (as_early (update Total Weak))).how ≡ Now
mark_on_an_ordered_one = refl

-- ---- an unordered strict update at the front waits for the third member: nothing passes, and the strong one behind it is early

abbrev four : List Kept
four = update_of 1 Unordered Strict ∷ update_of 2 Unordered Strong ∷ update_of 3 Total Weak ∷ as_early (update_of 4 Unordered Weak) ∷ []

abbrev two_have_four : Decision
two_have_four = group 8 4 (seat 0 4 722000 ∷ seat 1 4 732000 ∷ seat 2 0 712000 ∷ [])

strong_behind_strict : deliveries team_a (Some 732000) (process (Some two_have_four) four []) ≡ record nothing { earlies = as_early (update_of 2 Unordered Strong) ∷ [] }
unfolding is_up passes run_passed earlies
strong_behind_strict = refl

abbrev log_of : List Kept → Log
log_of entries = record { base = 0; entries = entries; passed = 0 }

second_marked : log_delivered team_a two_have_four (log_of four)
    ≡ log_of (update_of 1 Unordered Strict ∷ as_early (update_of 2 Unordered Strong) ∷ update_of 3 Total Weak ∷ as_early (update_of 4 Unordered Weak) ∷ [])
unfolding run_passed earlies_marked
second_marked = refl

cursor_stays : next_pass team_a two_have_four (log_of four) ≡ None
cursor_stays = refl

second_is_next : next_early team_a two_have_four (log_of four) 0 ≡ Some 1
second_is_next = refl

none_behind_it : next_early team_a two_have_four (log_of four) 2 ≡ None
none_behind_it = refl

-- with the acknowledgement of the third all four pass, the last one as delivered earlier
all_pass : delivered_by team_a (group 9 4 (seat 0 4 722000 ∷ seat 1 4 732000 ∷ seat 2 4 742000 ∷ [])) (log_of four) [] ≡ record nothing {
  passes =
      record { position = 0; kept = update_of 1 Unordered Strict; how = Now }
      ∷ record { position = 1; kept = update_of 2 Unordered Strong; how = Now }
      ∷ record { position = 2; kept = update_of 3 Total Weak; how = Now }
      ∷ record { position = 3; kept = as_early (update_of 4 Unordered Weak); how = Earlier }
      ∷ [];
}
unfolding passes run_passed earlies
all_pass = refl

-- none before the cursor is delivered early, and the run ends before the first that waits
abbrev from_two : Log
from_two = record (log_of (update_of 1 Unordered Weak ∷ update_of 2 Unordered Weak ∷ update_of 3 Total Strong ∷ update_of 4 Unordered Weak ∷ [])) { passed = 1 }

abbrev one_has_four : Decision
one_has_four = group 3 4 (seat 0 0 722000 ∷ seat 1 4 732000 ∷ silent 2 ∷ [])

ends_at_the_third : delivered_by team_a one_has_four from_two [] ≡ record {
  passes = record { position = 1; kept = update_of 2 Unordered Weak; how = Now } ∷ [];
  earlies = as_early (update_of 4 Unordered Weak) ∷ [];
  weaks = [];
}
unfolding passes run_passed earlies
ends_at_the_third = refl

cursor_moved : (run_passed team_a one_has_four from_two).passed ≡ 2
unfolding run_passed
cursor_moved = refl

not_below_the_cursor : next_early team_a one_has_four from_two 0 ≡ Some 1
not_below_the_cursor = refl

-- pending ones by who sent them, and by number; others wait
pending_ones : (delivered_by team_a first (log_of []) (update_of 1 Unordered Weak ∷ update_of 2 Unordered Strong ∷ update_of 3 Total Weak ∷ as_early (update_of 4 Unordered Weak) ∷ update_of 5 Unordered Weak ∷ [])).weaks
    ≡ as_early (update_of 1 Unordered Weak) ∷ as_early (update_of 5 Unordered Weak) ∷ []
pending_ones = refl

-- ---- who isn't up delivers nothing

before_the_start : deliveries team_a (Some 701000) (process (Some third) (update Total Weak ∷ []) (update Unordered Weak ∷ [])) ≡ nothing
unfolding is_up
before_the_start = refl

without_a_reading : deliveries team_a None (process (Some third) (update Total Weak ∷ []) (update Unordered Weak ∷ [])) ≡ nothing
unfolding is_up
without_a_reading = refl

without_a_decision : deliveries team_a (Some 732000) (process None (update Total Weak ∷ []) (update Unordered Weak ∷ [])) ≡ nothing
unfolding is_up
without_a_decision = refl

blank : deliveries team_a (Some 732000) (record (process None (update Total Weak ∷ []) (update Unordered Weak ∷ [])) { belief = Blank (Some third) }) ≡ nothing
unfolding is_up
blank = refl

-- ---- atomicities at their bounds

ack_at_the_position : fulfils team_a (group 1 5 (seat 0 4 1 ∷ seat 1 4 1 ∷ seat 2 4 1 ∷ [])) 4 Strict ≡ false
ack_at_the_position = refl

ack_above_it : fulfils team_a (group 1 5 (seat 0 5 1 ∷ seat 1 5 1 ∷ seat 2 5 1 ∷ [])) 4 Strict ≡ true
ack_above_it = refl

-- a seat that made no decision has nothing, so a strict update waits for it
a_silent_seat : fulfils team_a (group 1 5 (seat 0 5 1 ∷ seat 1 5 1 ∷ silent 2 ∷ [])) 4 Strict ≡ false
a_silent_seat = refl

two_and_a_silent_seat : fulfils team_a (group 1 5 (seat 0 5 1 ∷ seat 1 5 1 ∷ silent 2 ∷ [])) 4 Strong ≡ true
two_and_a_silent_seat = refl

-- two are more than half of a group of three, and not of a team of five
two_of_five : fulfils (record team_a { n = 5 }) (group 1 5 (seat 0 5 1 ∷ seat 1 5 1 ∷ seat 2 4 1 ∷ [])) 4 Strong ≡ false
two_of_five = refl

weak_below_the_length : fulfils team_a (group 1 5 []) 4 Weak ≡ true
weak_below_the_length = refl

weak_at_the_length : fulfils team_a (group 1 5 []) 5 Weak ≡ false
weak_at_the_length = refl
