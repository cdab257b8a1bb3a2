-- Taking decisions and making the next one, computed at values that were worked out by hand.
use Rattle.std.proofs.Common.{◌≡◌, refl, ℕ, true, false, List, [], ◌∷◌, map, Option, Some, None}
use Rattle.tw_types.specs.declared.message.Member.{Member}
use Rattle.tw_types.specs.declared.message.Entry.{Entry}
use Rattle.tw_types.specs.declared.message.Kept.{Kept}
use Rattle.tw_types.specs.declared.message.Order.TheVariants.{Total}
use Rattle.tw_types.specs.declared.message.Atom.TheVariants.{Weak}
use Rattle.tw_types.specs.declared.message.Support.{Support}
use Rattle.tw_types.specs.declared.message.Seat.{Seat}
use Rattle.tw_types.specs.declared.message.Decision.{Decision}
use Rattle.tw_types.specs.declared.answer.Reason.TheVariants.{Old, NotMember, Promised, Gap, Behind}
use Rattle.tw_types.specs.Examples.{team_a}
use Rattle.tw_types.specs.Beliefs.{Log, no_log}
use Rattle.tw_types.specs.Logs.{list_tests}
use Rattle.tw_types.specs.Decisions.{no_decision}
use Rattle.tw_types.specs.Refusals.{first_refusal}
use Rattle.tw_types.specs.Taking.{taking_tests, is_followed}
use Rattle.tw_types.specs.Turns.{is_turn, finished, next_decision}

abbrev member : ℕ → ℕ → Member
member who incarnation = record { who = who; incarnation = incarnation }

abbrev seat : Member → Option Support → Seat
seat member support = record { member = member; next = 1; support = support }

-- ---- the first checks, at process 0, whose life began at 10

abbrev me : Member
me = member 0 10

abbrev decision : ℕ → ℕ → List Member → Decision
decision group turn members = record no_decision { group = group; turn = turn; seats = record { items = map (λ (m : Member). seat m None) members } }

abbrev with_me : ℕ → ℕ → Decision
with_me group turn = decision group turn (me ∷ member 1 10 ∷ [])

abbrev view : Option Decision
view = Some (with_me 7 3)

equal : first_refusal (taking_tests view true me 7 (with_me 7 3)) ≡ Some Old
equal = refl

lower_turn : first_refusal (taking_tests view true me 7 (with_me 7 2)) ≡ Some Old
lower_turn = refl

lower_group : first_refusal (taking_tests view true me 7 (with_me 6 9)) ≡ Some Old
lower_group = refl

-- what is old goes before what isn't a member's, and that before what was promised
old_first : first_refusal (taking_tests view true me 8 (decision 7 3 [])) ≡ Some Old
old_first = refl

no_member_next : first_refusal (taking_tests view true me 8 (decision 7 4 [])) ≡ Some NotMember
no_member_next = refl

without_a_seat : first_refusal (taking_tests view true me 7 (decision 7 4 (member 1 10 ∷ []))) ≡ Some NotMember
without_a_seat = refl

seat_of_another_life : first_refusal (taking_tests view true me 7 (decision 7 4 (member 0 11 ∷ member 1 10 ∷ []))) ≡ Some NotMember
seat_of_another_life = refl

next_turn : first_refusal (taking_tests view true me 7 (with_me 7 4)) ≡ None
next_turn = refl

next_turn_taken : is_followed true me 7 (with_me 7 4) ≡ false
next_turn_taken = refl

promised_above : first_refusal (taking_tests view true me 8 (with_me 7 4)) ≡ Some (Promised 8)
promised_above = refl

promised_below : first_refusal (taking_tests view true me 6 (with_me 7 4)) ≡ Some (Promised 6)
promised_below = refl

-- an informed process refuses a group above its promise, too
group_above : first_refusal (taking_tests view true me 7 (with_me 8 0)) ≡ Some (Promised 7)
group_above = refl

-- a blank process without a decision
blank_promised : first_refusal (taking_tests None false me 7 (with_me 7 0)) ≡ None
blank_promised = refl

blank_takes : is_followed false me 7 (with_me 7 0) ≡ false
blank_takes = refl

blank_promised_below : first_refusal (taking_tests None false me 5 (with_me 7 0)) ≡ None
blank_promised_below = refl

blank_follows : is_followed false me 5 (with_me 7 0) ≡ true
blank_follows = refl

blank_promised_above : first_refusal (taking_tests None false me 8 (with_me 7 0)) ≡ Some (Promised 8)
blank_promised_above = refl

blank_without_a_seat : first_refusal (taking_tests None false me 7 (decision 7 0 (member 1 10 ∷ []))) ≡ None
blank_without_a_seat = refl

blank_without_a_seat_follows : is_followed false me 7 (decision 7 0 (member 1 10 ∷ [])) ≡ true
blank_without_a_seat_follows = refl

-- ---- the list of updates, of which a process has so much from position 0 on

abbrev entry : ℕ → Entry
entry seq = record { id = record { who = 1; incarnation = 10; seq = seq }; order = Total; atom = Weak; stamp = 714000; late = false }

abbrev kept : ℕ → Kept
kept seq = record { entry = entry seq; early = false; payload = record { items = [] } }

abbrev log_of_two : Log
log_of_two = record { base = 0; entries = kept 1 ∷ kept 2 ∷ []; passed = 0 }

-- a decision whose window begins there
abbrev from : ℕ → List Entry → Decision
from low window = record no_decision { low = low; window = record { items = window } }

begins_behind_the_end : first_refusal (list_tests log_of_two (from 3 [])) ≡ Some Gap
begins_behind_the_end = refl

ends_before_the_end : first_refusal (list_tests log_of_two (from 0 (entry 1 ∷ []))) ≡ Some Gap
ends_before_the_end = refl

reaches_the_end : first_refusal (list_tests log_of_two (from 2 [])) ≡ None
reaches_the_end = refl

goes_on : first_refusal (list_tests log_of_two (from 1 (entry 2 ∷ entry 3 ∷ []))) ≡ None
goes_on = refl

-- 64 positions may stand between what was passed and the end, and no more
far_ahead : first_refusal (list_tests (record { base = 63; entries = []; passed = 0 }) (from 63 (entry 1 ∷ []))) ≡ None
far_ahead = refl

too_far_ahead : first_refusal (list_tests (record { base = 63; entries = []; passed = 0 }) (from 63 (entry 1 ∷ entry 2 ∷ []))) ≡ Some Behind
too_far_ahead = refl

nothing_yet : first_refusal (list_tests no_log (from 0 [])) ≡ None
nothing_yet = refl

-- ---- whose turn it is

-- the first decision of group 7, which process 1 made
abbrev last : Decision
last = record no_decision {
  group = 7;
  made = 702000;
  start = 701001;
  seats = record { items = seat (member 0 699990) None ∷ seat (member 1 699990) (Some (record { ack = 0; at = 702000 })) ∷ seat (member 2 699990) None ∷ [] };
  maker = 1;
}

too_early : is_turn team_a (member 2 699990) (Some last) 7 711999 ≡ false
too_early = refl

in_time : is_turn team_a (member 2 699990) (Some last) 7 712000 ≡ true
in_time = refl

another_life : is_turn team_a (member 2 699991) (Some last) 7 712000 ≡ false
another_life = refl

not_of_0 : is_turn team_a (member 0 699990) (Some last) 7 712000 ≡ false
not_of_0 = refl

not_of_its_maker : is_turn team_a (member 1 699990) (Some last) 7 712000 ≡ false
not_of_its_maker = refl

promised_another : is_turn team_a (member 2 699990) (Some last) 8 712000 ≡ false
promised_another = refl

last_turn_but_one : is_turn team_a (member 2 699990) (Some (record last { turn = 1152921504606846974 })) 7 712000 ≡ true
last_turn_but_one = refl

last_turn : is_turn team_a (member 2 699990) (Some (record last { turn = 1152921504606846975 })) 7 712000 ≡ false
last_turn = refl

-- after the last seat comes the first
abbrev by_2 : Decision
by_2 = record last { seats = record { items = seat (member 0 699990) None ∷ seat (member 2 699990) None ∷ [] }; maker = 2 }

around_the_ring : is_turn team_a (member 0 699990) (Some by_2) 7 712000 ≡ true
around_the_ring = refl

not_of_itself : is_turn team_a (member 2 699990) (Some by_2) 7 712000 ≡ false
not_of_itself = refl

nothing_is_due : is_turn team_a (member 2 699990) None 7 712000 ≡ false
nothing_is_due = refl

-- ---- the next decision

-- its maker supports it, and nothing else changes
second_of_group_7 : next_decision [] last 712000 2 ≡ record last {
  turn = 1;
  made = 712000;
  seats = record { items = seat (member 0 699990) None ∷ seat (member 1 699990) (Some (record { ack = 0; at = 702000 })) ∷ seat (member 2 699990) (Some (record { ack = 0; at = 712000 })) ∷ [] };
  maker = 2;
}
second_of_group_7 = refl

-- with two entries of process 1, which its maker has too
abbrev by_1 : ℕ → Entry
by_1 seq = record (entry seq) { id = record { who = 1; incarnation = 699990; seq = seq } }

with_two_entries : next_decision (by_1 1 ∷ by_1 2 ∷ []) last 712000 2 ≡ record last {
  turn = 1;
  made = 712000;
  seats = record { items = seat (member 0 699990) None ∷ record (seat (member 1 699990) (Some (record { ack = 0; at = 702000 }))) { next = 3 } ∷ seat (member 2 699990) (Some (record { ack = 2; at = 712000 })) ∷ [] };
  maker = 2;
  window = record { items = by_1 1 ∷ by_1 2 ∷ [] };
}
with_two_entries = refl

abbrev support : ℕ → Option Support
support ack = Some (record { ack = ack; at = 702000 })

-- a draft of process 1, whose window ends at 5; processes 0 and 2 told how much they have
abbrev draft : ℕ → List Entry → Option Support → Option Support → Decision
draft low window first third = record last {
  turn = 3;
  made = 732000;
  low = low;
  seats = record { items = seat (member 0 699990) first ∷ seat (member 1 699990) (support 0) ∷ seat (member 2 699990) third ∷ [] };
  window = record { items = window };
}

abbrev three_entries : List Entry
three_entries = entry 3 ∷ entry 4 ∷ entry 5 ∷ []

-- what it becomes
abbrev made_of : ℕ → List Entry → Option Support → Option Support → Decision
made_of low window first third = record (draft low window first third) {
  seats = record { items = seat (member 0 699990) first ∷ seat (member 1 699990) (Some (record { ack = 5; at = 732000 })) ∷ seat (member 2 699990) third ∷ [] };
}

one_without_a_support : finished (draft 2 three_entries (support 3) None) ≡ made_of 2 three_entries (support 3) None
one_without_a_support = refl

least_of_three : finished (draft 2 three_entries (support 3) (support 4)) ≡ made_of 3 (entry 4 ∷ entry 5 ∷ []) (support 3) (support 4)
least_of_three = refl

low_does_not_fall : finished (draft 2 three_entries (support 1) (support 4)) ≡ made_of 2 three_entries (support 1) (support 4)
low_does_not_fall = refl

window_is_cut : finished (draft 2 three_entries (support 4) (support 4)) ≡ made_of 4 (entry 5 ∷ []) (support 4) (support 4)
window_is_cut = refl

all_have_all : finished (draft 2 three_entries (support 5) (support 5)) ≡ made_of 5 [] (support 5) (support 5)
all_have_all = refl
