-- Rules at the values at which a rule that is nearly right gives another one, worked out by hand.
use Rattle.std.proofs.Common.{◌≡◌, refl, ℕ, ◌-◌, Bool, true, false, List, [], ◌∷◌, ◌++◌, map, Option, Some, None, Ok, Err}
use Rattle.std.specs.List.{range_with_len}
use Rattle.tw_num.specs.declared.interval.Interval.{Interval}
use Rattle.tw_num.specs.Rate.{Timely, Late, Unrated, rate}
use Rattle.tw_types.specs.declared.message.Kind.TheVariants as kinds
use Rattle.tw_types.specs.declared.message.Order.TheVariants.{Timed}
use Rattle.tw_types.specs.declared.message.Atom.TheVariants.{Weak, Strong}
use Rattle.tw_types.specs.declared.answer.Reason.TheVariants as reasons
use Rattle.tw_types.specs.declared.outputs.Mode.TheVariants.{First}
use Rattle.tw_types.specs.Appending.{is_late, appended_list}
use Rattle.tw_types.specs.Ballots.{is_over, is_complete}
use Rattle.tw_types.specs.Beliefs.{Informed, no_log}
use Rattle.tw_types.specs.Decisions.{no_decision}
use Rattle.tw_types.specs.Deliveries.{fulfils}
use Rattle.tw_types.specs.Examples.{team_a}
use Rattle.tw_types.specs.Flag.{is_up}
use Rattle.tw_types.specs.Groups.{NoGroup, TooFew, NotConsistent, objections, first_objection, start_of}
use Rattle.tw_types.specs.Process.{Process, started}
use Rattle.tw_types.specs.Votes.{no_vote}
use Rattle.tw_machine.specs.Types.{Team, Entry, Kept, Member, Support, Seat, Report, Kind, Decision, Ballot, TimeMark, Echo}
use Rattle.tw_machine.specs.Beating.{is_repeated}
use Rattle.tw_machine.specs.Control.{timely_reading}
use Rattle.tw_machine.specs.Hearing.{newer}

abbrev member : ℕ → Member
member who = record { who = who; incarnation = 5 }

abbrev seat : (who next : ℕ) → Option Support → Seat
seat who next support = record { member = member who; next = next; support = support }

abbrev of_seats : List Seat → Decision
of_seats seats = record no_decision { group = 7; turn = 1; made = 702000; start = 701001; seats = record { items = seats } }

-- ---- the order of timed updates

abbrev timed : (who seq stamp : ℕ) → Entry
timed who seq stamp = record { id = record { who = who; incarnation = 5; seq = seq }; order = Timed; atom = Weak; stamp = stamp; late = false }

abbrev update : Entry → Kept
update e = record { entry = e; early = false; payload = record { items = [] } }

abbrev three : Decision
three = of_seats (seat 0 1 None ∷ seat 1 1 None ∷ seat 2 1 None ∷ [])

-- the lesser stamp goes first, though its process is the greater one, and neither is late
lesser_stamp_first : appended_list team_a 744500 0 three (update (timed 0 1 714000) ∷ update (timed 1 1 713500) ∷ []) ≡ timed 1 1 713500 ∷ timed 0 1 714000 ∷ []
unfolding appended_list
lesser_stamp_first = refl

lesser_process_first : appended_list team_a 744500 0 three (update (timed 0 1 713500) ∷ update (timed 1 1 714000) ∷ []) ≡ timed 0 1 713500 ∷ timed 1 1 714000 ∷ []
unfolding appended_list
lesser_process_first = refl

-- of equal stamps the lesser process
equal_stamps : appended_list team_a 744500 0 three (update (timed 0 1 714000) ∷ update (timed 2 1 714000) ∷ []) ≡ timed 0 1 714000 ∷ timed 2 1 714000 ∷ []
unfolding appended_list
equal_stamps = refl

-- three of them, whatever the order of their processes
three_stamps : appended_list team_a 744500 0 three (update (timed 0 1 714000) ∷ update (timed 1 1 714500) ∷ update (timed 2 1 713000) ∷ [])
    ≡ timed 2 1 713000 ∷ timed 0 1 714000 ∷ timed 1 1 714500 ∷ []
unfolding appended_list
three_stamps = refl

-- a member's second one comes behind its first, and is late where its stamp is the lesser one
behind_its_own : appended_list team_a 744500 0 three (update (timed 1 1 714000) ∷ update (timed 1 2 713000) ∷ [])
    ≡ timed 1 1 714000 ∷ record (timed 1 2 713000) { late = true } ∷ []
unfolding appended_list
behind_its_own = refl

-- ---- the mark

abbrev mark : (stamp who seq : ℕ) → TimeMark
mark stamp who seq = record { stamp = stamp; who = who; seq = seq }

-- of stamps equal to the mark's those of a greater process are above it, and of its own process those of a greater number
greater_process_at_the_mark : is_late (mark 714000 1 1) [] (timed 2 1 714000) ≡ false
greater_process_at_the_mark = refl

lesser_process_at_the_mark : is_late (mark 714000 1 1) [] (timed 0 9 714000) ≡ true
lesser_process_at_the_mark = refl

next_number_at_the_mark : is_late (mark 714000 1 1) [] (timed 1 2 714000) ≡ false
next_number_at_the_mark = refl

the_mark_itself : is_late (mark 714000 1 1) [] (timed 1 1 714000) ≡ true
the_mark_itself = refl

lesser_number_at_the_mark : is_late (mark 714000 1 2) [] (timed 1 1 714000) ≡ true
lesser_number_at_the_mark = refl

-- a stamp goes before processes and numbers
greater_stamp : is_late (mark 714000 2 9) [] (timed 0 1 714001) ≡ false
greater_stamp = refl

lesser_stamp : is_late (mark 714000 0 1) [] (timed 2 9 713999) ≡ true
lesser_stamp = refl

-- the same of one that was added before
behind_one_of_its_stamp : is_late (mark 0 0 0) (timed 1 1 714000 ∷ []) (timed 2 1 714000) ≡ false
behind_one_of_its_stamp = refl

behind_a_greater_one_of_its_stamp : is_late (mark 0 0 0) (timed 1 1 714000 ∷ []) (timed 0 1 714000) ≡ true
behind_a_greater_one_of_its_stamp = refl

-- ---- control datagrams

in_time : timely_reading (Timely 10000) (Some 712500) ≡ Ok 712500
in_time = refl

late : timely_reading (Late 11502) (Some 712500) ≡ Err (reasons.Late 11502)
late = refl

late_without_a_reading : timely_reading (Late 11502) None ≡ Err (reasons.Late 11502)
late_without_a_reading = refl

unrated : timely_reading Unrated (Some 712500) ≡ Err reasons.Unrated
unrated = refl

unrated_without_a_reading : timely_reading Unrated None ≡ Err reasons.Unrated
unrated_without_a_reading = refl

unsynced : timely_reading (Timely 10000) None ≡ Err reasons.Unsynced
unsynced = refl

abbrev interval : (lo hi : ℕ) → Option Interval
interval lo hi = Some (record { lo = lo; hi = hi })

-- by intervals alone: the receiver's upper end less the sender's lower one
at_delta : rate 0 10000 None (interval 710000 711000) (interval 701000 702000) ≡ Timely 10000
at_delta = refl

above_delta : rate 0 10000 None (interval 710000 711001) (interval 701000 702000) ≡ Late 10001
above_delta = refl

of_no_bound : rate 0 10000 None None (interval 701000 702000) ≡ Unrated
of_no_bound = refl

-- ---- the stamp that is noted

abbrev echo : (a b : ℕ) → Echo
echo a b = record { a = a; b = b }

first_stamp : newer None (echo 5 9) ≡ echo 5 9
first_stamp = refl

lesser_stamp_comes : newer (Some (echo 5 9)) (echo 4 10) ≡ echo 5 9
lesser_stamp_comes = refl

equal_stamp_comes : newer (Some (echo 5 9)) (echo 5 10) ≡ echo 5 10
equal_stamp_comes = refl

greater_stamp_comes : newer (Some (echo 5 9)) (echo 6 10) ≡ echo 6 10
greater_stamp_comes = refl

-- ---- a decision that is said again

-- process 2 made this decision at 702000, and promised its group
abbrev own : Decision
own = record three { maker = 2 }

abbrev maker : (promised : ℕ) → Process
maker promised = record (started 2 First 5) { vote = record { promised = promised; support = Some 702000 }; belief = Informed (Some own) }

said_again : is_repeated team_a (maker 7) own (Some 712000) ≡ true
said_again = refl

a_microsecond_early : is_repeated team_a (maker 7) own (Some 711999) ≡ false
a_microsecond_early = refl

long_after : is_repeated team_a (maker 7) own (Some 722001) ≡ true
long_after = refl

never_without_a_reading : is_repeated team_a (maker 7) own None ≡ false
never_without_a_reading = refl

not_after_another_promise : is_repeated team_a (maker 8) own (Some 712000) ≡ false
not_after_another_promise = refl

of_another_maker : is_repeated team_a (maker 7) (record own { maker = 1 }) (Some 712000) ≡ false
of_another_maker = refl

-- ---- ballots that are over

-- what a process of an empty list reports
abbrev report : (who : ℕ) → Kind → (group : ℕ) → (support : Option ℕ) → (reading : ℕ) → Report
report who kind group support reading = record { member = member who; kind = kind; group = group; turn = 0; length = 0; support = support; reading = reading }

abbrev fresh : ℕ → Report
fresh who = report who kinds.Informed 0 None 701000

abbrev ballot : List Report → Ballot
ballot reports = record { number = 7; ring = None; reports = record { items = reports }; best = None; best_from = 0 }

-- number 7 has the slot from 700000 to 799999, and a slot more
in_its_own_slot : is_over team_a 7 None 799999 (ballot []) ≡ false
in_its_own_slot = refl

behind_its_own_slot : is_over team_a 7 None 800000 (ballot []) ≡ false
behind_its_own_slot = refl

last_of_the_next : is_over team_a 7 None 899999 (ballot []) ≡ false
last_of_the_next = refl

first_behind_it : is_over team_a 7 None 900000 (ballot []) ≡ true
first_behind_it = refl

another_promise : is_over team_a 8 None 700000 (ballot []) ≡ true
another_promise = refl

in_its_group : is_over team_a 7 (Some three) 700000 (ballot []) ≡ true
in_its_group = refl

-- ---- majorities of even teams

abbrev team_of : ℕ → Team
team_of n = record team_a { n = n }

-- as many seats with a support and so many without, of which the supports have one entry
abbrev seats_of : (with_support all : ℕ) → Decision
seats_of with_support all = of_seats (map (λ who. seat who 1 (Some (record { ack = 1; at = 702000 }))) (range_with_len 0 with_support)
    ++ map (λ who. seat who 1 None) (range_with_len with_support (all - with_support)))

two_of_four_up : is_up (team_of 4) no_vote (Informed (Some (seats_of 2 4))) (Some 712000) ≡ false
unfolding is_up
two_of_four_up = refl

three_of_four_up : is_up (team_of 4) no_vote (Informed (Some (seats_of 3 4))) (Some 712000) ≡ true
unfolding is_up
three_of_four_up = refl

seven_of_fourteen_up : is_up (team_of 14) no_vote (Informed (Some (seats_of 7 14))) (Some 712000) ≡ false
unfolding is_up
seven_of_fourteen_up = refl

eight_of_fourteen_up : is_up (team_of 14) no_vote (Informed (Some (seats_of 8 14))) (Some 712000) ≡ true
unfolding is_up
eight_of_fourteen_up = refl

two_of_four_strong : fulfils (team_of 4) (seats_of 2 4) 0 Strong ≡ false
two_of_four_strong = refl

three_of_four_strong : fulfils (team_of 4) (seats_of 3 4) 0 Strong ≡ true
three_of_four_strong = refl

seven_of_fourteen_strong : fulfils (team_of 14) (seats_of 7 14) 0 Strong ≡ false
seven_of_fourteen_strong = refl

eight_of_fourteen_strong : fulfils (team_of 14) (seats_of 8 14) 0 Strong ≡ true
eight_of_fourteen_strong = refl

-- whether a ballot of so many reports makes a group, whose owner is process 0
abbrev reports_of : ℕ → List Report
reports_of count = map fresh (range_with_len 0 count)

abbrev against : (n : ℕ) → List Report → Option NoGroup
against n reports = first_objection (objections (team_of n) (ballot reports) no_log [] (member 0))

two_of_four_make_none : against 4 (reports_of 2) ≡ Some TooFew
two_of_four_make_none = refl

three_of_four_make_one : against 4 (reports_of 3) ≡ None
three_of_four_make_one = refl

seven_of_fourteen_make_none : against 14 (reports_of 7) ≡ Some TooFew
seven_of_fourteen_make_none = refl

eight_of_fourteen_make_one : against 14 (reports_of 8) ≡ None
eight_of_fourteen_make_one = refl

-- informed ones of another group are counted among the informed, and not among the consistent
abbrev strange : ℕ → Report
strange who = report who kinds.Informed 6 None 701000

two_of_four_consistent : against 4 (reports_of 2 ++ strange 2 ∷ []) ≡ Some NotConsistent
two_of_four_consistent = refl

seven_of_fourteen_consistent : against 14 (reports_of 7 ++ strange 7 ∷ []) ≡ Some NotConsistent
seven_of_fourteen_consistent = refl

-- before half of its slot is over a ballot wants each process
abbrev complete_at : (n count t : ℕ) → Bool
complete_at n count t = is_complete (team_of n) t (ballot (reports_of count))

three_of_four_before_half : complete_at 4 3 749999 ≡ false
three_of_four_before_half = refl

four_of_four_before_half : complete_at 4 4 700000 ≡ true
four_of_four_before_half = refl

thirteen_of_fourteen_before_half : complete_at 14 13 749999 ≡ false
thirteen_of_fourteen_before_half = refl

fourteen_of_fourteen_before_half : complete_at 14 14 700000 ≡ true
fourteen_of_fourteen_before_half = refl

one_at_half : complete_at 4 1 750000 ≡ true
one_at_half = refl

-- ---- the start of a group

-- reports that don't go with the best decision tell their readings and leases, too
abbrev with_strange : (support : Option ℕ) → (reading : ℕ) → ℕ
with_strange support reading = start_of team_a (ballot (fresh 0 ∷ fresh 1 ∷ report 2 kinds.Informed 6 support reading ∷ []))

reading_of_a_strange_one : with_strange None 701500 ≡ 701501
reading_of_a_strange_one = refl

lease_of_a_strange_one : with_strange (Some 690000) 701000 ≡ 1090001
lease_of_a_strange_one = refl

strange_ones_below : with_strange None 700500 ≡ 701001
strange_ones_below = refl

-- ready ones, too
reading_of_a_ready_one : start_of team_a (ballot (fresh 0 ∷ fresh 1 ∷ report 2 kinds.Ready 6 None 701500 ∷ [])) ≡ 701501
reading_of_a_ready_one = refl
