-- The schedule in which three updates are ordered, and two groups more: process 0 makes group 9 of the lists of 0 and 1, which nobody
-- hears of, and then group 12. What the laws on lists speak of, computed on it: whole lists, what a majority acknowledged of one in group 7,
-- what processes know, the reports of a ballot, and groups that add nothing. So the premises of these laws are met.
use Rattle.std.proofs.Common.{◌≡◌, refl, sym, ap, subst, inl, inr, ℕ, ◌+◌, ◌/◌, ◌≤◌, ◌<◌, nat_le, Bool, true, false, List, [], ◌∷◌, map, take, drop, length, count_by, Option, Some, None, arith}
use Rattle.std.specs.Option.{option_map}
use Rattle.std.proofs.lemmas.Option.{same_Some}
use Rattle.tw_types.specs.Deliveries.{run_passed, earlies_marked}
use Rattle.tw_machine.specs.Types.{Ballot, Decision, Entry, Kept, Member, Report, Seat, Support, TimeMark, Step}
use Rattle.tw_types.specs.declared.message.Kind.TheVariants as kinds
use Rattle.tw_types.specs.declared.message.Order.TheVariants as orders
use Rattle.tw_types.specs.declared.step.Act.TheVariants.{Tick, Recv}
use Rattle.tw_types.specs.Appending.{appended_list, appended_kept, mark_after}
use Rattle.tw_types.specs.Beliefs.{is_informed, view_decision, Log}
use Rattle.tw_types.specs.Examples.{team_a}
use Rattle.tw_types.specs.Flag.{is_up}
use Rattle.tw_types.specs.Items.{In}
use Rattle.tw_types.specs.Process.{Process}
use Rattle.tw_types.specs.Reports.{is_consistent}
use Rattle.tw_machine.specs.Duties.{timed_duties, duties}
use Rattle.tw_machine.specs.History.{Make, history, list_of}
use Rattle.tw_machine.specs.Rules.{kind_rule}
use Rattle.tw_machine.specs.Step.{step}
use Rattle.tw_machine.specs.World.{Admissible, World, world}
use Rattle.safety_laws.specs.Acknowledged.{has_acked, Supported, IsSilent, AddsLast, InNone, InOne}
use Rattle.safety_laws.specs.Beginnings.{IsBeginning, list_at, known}
use Rattle.safety_laws.specs.Groups.{BeginsAbove}
use Rattle.safety_laws.specs.Lists.{AllListed, entries_of, seqs_of, marks_of, MarksAscend, no_mark}
use Rattle.safety_laws.proofs.SendsWorked.{ordered, entry, update, seat, of_length, turn_0, turn_1, turn_2, turn_3}
use Rattle.safety_laws.proofs.Worked.{at}

-- 0 receives both updates of 1, and not 7.3; it makes group 9 with 1, which isn't told, and 300 milliseconds later group 12
abbrev in_ballot : List Step
in_ballot =
    at 1202000 0 1202000 (Recv 44)
    ∷ at 1201000 1 1201000 (Recv 40)
    ∷ at 1200000 0 1200000 Tick
    ∷ at 950000 0 950000 Tick
    ∷ at 902000 0 902000 (Recv 33)
    ∷ at 901000 1 901000 (Recv 29)
    ∷ at 900000 0 900000 Tick
    ∷ at 733000 0 733000 (Recv 17)
    ∷ at 733000 0 733000 (Recv 15)
    ∷ ordered

abbrev later : List Step
later =
    at 1260000 1 1260000 Tick
    ∷ at 1251000 1 1251000 (Recv 47)
    ∷ at 1250000 0 1250000 Tick
    ∷ in_ballot

-- ---- what is made

abbrev member : ℕ → Member
member who = record { who = who; incarnation = 699990 }

-- a report of an informed process, by its last decision
abbrev report : (who group turn length : ℕ) → (support : Option ℕ) → (reading : ℕ) → Report
report who group turn length support reading = record { member = member who; kind = kinds.Informed; group = group; turn = turn; length = length; support = support; reading = reading }

-- a decision of group 9 or 12, by the members 0 and 1
abbrev later_decision : (group turn made start low maker : ℕ) → Option Support → Option Support → List Entry → Decision
later_decision group turn made start low maker support_0 support_1 entries = record {
  group = group;
  turn = turn;
  made = made;
  start = start;
  low = low;
  mark = no_mark;
  seats = record { items = seat 0 2 support_0 ∷ seat 1 3 support_1 ∷ [] };
  maker = maker;
  window = record { items = entries };
}

-- Group 9 has the list of 7.3, which 1 reports: all of it from the end of 0's own on. Its start is above 1's lease.
abbrev group_9 : Decision
group_9 = later_decision 9 0 950000 1132001 1 0 (of_length 3 950000) None (entry 1 1 ∷ entry 1 2 ∷ [])

-- Group 12 has that of 9.0, which 0 has whole and 1 too. The next decision by 1, which isn't up yet, adds nothing.
abbrev group_12 : Decision
group_12 = later_decision 12 0 1250000 1350001 3 0 (of_length 3 1250000) None []

abbrev next_12 : Decision
next_12 = later_decision 12 1 1260000 1350001 3 1 (of_length 3 1250000) (of_length 3 1260000) []

-- a make in the first life of its process, whose clock is exact
abbrev make : Decision → Option Decision → List Report → (appended log : List Kept) → Make
make d before reports appended log = record {
  who = d.maker;
  member = member d.maker;
  life = 1;
  t = d.made;
  h = d.made;
  making = record { decision = d; before = before; reports = reports; appended = appended };
  log = log;
}

abbrev one_update : List Kept
one_update = update 0 1 99 ∷ []

abbrev three_updates : List Kept
three_updates = update 0 1 99 ∷ update 1 1 97 ∷ update 1 2 98 ∷ []

abbrev made_7_0 : Make
made_7_0 = make turn_0 None (report 1 0 0 0 None 700000 ∷ report 0 0 0 0 None 701000 ∷ report 2 0 0 0 None 701000 ∷ []) [] []

abbrev made_7_1 : Make
made_7_1 = make turn_1 (Some turn_0) [] [] []

abbrev made_7_2 : Make
made_7_2 = make turn_2 (Some turn_1) [] one_update one_update

abbrev made_7_3 : Make
made_7_3 = make turn_3 (Some turn_2) [] (update 1 1 97 ∷ update 1 2 98 ∷ []) three_updates

abbrev made_9_0 : Make
made_9_0 = make group_9 (Some turn_3) (report 0 7 2 1 (Some 722000) 900000 ∷ report 1 7 3 3 (Some 732000) 901000 ∷ []) [] three_updates

abbrev reports_12 : List Report
reports_12 = report 0 9 0 3 (Some 950000) 1200000 ∷ report 1 7 3 3 (Some 732000) 1201000 ∷ []

abbrev made_12_0 : Make
made_12_0 = make group_12 (Some group_9) reports_12 [] three_updates

abbrev made_12_1 : Make
made_12_1 = make next_12 (Some group_12) [] [] three_updates

abbrev in_7 : List Make
in_7 = made_7_3 ∷ made_7_2 ∷ made_7_1 ∷ made_7_0 ∷ []

abbrev all : List Make
all = made_12_1 ∷ made_12_0 ∷ made_9_0 ∷ in_7

-- the schedule is such as the laws speak of,
admissible : Admissible team_a later
unfolding is_up step kind_rule timed_duties duties appended_list appended_kept run_passed earlies_marked
admissible = ((((((((((((((((((((((((((((((((((tt, refl), refl), refl), refl), refl), refl), refl), refl), refl), refl), refl), refl), refl), refl), refl), refl), refl), refl), refl), refl), refl), refl), refl), refl), refl), refl), refl), refl), refl), refl), refl), refl), refl), refl)

-- and this is made in it, with these lists
makes : (history team_a later).makes ≡ all
unfolding is_up step kind_rule timed_duties duties appended_list appended_kept run_passed earlies_marked
makes = refl

-- so what is said of these makes is said of the history
of_history : (P : List Make → Type 0) → P all → P (history team_a later).makes
of_history P holds = subst P (sym makes) holds

-- ---- acknowledged entries

-- of 7.3 two of three have acknowledged one entry, and one of three has two
one_acked : team_a.n / 2 + 1 ≤ count_by (has_acked 1) turn_3.seats.items
one_acked = omega arith

two_acked : nat_le (team_a.n / 2 + 1) (count_by (has_acked 2) turn_3.seats.items) ≡ false
two_acked = refl

-- of 12.1 all three are
three_acked : team_a.n / 2 + 1 ≤ count_by (has_acked 3) next_12.seats.items
three_acked = omega arith

-- so the groups above have that one entry
in_group_9 : BeginsAbove 7 made_9_0 × (1 ≤ length made_9_0.log) × (take 1 made_9_0.log ≡ take 1 made_7_3.log)
in_group_9 = (record { turn = refl; above = omega arith }, omega arith, refl)

in_group_12 : BeginsAbove 7 made_12_0 × (1 ≤ length made_12_0.log) × (take 1 made_12_0.log ≡ take 1 made_7_3.log)
in_group_12 = (record { turn = refl; above = omega arith }, omega arith, refl)

-- all of that in the history
abbrev LastsIn : List Make → Type 0
LastsIn made = In made_7_3 made × In made_9_0 made × In made_12_0 made

lasts : LastsIn (history team_a later).makes
lasts = of_history LastsIn (inr (inr (inr (inl refl))), inr (inr (inl refl)), inr (inl refl))

-- A list that begins otherwise is refused: nothing would be left of the acknowledged entry.
other_list : (take 1 (update 1 1 97 ∷ update 0 1 99 ∷ []) ≡ take 1 made_7_3.log) → ⊥
other_list e = let who : map (λ (k : Kept). k.entry.id.who) (update 1 1 97 ∷ []) ≡ 0 ∷ [] = ap (map (λ (k : Kept). k.entry.id.who)) e in absurd (cc)

-- ---- whole lists

listed : AllListed (history team_a later).makes
listed = of_history AllListed (refl, (refl, (refl, (refl, (refl, (refl, (refl, tt)))))))

-- the window of 9.0 is its list from the low on, which the two updates of 1 are
window : group_9.window.items ≡ entries_of (drop group_9.low made_9_0.log)
window = refl

-- in its list each member's entries go by one, and its seats await the next
numbers : (seqs_of (member 0) made_9_0.log ≡ 1 ∷ []) × (seqs_of (member 1) made_9_0.log ≡ 1 ∷ 2 ∷ [])
numbers = (refl, refl)

next_ones : map (λ (s : Seat). s.next) group_9.seats.items ≡ 2 ∷ 3 ∷ []
next_ones = refl

-- a timed update of this process, number and stamp
abbrev timed : (who seq stamp : ℕ) → Bool → Kept
timed who seq stamp late = record (update who seq 97) { entry = record (entry who seq) { order = orders.Timed; stamp = stamp; late = late } }

-- Of a list with a late one in the middle, the marks of the others ascend: by stamp, then by process, then by number.
abbrev with_late : List Kept
with_late = timed 1 1 714000 false ∷ update 0 1 99 ∷ timed 2 1 713000 true ∷ timed 2 2 714000 false ∷ timed 2 3 714000 false ∷ []

abbrev mark : (stamp who seq : ℕ) → TimeMark
mark stamp who seq = record { stamp = stamp; who = who; seq = seq }

marks : marks_of with_late ≡ mark 714000 1 1 ∷ mark 714000 2 2 ∷ mark 714000 2 3 ∷ []
marks = refl

marks_ascend : MarksAscend (marks_of with_late)
marks_ascend = ((refl, (refl, tt)), ((refl, tt), (tt, tt)))

last_mark : mark_after (entries_of with_late) no_mark ≡ mark 714000 2 3
last_mark = refl

no_timed_one : mark_after (entries_of three_updates) no_mark ≡ no_mark
no_timed_one = refl

-- were the late one none, they wouldn't
late_as_none : MarksAscend (marks_of (timed 1 1 714000 false ∷ timed 2 1 713000 false ∷ [])) → ⊥
late_as_none asc = absurd (let above : false ≡ true = asc.0.0 in cc)

-- ---- supports tell lengths

-- of 0's support in 7.3, which is of its decision 7.2; and of both in 12.1
support_0 : Supported all made_7_3 (seat 0 2 (of_length 1 722000))
support_0 support is =
    let same = same_Some (record { ack = 1; at = 722000 }) support is in
    (made_7_2, inr (inr (inr (inr (inl refl)))), record { member = refl; group = refl; at = ap (λ (s : Support). s.at) same; length_is = ap (λ (s : Support). s.ack) same })

support_1 : Supported all made_12_1 (seat 1 3 (of_length 3 1260000))
support_1 support is =
    let same = same_Some (record { ack = 3; at = 1260000 }) support is in
    (made_12_1, inl refl, record { member = refl; group = refl; at = ap (λ (s : Support). s.at) same; length_is = ap (λ (s : Support). s.ack) same })

-- ---- what processes know, and what they report

-- who took which decision, whether it is informed, and its list
abbrev told : World → ℕ → Option (Option (ℕ × ℕ) × Bool × Log)
told w who = option_map (λ (p : Process). (option_map (λ (d : Decision). (d.group, d.turn)) (view_decision p.belief), is_informed p.belief, p.log)) (w.process_of who)

-- while group 12 is voted on, 1 has the list of 7.3, and 0 that of 9.0
-- 0 passed the first while it was up in 7.2, and 1 all three as it made 7.3; group 9 hasn't started
log_of_0 : told (world team_a in_ballot) 0 ≡ Some (Some (9, 0), true, record { base = 0; entries = three_updates; passed = 1 })
unfolding is_up step kind_rule timed_duties duties appended_list appended_kept run_passed earlies_marked
log_of_0 = refl

log_of_1 : told (world team_a in_ballot) 1 ≡ Some (Some (7, 3), true, record { base = 0; entries = three_updates; passed = 3 })
unfolding is_up step kind_rule timed_duties duties appended_list appended_kept run_passed earlies_marked
log_of_1 = refl

-- 2, which heard neither, is in 7.1, and has nothing
log_of_2 : told (world team_a in_ballot) 2 ≡ Some (Some (7, 1), true, record { base = 0; entries = []; passed = 0 })
unfolding is_up step kind_rule timed_duties duties appended_list appended_kept run_passed earlies_marked
log_of_2 = refl

-- before group 9 was made 0 had one update, of the list of 7.2
log_before : told (world team_a (drop 4 in_ballot)) 0 ≡ Some (Some (7, 2), true, record { base = 0; entries = one_update; passed = 1 })
unfolding is_up step kind_rule timed_duties duties appended_list appended_kept run_passed earlies_marked
log_before = refl

-- these are what they know of the lists of these decisions
known_to_0 : option_map (known all) ((world team_a (drop 4 in_ballot)).process_of 0) ≡ Some one_update
unfolding is_up step kind_rule timed_duties duties appended_list appended_kept run_passed earlies_marked
known_to_0 = refl

known_to_1 : option_map (known all) ((world team_a in_ballot).process_of 1) ≡ Some three_updates
unfolding is_up step kind_rule timed_duties duties appended_list appended_kept run_passed earlies_marked
known_to_1 = refl

-- the ballot of group 12: its number, its best decision and the reports
abbrev votes : Ballot → ℕ × Option Decision × List Report
votes b = (b.number, b.best, b.reports.items)

abbrev in_12 : ℕ × Option Decision × List Report
in_12 = (12, Some group_9, reports_12)

ballot : option_map (λ (p : Process). option_map votes p.ballot) ((world team_a in_ballot).process_of 0) ≡ Some (Some in_12)
unfolding is_up step kind_rule timed_duties duties appended_list appended_kept run_passed earlies_marked
ballot = refl

-- Both reports go with it: 0's, and that of 1, which is in a lower group and has a seat in 9.0. One of 2, which has none, wouldn't.
all_consistent : map (is_consistent (Some group_9)) reports_12 ≡ true ∷ true ∷ []
all_consistent = refl

one_without_a_seat : is_consistent (Some group_9) (report 2 7 3 3 None 1201000) ≡ false
one_without_a_seat = refl

-- and what 1 reports begins the best list, as what 0 reported for group 9 began that of 7.3
begins_9 : IsBeginning (take 3 (list_at all 7 3)) (list_of all (Some group_9))
begins_9 = ([], refl)

begins_7 : IsBeginning (take 1 (list_at all 7 2)) (list_of all (Some turn_3))
begins_7 = (update 1 1 97 ∷ update 1 2 98 ∷ [], refl)

-- ---- silent groups

-- above group 7 nothing is appended
silent : IsSilent all 7 12
silent = (added, (added, (added, (below, (below, (below, (below, tt)))))))
  where
    added : {upto : ℕ} → 7 < upto → upto ≤ 12 → ◌≡◌ {A = List Kept} [] []
    added high low = refl

    below : {xs : List Kept} → 7 < 7 → 7 ≤ 12 → xs ≡ []
    below high low = absurd (omega (arith, high))

-- so 12.1 has the list of 7.3
last_added : AddsLast (history team_a later).makes made_12_1
last_added = of_history (λ made. AddsLast made made_12_1)
    (InOne made_7_3 made_7_3 (inr (inr (inr (inl refl)))) (λ none. absurd (cc)) (omega arith) silent (inr (inr (inr (inl refl)))) refl refl)

-- group 9 isn't silent to one who begins below 7
not_silent : IsSilent all 0 12 → ⊥
not_silent none = let empty = none.1.1.1.0 (omega arith) (omega arith) in absurd (cc)

-- and where nothing was appended yet, the list is empty
first_makes : (history team_a (drop 9 ordered)).makes ≡ made_7_1 ∷ made_7_0 ∷ []
unfolding is_up step kind_rule timed_duties duties appended_list appended_kept run_passed earlies_marked
first_makes = refl

none_added : AddsLast (history team_a (drop 9 ordered)).makes made_7_1
none_added = subst (λ made. AddsLast made made_7_1) (sym first_makes) (InNone ((λ high low. refl), ((λ high low. refl), tt)) refl)
