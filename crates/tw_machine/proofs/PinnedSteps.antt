-- Steps at the values at which a rule that is nearly right gives another one, worked out by hand.
use Rattle.std.proofs.Common.{◌≡◌, refl, ℕ, ◌+◌, true, false, List, [], ◌∷◌, length, map, Option, Some, None, Ok}
use Rattle.std.specs.Option.{option_map}
use Rattle.tw_num.specs.declared.interval.Interval.{Interval}
use Rattle.tw_types.specs.declared.message.Kind.TheVariants as kinds
use Rattle.tw_types.specs.declared.message.Order.TheVariants as orders
use Rattle.tw_types.specs.declared.message.Atom.TheVariants as atoms
use Rattle.tw_types.specs.declared.datagram.Body.TheVariants as bodies
use Rattle.tw_types.specs.declared.datagram.Want.TheVariants as wants
use Rattle.tw_types.specs.declared.datagram.Why.TheVariants.{Stuck}
use Rattle.tw_types.specs.declared.row.RowAnswer.TheVariants.{Done, Dropped}
use Rattle.tw_types.specs.declared.answer.Reason.TheVariants as reasons
use Rattle.tw_types.specs.declared.outputs.Mode.TheVariants.{First}
use Rattle.tw_types.specs.Beliefs.{Informed}
use Rattle.tw_types.specs.Deliveries.{passes, run_passed, earlies, earlies_marked}
use Rattle.tw_types.specs.Examples.{team_a}
use Rattle.tw_types.specs.Flag.{is_up}
use Rattle.tw_types.specs.Process.{Process, started}
use Rattle.tw_types.specs.Waiting.{Held}
use Rattle.tw_machine.specs.Types.{UpdateId, Order, Atom, Entry, Kept, Member, Support, Seat, Report, Decision, Ballot, Body, Datagram, Echo, RowAnswer}
use Rattle.tw_machine.specs.Event.{Tick, Packet, Outcome}
use Rattle.tw_machine.specs.Run.{AtEarly, AtWait, Place, Delivered}
use Rattle.tw_machine.specs.Standing.{last_decision}
use Rattle.tw_machine.specs.Rules.{kind_rule}
use Rattle.tw_machine.specs.Duties.{timed_duties, duties}
use Rattle.tw_machine.specs.Step.{step}

abbrev member : ℕ → Member
member who = record { who = who; incarnation = 699990 }

abbrev supports : Option Support
supports = Some (record { ack = 0; at = 702000 })

-- three seats, of which two have a support
abbrev seats : List Seat
seats = record { member = member 0; next = 1; support = None }
    ∷ record { member = member 1; next = 1; support = supports }
    ∷ record { member = member 2; next = 1; support = supports }
    ∷ []

abbrev decision : (turn maker : ℕ) → List Entry → Decision
decision turn maker entries = record {
  group = 7;
  turn = turn;
  made = 702000;
  start = 701001;
  low = 0;
  mark = record { stamp = 0; who = 0; seq = 0 };
  seats = record { items = seats };
  maker = maker;
  window = record { items = entries };
}

-- process 0, whose clock was told at 700000 that it is 700000, and which beat lately
abbrev process : (promised beat : ℕ) → Option Decision → Process
process promised beat last = record (started 0 First 699990) {
  timing = record { clock = record { given = record { h = 700000; interval = record { lo = 700000; hi = 700000 } } ∷ []; greatest = None; disjoint = None }; heard = λ q. None };
  beat = record { last = Some beat };
  vote = record { promised = promised; support = None };
  belief = Informed last;
}

abbrev ticks : ℕ → Process → Outcome
ticks h p = step team_a h Tick p

-- process 1 sent this with an interval, or with an echo, or with none of them
abbrev receives : (h : ℕ) → Option Interval → Option Echo → Body → Process → Outcome
receives h interval echo body p = step team_a h (Packet (Ok (record {
  head = record { from = 1; to = 0; incarnation = 699990; sent = 712000; interval = interval; echo = echo };
  body = body;
}))) p

abbrev from : ℕ → Option Interval
from lo = Some (record { lo = lo; hi = lo + 2 })

abbrev sends : Outcome → List (ℕ × Body)
sends o = map (λ (s : ℕ × Datagram). (s.0, s.1.body)) o.out.sends

-- ---- what comes late, of unknown age, or without a reading

-- The answer, the number promised, the turn of the last decision, and how many reports the ballot has. At 713000 process 0 knows that
-- it is 713001 at most.
abbrev shown : Outcome → RowAnswer × ℕ × Option ℕ × Option ℕ
shown o = (o.answer, o.process.vote.promised, option_map (λ (d : Decision). d.turn) (last_decision o.process), option_map (λ (b : Ballot). length b.reports.items) o.process.ballot)

abbrev report : ℕ → Report
report who = record { member = member who; kind = kinds.Informed; group = 0; turn = 0; length = 0; support = None; reading = 701000 }

-- it holds a ballot of its own number
abbrev collects : (number beat : ℕ) → Process
collects number beat = record (process number beat None) { ballot = Some (record { number = number; ring = None; reports = record { items = report 0 ∷ [] }; best = None; best_from = 0 }) }

abbrev promise : ℕ → Body
promise number = bodies.Promise number (report 1) None

promise_in_time : shown (receives 713000 (from 703001) None (promise 9) (collects 9 712999)) ≡ (Done, 9, None, Some 2)
unfolding step kind_rule timed_duties duties is_up
promise_in_time = refl

promise_late : shown (receives 713000 (from 703000) None (promise 9) (collects 9 712999)) ≡ (Dropped (reasons.Late 10001), 9, None, Some 1)
unfolding step kind_rule timed_duties duties is_up
promise_late = refl

promise_unrated : shown (receives 713000 None None (promise 9) (collects 9 712999)) ≡ (Dropped reasons.Unrated, 9, None, Some 1)
unfolding step kind_rule timed_duties duties is_up
promise_unrated = refl

-- an echo alone rates a packet, and tells no time
abbrev no_time : Process → Process
no_time p = record p { timing = (started 0 First 699990).timing }

abbrev echo : Option Echo
echo = Some (record { a = 711500; b = 711800 })

promise_unsynced : shown (receives 713000 None echo (promise 9) (no_time (collects 9 712999))) ≡ (Dropped reasons.Unsynced, 9, None, Some 1)
unfolding step kind_rule timed_duties duties is_up
promise_unsynced = refl

promise_of_no_age : shown (receives 713000 None None (promise 9) (no_time (collects 9 712999))) ≡ (Dropped reasons.Unrated, 9, None, Some 1)
unfolding step kind_rule timed_duties duties is_up
promise_of_no_age = refl

abbrev election : Body
election = bodies.Election 7 Stuck

election_in_time : shown (receives 713000 (from 703001) None election (process 0 712999 None)) ≡ (Done, 7, None, None)
unfolding step kind_rule timed_duties duties is_up
election_in_time = refl

election_late : shown (receives 713000 (from 703000) None election (process 0 712999 None)) ≡ (Dropped (reasons.Late 10001), 0, None, None)
unfolding step kind_rule timed_duties duties is_up
election_late = refl

election_unrated : shown (receives 713000 None None election (process 0 712999 None)) ≡ (Dropped reasons.Unrated, 0, None, None)
unfolding step kind_rule timed_duties duties is_up
election_unrated = refl

election_unsynced : shown (receives 713000 None echo election (no_time (process 0 712999 None))) ≡ (Dropped reasons.Unsynced, 0, None, None)
unfolding step kind_rule timed_duties duties is_up
election_unsynced = refl

abbrev follower : Process
follower = process 7 712999 (Some (decision 0 1 []))

decision_in_time : shown (receives 713000 (from 703001) None (bodies.Decision (decision 1 1 [])) follower) ≡ (Done, 7, Some 1, None)
unfolding step kind_rule timed_duties duties is_up run_passed earlies_marked
decision_in_time = refl

decision_late : shown (receives 713000 (from 703000) None (bodies.Decision (decision 1 1 [])) follower) ≡ (Dropped (reasons.Late 10001), 7, Some 0, None)
unfolding step kind_rule timed_duties duties is_up run_passed earlies_marked
decision_late = refl

decision_unrated : shown (receives 713000 None None (bodies.Decision (decision 1 1 [])) follower) ≡ (Dropped reasons.Unrated, 7, Some 0, None)
unfolding step kind_rule timed_duties duties is_up run_passed earlies_marked
decision_unrated = refl

decision_unsynced : shown (receives 713000 None echo (bodies.Decision (decision 1 1 [])) (no_time follower)) ≡ (Dropped reasons.Unsynced, 7, Some 0, None)
unfolding step kind_rule timed_duties duties is_up run_passed earlies_marked
decision_unsynced = refl

-- ---- a decision that is said again

abbrev own : Decision
own = decision 5 0 []

abbrev signs : List (ℕ × Body)
signs = (1, bodies.Sync None) ∷ (2, bodies.Sync None) ∷ []

-- its beat is due at 712000 at once, and at 711999
said_again : sends (ticks 712000 (process 7 692000 (Some own))) ≡ (1, bodies.Decision own) ∷ (2, bodies.Decision own) ∷ signs
unfolding step kind_rule timed_duties duties is_up
said_again = refl

a_microsecond_early : sends (ticks 711999 (process 7 691999 (Some own))) ≡ signs
unfolding step kind_rule timed_duties duties is_up
a_microsecond_early = refl

-- ---- a ballot that is over

-- number 6 has the slot from 600000 to 699999, and the next one
abbrev ballot_left : Outcome → Option ℕ × Option ℕ
ballot_left o = (option_map (λ (b : Ballot). length b.reports.items) o.process.ballot, option_map (λ (d : Decision). d.group) o.out.made)

last_of_the_next : ballot_left (ticks 799999 (collects 6 799990)) ≡ (Some 1, None)
unfolding step kind_rule timed_duties duties is_up
last_of_the_next = refl

first_behind_it : ballot_left (ticks 800000 (collects 6 799990)) ≡ (None, None)
unfolding step kind_rule timed_duties duties is_up
first_behind_it = refl

-- a promise that comes then makes a group of it, or comes for nothing
group_at_the_last : ballot_left (receives 799999 (from 799000) None (promise 6) (collects 6 799990)) ≡ (None, Some 6)
unfolding step kind_rule timed_duties duties is_up
group_at_the_last = refl

none_behind_it : ballot_left (receives 800000 (from 799000) None (promise 6) (collects 6 799990)) ≡ (None, None)
unfolding step kind_rule timed_duties duties is_up
none_behind_it = refl

joined_all_the_same : (receives 800000 (from 799000) None (promise 6) (collects 6 799990)).answer ≡ Done
unfolding step kind_rule timed_duties duties is_up
joined_all_the_same = refl

-- and where a tick came first, the promise is old
old_behind_a_tick : (receives 800000 (from 799000) None (promise 6) (ticks 800000 (collects 6 799990)).process).answer ≡ Dropped reasons.Old
unfolding step kind_rule timed_duties duties is_up
old_behind_a_tick = refl

-- ---- early deliveries

abbrev id : (who seq : ℕ) → UpdateId
id who seq = record { who = who; incarnation = 699990; seq = seq }

abbrev update : UpdateId → Order → Atom → Kept
update id order atom = record { entry = record { id = id; order = order; atom = atom; stamp = 5; late = false }; early = false; payload = record { items = [] } }

-- a total strong update that nobody has stands before an unordered one in the list, and an unordered one waits
abbrev blocked : Kept
blocked = update (id 1 1) orders.Total atoms.Strong

abbrev listed : Kept
listed = update (id 1 2) orders.Unordered atoms.Weak

abbrev waiting : Kept
waiting = update (id 0 1) orders.Unordered atoms.Weak

abbrev with_list : Process
with_list = record (process 7 712999 (Some (decision 5 1 (blocked.entry ∷ listed.entry ∷ [])))) {
  log = record { base = 0; entries = blocked ∷ listed ∷ []; passed = 0 };
  waiting = record { pending = waiting ∷ []; held = None };
}

-- those of the list go before those that wait
list_goes_first : (ticks 713000 with_list).out.earlies ≡ record listed { early = true } ∷ record waiting { early = true } ∷ []
unfolding step kind_rule timed_duties duties is_up passes run_passed earlies earlies_marked
list_goes_first = refl

told_in_that_order : map {B = Place × UpdateId} (λ (d : Delivered). (d.place, d.update.entry.id)) (ticks 713000 with_list).delivered ≡ (AtEarly 1, id 1 2) ∷ (AtWait, id 0 1) ∷ []
unfolding step kind_rule timed_duties duties is_up passes run_passed earlies earlies_marked
told_in_that_order = refl

-- ---- a held decision, and an older one that lacks a payload too

abbrev missing : Kept
missing = update (id 1 1) orders.Total atoms.Weak

abbrev with_entry : (turn maker : ℕ) → Decision
with_entry turn maker = decision turn maker (missing.entry ∷ [])

abbrev takes : Decision → Process → Outcome
takes d p = receives 713000 (from 711999) None (bodies.Decision d) p

abbrev holds_newer : Process
holds_newer = (takes (with_entry 2 2) follower).process

abbrev held_turn : Process → Option (ℕ × ℕ)
held_turn p = option_map (λ (h : Held). (h.decision.turn, h.source)) p.waiting.held

newer_is_held : held_turn holds_newer ≡ Some (2, 2)
unfolding step kind_rule timed_duties duties is_up run_passed earlies_marked
newer_is_held = refl

-- the older one stays, since it came later, and its maker is asked
older_replaces_it : held_turn (takes (with_entry 1 1) holds_newer).process ≡ Some (1, 1)
unfolding step kind_rule timed_duties duties is_up run_passed earlies_marked
older_replaces_it = refl

its_answer : (takes (with_entry 1 1) holds_newer).answer ≡ Dropped (reasons.Missing (id 1 1))
unfolding step kind_rule timed_duties duties is_up run_passed earlies_marked
its_answer = refl

its_maker_is_asked : sends (takes (with_entry 1 1) holds_newer) ≡ (1, bodies.Ask (wants.Update (id 1 1))) ∷ []
unfolding step kind_rule timed_duties duties is_up run_passed earlies_marked
its_maker_is_asked = refl

-- it is taken once the payload comes
older_is_taken : shown (receives 713000 (from 711999) None (bodies.Update missing) (takes (with_entry 1 1) holds_newer).process) ≡ (Done, 7, Some 1, None)
unfolding step kind_rule timed_duties duties is_up run_passed earlies_marked
older_is_taken = refl

-- and a newer one replaces an older one
newer_replaces_it : held_turn (takes (with_entry 2 2) (takes (with_entry 1 1) follower).process).process ≡ Some (2, 2)
unfolding step kind_rule timed_duties duties is_up run_passed earlies_marked
newer_replaces_it = refl

-- ---- the stamp that is heard

-- of process 1 the stamp 712000 was heard at 712500, or a greater one, or a lesser one
abbrev heard : ℕ → Process
heard a = record follower { timing = record (follower.timing) { heard = λ q. Some (record { a = a; b = 712500 }) } }

abbrev echo_kept : Process → Option Echo
echo_kept p = (receives 713000 (from 711999) None (bodies.Sync None) p).process.timing.heard 1

greater_stays : echo_kept (heard 712001) ≡ Some (record { a = 712001; b = 712500 })
unfolding step kind_rule timed_duties duties is_up
greater_stays = refl

equal_goes : echo_kept (heard 712000) ≡ Some (record { a = 712000; b = 713000 })
unfolding step kind_rule timed_duties duties is_up
equal_goes = refl

lesser_goes : echo_kept (heard 711999) ≡ Some (record { a = 712000; b = 713000 })
unfolding step kind_rule timed_duties duties is_up
lesser_goes = refl
