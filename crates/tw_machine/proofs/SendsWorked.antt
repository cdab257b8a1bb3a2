-- Updates that are sent, received and asked for in one step, computed.
use Rattle.std.proofs.Common.{◌≡◌, refl, ℕ, true, false, List, [], ◌∷◌, map, Option, Some, None, Ok}
use Rattle.std.specs.List.{range_with_len}
use Rattle.std.specs.Option.{option_map}
use Rattle.tw_types.specs.declared.message.Order.TheVariants as orders
use Rattle.tw_types.specs.declared.message.Atom.TheVariants as atoms
use Rattle.tw_machine.specs.Types.{UpdateId, Entry, Kept, Support, Seat, Decision, Body, Datagram, RowAnswer}
use Rattle.tw_types.specs.declared.datagram.Body.TheVariants as bodies
use Rattle.tw_types.specs.declared.datagram.Want.TheVariants as wants
use Rattle.tw_types.specs.declared.answer.ProposeFault.TheVariants.{TooLong, NotUpToDate, Full, Spent}
use Rattle.tw_types.specs.declared.answer.Reason.TheVariants as reasons
use Rattle.tw_types.specs.declared.row.RowAnswer.TheVariants.{Done, Dropped, Sent, Refused}
use Rattle.tw_types.specs.declared.outputs.Mode.TheVariants.{First}
use Rattle.tw_types.specs.Appending.{appended_list}
use Rattle.tw_types.specs.Beliefs.{Informed}
use Rattle.tw_types.specs.Examples.{team_a}
use Rattle.tw_types.specs.Deliveries.{run_passed, earlies_marked}
use Rattle.tw_types.specs.Flag.{is_up}
use Rattle.tw_types.specs.Process.{Process, Purpose, ToTake, ToGroup, started}
use Rattle.tw_types.specs.Waiting.{Held}
use Rattle.tw_machine.specs.Event.{Event, Packet, Outcome}
use Rattle.tw_machine.specs.Standing.{last_decision}
use Rattle.tw_machine.specs.Rules.{kind_rule}
use Rattle.tw_machine.specs.Duties.{timed_duties, duties}
use Rattle.tw_machine.specs.Step.{step}

-- updates of this process's present life
abbrev id : (who seq : ℕ) → UpdateId
id who seq = record { who = who; incarnation = 699990; seq = seq }

abbrev entry : UpdateId → (stamp : ℕ) → Entry
entry id stamp = record { id = id; order = orders.Total; atom = atoms.Weak; stamp = stamp; late = false }

abbrev update : UpdateId → Kept
update id = record { entry = entry id 5; early = false; payload = record { items = 97 ∷ [] } }

abbrev seat : (who next : ℕ) → Option Support → Seat
seat who next support = record { member = record { who = who; incarnation = 699990 }; next = next; support = support }

abbrev supports : Option Support
supports = Some (record { ack = 0; at = 702000 })

-- a decision of group 7 at 702000 with these seats and entries, which process 1 made
abbrev decision : (turn : ℕ) → List Seat → List Entry → Decision
decision turn seats entries = record {
  group = 7;
  turn = turn;
  made = 702000;
  start = 701001;
  low = 0;
  mark = record { stamp = 0; who = 0; seq = 0 };
  seats = record { items = seats };
  maker = 1;
  window = record { items = entries };
}

-- one that 1 and 2 support, with these next numbers of 0 and 1
abbrev supported : (next own : ℕ) → Decision
supported own next = decision 0 (seat 0 own None ∷ seat 1 next supports ∷ seat 2 1 supports ∷ []) []

-- Process 0 took this decision, and these updates wait; its clock was told at 700000 that it is 700000, and it beat lately.
abbrev member : Decision → (next_seq : ℕ) → List Kept → Process
member last next_seq pending = record (started 0 First 699990) {
  timing = record { clock = record { given = record { h = 700000; interval = record { lo = 700000; hi = 700000 } } ∷ []; greatest = None; disjoint = None }; heard = λ q. None };
  beat = record { last = Some 712999 };
  vote = record { promised = 7; support = None };
  belief = Informed (Some last);
  waiting = record { pending = pending; held = None };
  next_seq = next_seq;
}

abbrev ids : List Kept → List UpdateId
ids updates = map (λ (k : Kept). k.entry.id) updates

-- the updates in its list, those that wait, whether a decision is held, and its next number
abbrev shown : Process → List UpdateId × List UpdateId × Option ℕ × ℕ
shown p = (ids p.log.entries, ids p.waiting.pending, option_map (λ (h : Held). h.decision.turn) p.waiting.held, p.next_seq)

abbrev sends : Outcome → List (ℕ × Body)
sends o = map (λ (s : ℕ × Datagram). (s.0, s.1.body)) o.out.sends

-- ---- sends

abbrev send : (size : ℕ) → Process → Outcome
send size p = step team_a 713000 (Event.Send orders.Total atoms.Weak (map (λ i. 97) (range_with_len 0 size))) p

-- an update is numbered, stamped, kept and sent
one_sent : (send 1 (member (supported 1 1) 1 [])).answer ≡ Sent 1
unfolding step kind_rule timed_duties duties is_up appended_list
one_sent = refl

it_waits : shown (send 1 (member (supported 1 1) 1 [])).process ≡ ([], id 0 1 ∷ [], None, 2)
unfolding step kind_rule timed_duties duties is_up appended_list run_passed earlies_marked
it_waits = refl

to_all_others : sends (send 1 (member (supported 1 1) 1 []))
    ≡ (1, bodies.Update (record (update (id 0 1)) { entry = entry (id 0 1) 713000 })) ∷ (2, bodies.Update (record (update (id 0 1)) { entry = entry (id 0 1) 713000 })) ∷ []
unfolding step kind_rule timed_duties duties is_up appended_list
to_all_others = refl

from_its_seat : (send 1 (member (supported 5 1) 3 [])).answer ≡ Sent 5
unfolding step kind_rule timed_duties duties is_up appended_list
from_its_seat = refl

from_its_own : (send 1 (member (supported 3 1) 5 [])).answer ≡ Sent 5
unfolding step kind_rule timed_duties duties is_up appended_list
from_its_own = refl

-- how long a text may be is asked first
abbrev alone : Decision
alone = decision 0 (seat 0 1 None ∷ seat 1 1 supports ∷ seat 2 1 None ∷ []) []

of_no_bytes : (send 0 (member (supported 1 1) 1 [])).answer ≡ Sent 1
unfolding step kind_rule timed_duties duties is_up appended_list
of_no_bytes = refl

of_128_bytes : (send 128 (member (supported 1 1) 1 [])).answer ≡ Sent 1
unfolding step kind_rule timed_duties duties is_up appended_list
of_128_bytes = refl

of_129_bytes : (send 129 (member (supported 1 1) 1 [])).answer ≡ Refused TooLong
unfolding step kind_rule timed_duties duties is_up appended_list
of_129_bytes = refl

too_long_and_not_up : (send 129 (member alone 1 [])).answer ≡ Refused TooLong
unfolding step kind_rule timed_duties duties is_up appended_list
too_long_and_not_up = refl

not_up : (send 1 (member alone 1 [])).answer ≡ Refused NotUpToDate
unfolding step kind_rule timed_duties duties is_up appended_list
not_up = refl

without_a_seat : (send 1 (member (decision 0 (seat 1 1 supports ∷ seat 2 1 supports ∷ []) []) 1 [])).answer ≡ Refused NotUpToDate
unfolding step kind_rule timed_duties duties is_up appended_list
without_a_seat = refl

without_a_reading : (send 1 (record (member (supported 1 1) 1 []) { timing = (started 0 First 699990).timing })).answer ≡ Refused NotUpToDate
unfolding step kind_rule timed_duties duties is_up appended_list
without_a_reading = refl

-- eight may wait
the_eighth : (send 1 (member (supported 3 1) 10 [])).answer ≡ Sent 10
unfolding step kind_rule timed_duties duties is_up appended_list
the_eighth = refl

the_ninth : (send 1 (member (supported 3 1) 11 [])).answer ≡ Refused Full
unfolding step kind_rule timed_duties duties is_up appended_list
the_ninth = refl

-- and the last number is never given
last_but_one : (send 1 (member (supported 4294967294 1) 1 [])).answer ≡ Sent 4294967294
unfolding step kind_rule timed_duties duties is_up appended_list
last_but_one = refl

last_of_its_seat : (send 1 (member (supported 4294967295 1) 1 [])).answer ≡ Refused Spent
unfolding step kind_rule timed_duties duties is_up appended_list
last_of_its_seat = refl

last_of_its_own : (send 1 (member (supported 4294967290 1) 4294967295 [])).answer ≡ Refused Spent
unfolding step kind_rule timed_duties duties is_up appended_list
last_of_its_own = refl

full_before_spent : (send 1 (member (supported 1 1) 4294967295 [])).answer ≡ Refused Full
unfolding step kind_rule timed_duties duties is_up appended_list
full_before_spent = refl

-- a refused send changes nothing, and its duties are done
nothing_given : shown (send 1 (member (supported 3 1) 11 [])).process ≡ ([], [], None, 11)
unfolding step kind_rule timed_duties duties is_up appended_list run_passed earlies_marked
nothing_given = refl

its_beat : sends (send 1 (record (member (supported 3 1) 11 []) { beat = record { last = None } })) ≡ (1, bodies.Sync None) ∷ (2, bodies.Sync None) ∷ []
unfolding step kind_rule timed_duties duties is_up appended_list
its_beat = refl

-- ---- updates that come, unrated

abbrev receives : Body → Process → Outcome
receives body p = step team_a 713000 (Packet (Ok (record {
  head = record { from = 1; to = 0; incarnation = 699990; sent = 712000; interval = None; echo = None };
  body = body;
}))) p

abbrev answer_to : UpdateId → RowAnswer
answer_to i = (receives (bodies.Update (update i)) (member (supported 3 3) 3 (update (id 1 4) ∷ []))).answer

becomes_pending : answer_to (id 1 3) ≡ Done
unfolding step kind_rule timed_duties duties is_up appended_list
becomes_pending = refl

waits_in_order : shown (receives (bodies.Update (update (id 1 3))) (member (supported 3 3) 3 (update (id 1 4) ∷ []))).process ≡ ([], id 1 3 ∷ id 1 4 ∷ [], None, 3)
unfolding step kind_rule timed_duties duties is_up appended_list run_passed earlies_marked
waits_in_order = refl

of_no_member : answer_to (record (id 1 3) { incarnation = 5 }) ≡ Dropped reasons.NotMember
unfolding step kind_rule timed_duties duties is_up appended_list
of_no_member = refl

below_the_next : answer_to (id 1 2) ≡ Dropped reasons.Old
unfolding step kind_rule timed_duties duties is_up appended_list
below_the_next = refl

pending_already : answer_to (id 1 4) ≡ Dropped reasons.Old
unfolding step kind_rule timed_duties duties is_up appended_list
pending_already = refl

its_own : answer_to (id 0 3) ≡ Dropped reasons.Old
unfolding step kind_rule timed_duties duties is_up appended_list
its_own = refl

its_own_far_ahead : answer_to (id 0 11) ≡ Dropped reasons.Old
unfolding step kind_rule timed_duties duties is_up appended_list
its_own_far_ahead = refl

its_own_unseated : (receives (bodies.Update (update (id 0 3))) (member (decision 0 (seat 1 1 supports ∷ seat 2 1 supports ∷ []) []) 3 [])).answer ≡ Dropped reasons.NotMember
unfolding step kind_rule timed_duties duties is_up appended_list
its_own_unseated = refl

the_last_in_the_window : answer_to (id 1 10) ≡ Done
unfolding step kind_rule timed_duties duties is_up appended_list
the_last_in_the_window = refl

out_of_the_window : answer_to (id 1 11) ≡ Dropped reasons.OutOfWindow
unfolding step kind_rule timed_duties duties is_up appended_list
out_of_the_window = refl

-- ---- a hole is filled

-- a next decision of two entries, of which one is pending
abbrev next : Decision
next = decision 1 (seat 0 1 None ∷ seat 1 3 supports ∷ seat 2 1 supports ∷ []) (entry (id 1 1) 5 ∷ entry (id 1 2) 5 ∷ [])

-- it was held for this, when 7 was promised; and this is promised now
abbrev holder : Purpose → (promised : ℕ) → Process
holder purpose promised = record (member (supported 1 1) 1 (update (id 1 1) ∷ [])) {
  vote = record { promised = promised; support = None };
  waiting = record { pending = update (id 1 1) ∷ []; held = Some (record { decision = next; first = 0; source = 2; payloads = update (id 1 1) ∷ [] }) };
  hold = Some (record { purpose = purpose; promised = 7 });
}

abbrev fills : Process → Outcome
fills p = receives (bodies.Update (update (id 1 2))) p

taken : shown (fills (holder ToTake 7)).process ≡ (id 1 1 ∷ id 1 2 ∷ [], [], None, 1)
unfolding step kind_rule timed_duties duties is_up appended_list run_passed earlies_marked
taken = refl

-- both are passed at once
both_passed : (fills (holder ToTake 7)).process.log.passed ≡ 2
unfolding step kind_rule timed_duties duties is_up appended_list run_passed earlies_marked
both_passed = refl

as_its_last : option_map (λ (d : Decision). d.turn) (last_decision (fills (holder ToTake 7)).process) ≡ Some 1
unfolding step kind_rule timed_duties duties is_up appended_list
as_its_last = refl

released_by_a_promise : shown (fills (holder ToTake 9)).process ≡ ([], id 1 1 ∷ [], None, 1)
unfolding step kind_rule timed_duties duties is_up appended_list run_passed earlies_marked
released_by_a_promise = refl

done_all_the_same : (fills (holder ToTake 9)).answer ≡ Done
unfolding step kind_rule timed_duties duties is_up appended_list
done_all_the_same = refl

released_by_a_greater : shown (fills (record (holder ToGroup 7) { belief = Informed (Some (record (supported 1 1) { turn = 2 })) })).process ≡ ([], id 1 1 ∷ [], None, 1)
unfolding step kind_rule timed_duties duties is_up appended_list run_passed earlies_marked
released_by_a_greater = refl

stays_for_a_group : shown (fills (holder ToGroup 7)).process ≡ ([], id 1 1 ∷ [], Some 1, 1)
unfolding step kind_rule timed_duties duties is_up appended_list run_passed earlies_marked
stays_for_a_group = refl

with_its_payload : option_map (λ (h : Held). ids h.payloads) (fills (holder ToGroup 7)).process.waiting.held ≡ Some (id 1 1 ∷ id 1 2 ∷ [])
unfolding step kind_rule timed_duties duties is_up appended_list
with_its_payload = refl

-- one of no seat does, and one of this life
abbrev of_a_stranger : Process
of_a_stranger = record (holder ToTake 7) { belief = Informed (Some (decision 0 (seat 0 1 None ∷ seat 2 1 supports ∷ []) [])) }

hole_before_seat : (fills of_a_stranger).answer ≡ Done
unfolding step kind_rule timed_duties duties is_up appended_list
hole_before_seat = refl

abbrev of_its_own : Process
of_its_own = record (holder ToTake 7) {
  waiting = record { pending = []; held = Some (record { decision = record next { window = record { items = entry (id 0 1) 5 ∷ [] } }; first = 0; source = 2; payloads = [] }) };
}

hole_before_own : shown (receives (bodies.Update (update (id 0 1))) of_its_own).process ≡ (id 0 1 ∷ [], [], None, 1)
unfolding step kind_rule timed_duties duties is_up appended_list run_passed earlies_marked
hole_before_own = refl

-- and so does a send, which is sent all the same
sent_into_a_hole : shown (send 1 of_its_own).process ≡ (id 0 1 ∷ [], [], None, 2)
unfolding step kind_rule timed_duties duties is_up appended_list run_passed earlies_marked
sent_into_a_hole = refl

and_passed : (send 1 of_its_own).process.log.passed ≡ 1
unfolding step kind_rule timed_duties duties is_up appended_list run_passed earlies_marked
and_passed = refl

and_sent : map (λ (s : ℕ × Datagram). s.0) (send 1 of_its_own).out.sends ≡ 1 ∷ 2 ∷ []
unfolding step kind_rule timed_duties duties is_up appended_list
and_sent = refl

-- a hole that isn't the last one sets off nothing
abbrev with_two : Process
with_two = record (holder ToTake 9) {
  waiting = record { pending = []; held = Some (record { decision = next; first = 0; source = 2; payloads = [] }) };
}

one_of_two : shown (fills with_two).process ≡ ([], [], Some 1, 1)
unfolding step kind_rule timed_duties duties is_up appended_list run_passed earlies_marked
one_of_two = refl

-- ---- questions

-- a list with a late entry that was delivered early, a pending update, and one that is held alone
abbrev keeper : Process
keeper = record (holder ToGroup 7) {
  log = record { base = 0; entries = record (update (id 2 1)) { entry = record (entry (id 2 1) 5) { late = true }; early = true } ∷ []; passed = 0 };
  waiting = record { pending = record (update (id 1 1)) { early = true } ∷ []; held = Some (record { decision = next; first = 0; source = 2; payloads = update (id 1 1) ∷ update (id 1 2) ∷ [] }) };
}

abbrev asks : UpdateId → Outcome
asks i = receives (bodies.Ask (wants.Update i)) keeper

in_the_list : sends (asks (id 2 1)) ≡ (1, bodies.Update (update (id 2 1))) ∷ []
unfolding step kind_rule timed_duties duties is_up appended_list
in_the_list = refl

pending : sends (asks (id 1 1)) ≡ (1, bodies.Update (update (id 1 1))) ∷ []
unfolding step kind_rule timed_duties duties is_up appended_list
pending = refl

held_alone : sends (asks (id 1 2)) ≡ (1, bodies.Update (update (id 1 2))) ∷ []
unfolding step kind_rule timed_duties duties is_up appended_list
held_alone = refl

nowhere : (asks (id 1 3)).answer ≡ Dropped reasons.NotHeld
unfolding step kind_rule timed_duties duties is_up appended_list
nowhere = refl

no_table : (receives (bodies.Ask (wants.Table 7)) keeper).answer ≡ Dropped reasons.NotHeld
unfolding step kind_rule timed_duties duties is_up appended_list
no_table = refl

-- of a long list the last 64 entries are kept
abbrev long : Process
long = record (member (supported 1 1) 1 []) { log = record { base = 0; entries = map (λ i. update (id 2 i)) (range_with_len 1 65); passed = 65 } }

before_the_last : (receives (bodies.Ask (wants.Update (id 2 1))) long).answer ≡ Dropped reasons.NotHeld
unfolding step kind_rule timed_duties duties is_up appended_list
before_the_last = refl

among_the_last : (receives (bodies.Ask (wants.Update (id 2 2))) long).answer ≡ Done
unfolding step kind_rule timed_duties duties is_up appended_list
among_the_last = refl
