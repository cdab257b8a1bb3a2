-- Decisions with entries in one step, computed: made, taken, held, and a group that is made from one.
use Rattle.std.proofs.Common.{◌≡◌, refl, ℕ, false, List, [], ◌∷◌, map, Option, Some, None, Ok}
use Rattle.std.specs.Option.{option_map}
use Rattle.tw_types.specs.declared.message.Kind.TheVariants as kinds
use Rattle.tw_types.specs.declared.message.Order.TheVariants as orders
use Rattle.tw_types.specs.declared.message.Atom.TheVariants as atoms
use Rattle.tw_machine.specs.Types.{UpdateId, Entry, Kept, Support, Seat, Report, Decision, Body, Datagram}
use Rattle.tw_types.specs.declared.datagram.Body.TheVariants as bodies
use Rattle.tw_types.specs.declared.datagram.Want.TheVariants as wants
use Rattle.tw_types.specs.declared.row.RowAnswer.TheVariants.{Done, Dropped}
use Rattle.tw_types.specs.declared.answer.Reason.TheVariants as reasons
use Rattle.tw_types.specs.declared.outputs.Mode.TheVariants.{First}
use Rattle.tw_types.specs.Appending.{appended_list}
use Rattle.tw_types.specs.Beliefs.{Informed}
use Rattle.tw_types.specs.Decisions.{decision_length}
use Rattle.tw_types.specs.Examples.{team_a}
use Rattle.tw_types.specs.Deliveries.{run_passed, earlies_marked}
use Rattle.tw_types.specs.Flag.{is_up}
use Rattle.tw_types.specs.Process.{Process, started}
use Rattle.tw_machine.specs.Event.{Packet, Tick, Outcome}
use Rattle.tw_machine.specs.Standing.{last_decision}
use Rattle.tw_machine.specs.Rules.{kind_rule}
use Rattle.tw_machine.specs.Duties.{timed_duties, duties}
use Rattle.tw_machine.specs.Step.{step}

-- an update of process 1, and its entry
abbrev id : UpdateId
id = record { who = 1; incarnation = 699990; seq = 1 }

abbrev entry : Entry
entry = record { id = id; order = orders.Total; atom = atoms.Weak; stamp = 5; late = false }

abbrev update : Kept
update = record { entry = entry; early = false; payload = record { items = [] } }

abbrev seat : (who next : ℕ) → Option Support → Seat
seat who next support = record { member = record { who = who; incarnation = 699990 }; next = next; support = support }

-- a decision of group 7 at 702000, which 1 and perhaps 2 support
abbrev decision : (turn maker : ℕ) → Option Support → List Entry → (next : ℕ) → Decision
decision turn maker support entries next = record {
  group = 7;
  turn = turn;
  made = 702000;
  start = 701001;
  low = 0;
  mark = record { stamp = 0; who = 0; seq = 0 };
  seats = record { items = seat 0 1 None ∷ seat 1 next (Some (record { ack = 0; at = 702000 })) ∷ seat 2 1 support ∷ [] };
  maker = maker;
  window = record { items = entries };
}

-- process 0 took this decision, and these updates wait; its clock was told at 700000 that it is 700000, and it beat lately
abbrev member : Decision → List Kept → Process
member last pending = record (started 0 First 699990) {
  timing = record { clock = record { given = record { h = 700000; interval = record { lo = 700000; hi = 700000 } } ∷ []; greatest = None; disjoint = None }; heard = λ q. None };
  beat = record { last = Some 712999 };
  vote = record { promised = 7; support = None };
  belief = Informed (Some last);
  waiting = record { pending = pending; held = None };
}

-- the updates in its list, those that wait, the turn of its last decision, and how many of the list it passed
abbrev shown : Process → List UpdateId × List UpdateId × Option ℕ × ℕ
shown p = (ids p.log.entries, ids p.waiting.pending, option_map (λ (d : Decision). d.turn) (last_decision p), p.log.passed)
  where
    ids : List Kept → List UpdateId
    ids updates = map (λ (k : Kept). k.entry.id) updates

abbrev sends : Outcome → List (ℕ × Body)
sends o = map (λ (s : ℕ × Datagram). (s.0, s.1.body)) o.out.sends

-- ---- made

abbrev ticks : ℕ → Process → Outcome
ticks h p = step team_a h Tick p

abbrev up_by_two : Decision
up_by_two = decision 5 2 (Some (record { ack = 0; at = 702000 })) [] 1

-- a maker that is up adds the update, and passes it at once
up_maker_adds : shown (ticks 713000 (member up_by_two (update ∷ []))).process ≡ (id ∷ [], [], Some 6, 1)
unfolding step kind_rule timed_duties duties is_up appended_list run_passed earlies_marked
up_maker_adds = refl

its_decision : option_map {U = ℕ × List Seat} (λ (d : Decision). (decision_length d, d.seats.items)) (ticks 713000 (member up_by_two (update ∷ []))).out.made
    ≡ Some (1, seat 0 1 (Some (record { ack = 1; at = 713000 })) ∷ seat 1 2 (Some (record { ack = 0; at = 702000 })) ∷ seat 2 1 (Some (record { ack = 0; at = 702000 })) ∷ [])
unfolding step kind_rule timed_duties duties is_up appended_list
its_decision = refl

other_maker_doesnt : shown (ticks 713000 (member (decision 5 2 None [] 1) (update ∷ []))).process ≡ ([], id ∷ [], Some 6, 0)
unfolding step kind_rule timed_duties duties is_up appended_list run_passed earlies_marked
other_maker_doesnt = refl

-- ---- taken, or held

abbrev receives : Decision → Process → Outcome
receives d p = step team_a 713000 (Packet (Ok (record {
  head = record { from = 1; to = 0; incarnation = 699990; sent = 712000; interval = Some (record { lo = 711999; hi = 712001 }); echo = None };
  body = bodies.Decision d;
}))) p

abbrev first : Decision
first = decision 0 1 None [] 1

abbrev next : Decision
next = decision 1 1 None (entry ∷ []) 2

-- by this decision, which one member supports, it isn't up, and passes nothing
taken : shown (receives next (member first (update ∷ []))).process ≡ (id ∷ [], [], Some 1, 0)
unfolding step kind_rule timed_duties duties is_up appended_list
taken = refl

taken_answer : (receives next (member first (update ∷ []))).answer ≡ Done
unfolding step kind_rule timed_duties duties is_up appended_list
taken_answer = refl

held : shown (receives next (member first [])).process ≡ ([], [], Some 0, 0)
unfolding step kind_rule timed_duties duties is_up appended_list
held = refl

held_answer : (receives next (member first [])).answer ≡ Dropped (reasons.Missing id)
unfolding step kind_rule timed_duties duties is_up appended_list
held_answer = refl

asks_its_maker : sends (receives next (member first [])) ≡ (1, bodies.Ask (wants.Update id)) ∷ []
unfolding step kind_rule timed_duties duties is_up appended_list
asks_its_maker = refl

asks_again : sends (ticks 733000 (receives next (member first [])).process) ≡ (1, bodies.Ask (wants.Update id)) ∷ (1, bodies.Sync None) ∷ (2, bodies.Sync None) ∷ []
unfolding step kind_rule timed_duties duties is_up appended_list
asks_again = refl

-- ---- a group

-- it holds a full ballot of number 9, whose best decision 1 told
abbrev elector : List Kept → Process
elector pending = record (member first pending) {
  vote = record { promised = 9; support = None };
  ballot = Some (record { number = 9; ring = None; reports = record { items = report 0 0 0 ∷ report 1 1 1 ∷ report 2 0 0 ∷ [] }; best = Some next; best_from = 1 });
}
  where
    report : ℕ → ℕ → ℕ → Report
    report who turn length = record { member = record { who = who; incarnation = 699990 }; kind = kinds.Informed; group = 7; turn = turn; length = length; support = None; reading = 712000 }

group_from_it : option_map {U = ℕ × ℕ} (λ (d : Decision). (d.group, decision_length d)) (ticks 713000 (elector (update ∷ []))).out.made ≡ Some (9, 1)
unfolding step kind_rule timed_duties duties is_up appended_list
group_from_it = refl

its_list : shown (ticks 713000 (elector (update ∷ []))).process ≡ (id ∷ [], [], Some 0, 0)
unfolding step kind_rule timed_duties duties is_up appended_list
its_list = refl

no_group_without : (ticks 713000 (elector [])).out.made ≡ None
unfolding step kind_rule timed_duties duties is_up appended_list
no_group_without = refl

asks_who_told : sends (ticks 713000 (elector [])) ≡ (1, bodies.Ask (wants.Update id)) ∷ []
unfolding step kind_rule timed_duties duties is_up appended_list
asks_who_told = refl
