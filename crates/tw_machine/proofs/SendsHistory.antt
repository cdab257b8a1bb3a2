-- What is written down of sends and of lists in the schedules in which an update is sent, computed.
use Rattle.std.proofs.Common.{◌≡◌, refl, ℕ, false, List, [], ◌∷◌, map, Option, Some, None}
use Rattle.std.specs.Option.{option_map}
use Rattle.tw_types.specs.declared.message.Order.TheVariants as orders
use Rattle.tw_types.specs.declared.message.Atom.TheVariants as atoms
use Rattle.tw_machine.specs.Types.{Kept, Decision}
use Rattle.tw_types.specs.Appending.{appended_list, appended_kept}
use Rattle.tw_types.specs.Deliveries.{passes, run_passed, earlies, earlies_marked}
use Rattle.tw_types.specs.Examples.{team_a}
use Rattle.tw_types.specs.Flag.{is_up}
use Rattle.tw_machine.specs.Step.{step}
use Rattle.tw_machine.specs.Rules.{kind_rule}
use Rattle.tw_machine.specs.Duties.{timed_duties, duties}
use Rattle.tw_machine.specs.History.{Make, SentUpdate, history}
use Rattle.tw_machine.proofs.SendsScheduled.{a_missing_payload_comes, a_newer_one_is_held, a_group_lacks_a_payload}

-- the one update that process 1 sends, of the byte 61 in hexadecimal, stamped with its reading at its send
abbrev update : Kept
update = record {
  entry = record { id = record { who = 1; incarnation = 699990; seq = 1 }; order = orders.Total; atom = atoms.Weak; stamp = 714000; late = false };
  early = false;
  payload = record { items = 97 ∷ [] };
}

-- it is sent in the first life of process 1 and in group 7
abbrev the_send : SentUpdate
the_send = record { who = 1; member = record { who = 1; incarnation = 699990 }; life = 1; t = 714000; h = 714000; sending = record { group = 7; update = update } }

-- who made which group and turn, on which, what was appended, and the whole list
abbrev lists : List Make → List (ℕ × (ℕ × ℕ) × Option (ℕ × ℕ) × List Kept × List Kept)
lists items = map (λ (m : Make). (m.who, (m.making.decision.group, m.making.decision.turn), option_map (λ (d : Decision). (d.group, d.turn)) m.making.before, m.making.appended, m.log)) items

missing_sends : (history team_a a_missing_payload_comes).sends ≡ the_send ∷ []
unfolding is_up step kind_rule timed_duties duties appended_list appended_kept passes run_passed earlies earlies_marked
missing_sends = refl

-- process 0, which makes 7.2, never had the update; process 1 appends its own to 7.3
missing_lists : lists (history team_a a_missing_payload_comes).makes ≡
    (1, (7, 3), Some (7, 2), update ∷ [], update ∷ [])
    ∷ (0, (7, 2), Some (7, 1), [], [])
    ∷ (2, (7, 1), Some (7, 0), [], [])
    ∷ (1, (7, 0), None, [], [])
    ∷ []
unfolding is_up step kind_rule timed_duties duties appended_list appended_kept passes run_passed earlies earlies_marked
missing_lists = refl

-- a later decision of the group appends nothing more, and its list is that of before
held_lists : lists (history team_a a_newer_one_is_held).makes ≡
    (2, (7, 4), Some (7, 3), [], update ∷ [])
    ∷ (1, (7, 3), Some (7, 2), update ∷ [], update ∷ [])
    ∷ (0, (7, 2), Some (7, 1), [], [])
    ∷ (2, (7, 1), Some (7, 0), [], [])
    ∷ (1, (7, 0), None, [], [])
    ∷ []
unfolding is_up step kind_rule timed_duties duties appended_list appended_kept passes run_passed earlies earlies_marked
held_lists = refl

-- an update that is given as an answer is not sent once more
group_sends : (history team_a a_group_lacks_a_payload).sends ≡ the_send ∷ []
unfolding is_up step kind_rule timed_duties duties appended_list appended_kept passes run_passed earlies earlies_marked
group_sends = refl

-- a group that is made on 7.3 has its list too, and appends nothing
group_lists : lists (history team_a a_group_lacks_a_payload).makes ≡
    (0, (9, 0), Some (7, 3), [], update ∷ [])
    ∷ (1, (7, 3), Some (7, 2), update ∷ [], update ∷ [])
    ∷ (0, (7, 2), Some (7, 1), [], [])
    ∷ (2, (7, 1), Some (7, 0), [], [])
    ∷ (1, (7, 0), None, [], [])
    ∷ []
unfolding is_up step kind_rule timed_duties duties appended_list appended_kept passes run_passed earlies earlies_marked
group_lists = refl
