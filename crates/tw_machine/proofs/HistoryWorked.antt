-- What was promised and made in the schedules in which groups form, and when their processes were up, computed.
use Rattle.std.proofs.Common.{◌≡◌, refl, ℕ, List, [], ◌∷◌, map}
use Rattle.tw_types.specs.Flag.{is_up}
use Rattle.tw_machine.specs.Step.{step}
use Rattle.tw_machine.specs.Rules.{kind_rule}
use Rattle.tw_machine.specs.Duties.{timed_duties, duties}
use Rattle.tw_machine.specs.History.{Promised, Make, Up, history}
use Rattle.tw_machine.proofs.GroupsWorked.{first_group_team, first_group, second_group_team, second_group}

-- who promised which number, at which reading
abbrev votes : List Promised → List (ℕ × ℕ × ℕ)
votes items = map (λ (p : Promised). (p.who, p.promise.number, p.promise.report.reading)) items

-- who made the decision of which group and turn, in which life
abbrev decisions : List Make → List (ℕ × ℕ × ℕ × ℕ)
decisions items = map (λ (m : Make). (m.who, m.life, m.making.decision.group, m.making.decision.turn)) items

-- who was up in which group at which reading
abbrev flags : List Up → List (ℕ × ℕ × ℕ)
flags items = map (λ (u : Up). (u.who, u.group, u.reading)) items

first_group_promises : votes (history first_group_team first_group).promises ≡ (2, 7, 701000) ∷ (0, 7, 701000) ∷ (1, 7, 700000) ∷ []
unfolding is_up step kind_rule timed_duties duties
first_group_promises = refl

first_group_makes : decisions (history first_group_team first_group).makes ≡ (2, 1, 7, 1) ∷ (1, 1, 7, 0) ∷ []
unfolding is_up step kind_rule timed_duties duties
first_group_makes = refl

first_group_ups : flags (history first_group_team first_group).ups ≡ (0, 7, 1102000) ∷ (0, 7, 713000) ∷ (1, 7, 713000) ∷ (2, 7, 712000) ∷ []
unfolding is_up step kind_rule timed_duties duties
first_group_ups = refl

second_group_promises : votes (history second_group_team second_group).promises ≡ (1, 9, 901000) ∷ (0, 9, 900000) ∷ (2, 7, 701000) ∷ (0, 7, 701000) ∷ (1, 7, 700000) ∷ []
unfolding is_up step kind_rule timed_duties duties
second_group_promises = refl

second_group_makes : decisions (history second_group_team second_group).makes ≡ (1, 1, 9, 1) ∷ (2, 1, 7, 1) ∷ (0, 1, 9, 0) ∷ (1, 1, 7, 0) ∷ []
unfolding is_up step kind_rule timed_duties duties
second_group_makes = refl

second_group_ups : flags (history second_group_team second_group).ups ≡ (0, 9, 1350000) ∷ (0, 9, 1102001) ∷ (2, 7, 951000) ∷ []
unfolding is_up step kind_rule timed_duties duties
second_group_ups = refl
