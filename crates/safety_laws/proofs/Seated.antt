-- What is added to a list in a group is of members of that group.
use Rattle.std.proofs.Common.{◌≡◌, sym, subst, true, List, ◌∷◌, Option}
use Rattle.std.specs.List.{AllByRecursion}
use Rattle.tw_machine.specs.Types.{Team, Decision, Kept, Step}
use Rattle.tw_types.specs.Decisions.{or_none, has_seat}
use Rattle.tw_types.specs.Updates.{sender}
use Rattle.tw_machine.specs.History.{Make, make_item}
use Rattle.tw_machine.specs.Standing.{member_of}
use Rattle.tw_machine.specs.World.{world}
use Rattle.safety_laws.specs.Effects.{Written, State, Here, Makes, Change}
use Rattle.safety_laws.specs.Groups.{of_groups}
use Rattle.safety_laws.specs.Laws.{Holds}
use Rattle.safety_laws.specs.Made.{Arises, AsFirst, AsNext, AllArise}
use Rattle.safety_laws.specs.Seated.{AddsOfSeats, AllAddOfSeats}
use Rattle.safety_laws.proofs.AddedBy.{IsAddedBy, added_by}
use Rattle.safety_laws.proofs.Groups.{seat_of_members}
use Rattle.safety_laws.proofs.Lists.{each_weaker}
use Rattle.safety_laws.proofs.Stack.{RulesOver, OfHistory, history_rules, Stepping}
use Rattle.safety_laws.proofs.Turns.{follower_members}

module _ (team : Team) (past : List Step) (s : Step) (here : Here) (x y : State) (at : Stepping team past s here) (after : Holds (of_groups team) (s ∷ past) (world team past) s.who y) where
  -- the new make
  abbrev new_make : Makes here x y → Make
  new_make c = make_item (member_of x.process.identity) here.life here.step x.written.makes c.making

  -- what it adds is of seats of its decision: of those of the last one, which has the same members
  new_adds : (c : Makes here x y) → AddsOfSeats (new_make c)
  new_adds c = go (subst (λ (w : Written). AllArise team w.promises w.makes) c.written after.history.makes.arise).0
    where
      go : Arises team x.written.promises x.written.makes (new_make c) → AddsOfSeats (new_make c)
      go (AsFirst turn comes) = subst (AllByRecursion (λ (k : Kept). has_seat (sender k.entry.id) c.making.decision ≡ true)) (sym comes.appended) tt
      go (AsNext last f) = each_weaker (IsAddedBy team c.making.before) (λ (k : Kept). has_seat (sender k.entry.id) c.making.decision ≡ true) c.making.appended
          (λ k by. seat_of_members c.making.decision last (sender k.entry.id) (follower_members x.written.makes (new_make c) last f) (subst (λ (o : Option Decision). has_seat (sender k.entry.id) (or_none o) ≡ true) f.before by.seat))
          (added_by team past s here x y at c)

  changed : Change here x y → AllAddOfSeats x.written → AllAddOfSeats y.written
  changed (Change.Keep c) k = rw c.makes k
  changed (Change.Give c) k = rw c.written k
  changed (Change.Hold c) k = rw c.written k
  changed (Change.Take c) k = rw c.written k
  changed (Change.Deliver c) k = rw c.written k
  changed (Change.Raise c) k = rw c.written k
  changed (Change.Make c) k = rw c.written (new_adds c, k)

pub seated_rules : (team : Team) → RulesOver team (of_groups team) (OfHistory AllAddOfSeats)
seated_rules team = history_rules team (of_groups team) AllAddOfSeats tt (λ past s here x y at change before after k. changed team past s here x y at after change k)
