-- What was sent, with one step more.
use Rattle.std.proofs.Common.{◌≡◌, sym, subst, List, ◌∷◌, ◌++◌, map}
use Rattle.std.specs.List.{AllByRecursion}
use Rattle.tw_machine.specs.Types.{Team, Step}
use Rattle.tw_machine.specs.Dispatches.{Dispatch, sent_at}
use Rattle.tw_machine.specs.World.{Deed, deed_in, world}
use Rattle.tw_types.proofs.Lists.{all_joined}

-- what holds of each that was sent before and of each that a step sends holds of each that was sent after the step
pub all_sent : (P : Dispatch → Type 0) (team : Team) (past : List Step) (s : Step) (d : Deed) → deed_in team (world team past) s ≡ d → AllByRecursion P (world team past).sent → AllByRecursion P (map (sent_at s.t) d.out.sends) → AllByRecursion P (world team (s ∷ past)).sent
all_sent P team past s d comes before sent =
    subst (λ (d : Deed). AllByRecursion P ((world team past).sent ++ map (sent_at s.t) d.out.sends)) (sym comes) (all_joined P (world team past).sent (map (sent_at s.t) d.out.sends) before sent)
