-- Which cores are ready for an act, and which world stands for no schedule, worked out by hand.
use Rattle.std.proofs.Common.{◌≡◌, refl, sym, ap, false, true, ◌∙◌, arith, [], ◌∷◌, Option, Some, None}
use Rattle.tw_types.specs.declared.team.Team.{Team}
use Rattle.tw_types.specs.declared.outputs.Mode.TheVariants as modes
use Rattle.tw_types.specs.declared.message.Order.TheVariants.{Total}
use Rattle.tw_types.specs.declared.message.Atom.TheVariants.{Weak}
use Rattle.tw_types.specs.declared.step.Act.TheVariants.{First, Again, Crash, Tick, Send}
use Rattle.tw_types.specs.Examples.{team_a}
use Rattle.tw_types.specs.Process.{Identity, Process, started}
use Rattle.world.specs.declared.world.World.{World}
use Rattle.world.specs.Deeds.{IsReady}
use Rattle.world.specs.StandsFor.{StandsFor}
use Rattle.world.specs.Tables.{Running, Stands}

-- process 0 started at 5
abbrev fresh : Process
fresh = started 0 modes.First 5

-- and was told at 10 that it is 10
abbrev told : Process
told = record fresh { timing = record { clock = record { given = record { h = 10; interval = record { lo = 10; hi = 10 } } ∷ []; greatest = None; disjoint = None }; heard = λ q. None } }

module _ (c : Running) (of_team : c.state.team ≡ team_a) (stands : Stands c fresh) where
  to_be_first : IsReady team_a 0 5 First (Some c) None
  to_be_first = (of_team, stands)

  started_otherwise : IsReady team_a 0 5 Again (Some c) None → ⊥
  started_otherwise ready = let e : modes.Again ≡ modes.First = ap (λ (i : Identity). i.mode) (ready.1.state.identity ∙ sym stands.state.identity) in cc

  for_a_tick : IsReady team_a 0 6 Tick (Some c) (Some fresh)
  for_a_tick = ((of_team, stands), tt, refl)

  for_a_send : (payload : _) → IsReady team_a 0 6 (Send Total Weak payload) (Some c) (Some fresh)
  for_a_send payload = ((of_team, stands), tt, refl)

  for_a_crash : IsReady team_a 0 6 Crash (Some c) (Some fresh)
  for_a_crash = ((of_team, stands), tt, refl)

module _ (c : Option Running) where
  without_a_process : IsReady team_a 0 6 Tick c None → ⊥
  without_a_process ready = let e : false ≡ true = ready.2 in cc

  before_what_was_told : IsReady team_a 0 9 Tick c (Some told) → ⊥
  before_what_was_told ready = omega (arith, ready.1.0)

without_a_core : IsReady team_a 0 6 Tick None (Some fresh) → ⊥
without_a_core ready = ready.0

-- A new world stands for no step: what `World::new` ensures. One that took a step doesn't.
steps_apart : (w : World) → w.steps ≡ 1 → StandsFor team_a [] w → ⊥
steps_apart w one s = let e : w.steps ≡ 0 = s.steps in omega (arith, e, one)

teams_apart : (w : World) → w.team ≡ record team_a { line = 8 } → StandsFor team_a [] w → ⊥
teams_apart w other s = let e : 8 ≡ 7 = ap (λ (t : Team). t.line) (sym other ∙ s.same_team) in omega (arith, e)
