-- All that is known of promises, makes and ups, in one law.
use Rattle.std.specs.Prelude.{ℕ, ◌+◌, ◌/◌, ◌≡◌, ◌≤◌, ◌<◌, List, Some, is_some, count_by}
use Rattle.std.specs.List.{AllByRecursion}
use Rattle.tw_machine.specs.Types.{Team, Decision, Seat, Step}
use Rattle.tw_types.specs.Process.{Process}
use Rattle.tw_machine.specs.History.{Make}
use Rattle.safety_laws.specs.Effects.{Written}
use Rattle.safety_laws.specs.Laws.{Law}
use Rattle.safety_laws.specs.Made.{OfMakes, OfMaker}
use Rattle.safety_laws.specs.Memory.{Remembers}
use Rattle.safety_laws.specs.Once.{AllOnce, IsAboveAll, IsUnmade}
use Rattle.safety_laws.specs.Precede.{PrecedeIt}
use Rattle.safety_laws.specs.Promises.{OfPromises, OfPromiser}
use Rattle.safety_laws.specs.Still.{StandsStill}
use Rattle.safety_laws.specs.Ups.{WasUp}

pub record OfGroups (team : Team) (steps : List Step) (w : Written) : Type 0 where
  pub promises : OfPromises team steps w
  pub makes : OfMakes team steps w
  pub once : AllOnce w.makes
  pub precede : AllByRecursion (PrecedeIt team w.makes) w.promises
  pub ups : AllByRecursion (WasUp team w.makes) w.ups

pub record OfMember (team : Team) (steps : List Step) (w : Written) (who : ℕ) (p : Process) : Type 0 where
  pub promiser : OfPromiser steps w who p
  pub memory : Remembers steps w who p
  pub maker : OfMaker team steps w who p
  pub above : IsAboveAll w who p
  pub unmade : IsUnmade w p
  pub still : StandsStill w p

-- the laws on groups
abbrev pub of_groups : Team → Law
of_groups team = record { History = OfGroups team; Running = OfMember team }

-- a decision with supports of a majority
abbrev pub HasMajority : Team → Decision → Type 0
HasMajority team d = team.n / 2 + 1 ≤ count_by (λ (s : Seat). is_some s.support) d.seats.items

-- a group that stands on a decision which isn't of a lower group
abbrev pub StandsOn : Make → ℕ → Type 0
StandsOn m group = (best : Decision) × (m.making.before ≡ Some best) × (group ≤ best.group)

-- a make that begins a group above this one
pub record BeginsAbove (group : ℕ) (m : Make) : Type 0 where
  pub turn : m.making.decision.turn ≡ 0
  pub above : group < m.making.decision.group
