-- The numbers that are promised at a reading.
use Rattle.std.specs.Prelude.{◌+◌, ◌≤◌}
use Rattle.std.specs.List.{AllByRecursion}
use Rattle.tw_types.specs.declared.team.Team.{Team}
use Rattle.tw_types.specs.Slots.{slot_of}
use Rattle.tw_machine.specs.History.{Promised}
use Rattle.safety_laws.specs.Laws.{Law}
use Rattle.safety_laws.specs.NotAhead.{promise_reading}

-- a promised number is one below the slot of its reading at least, and n + 1 above it at most
pub record IsInWindow (team : Team) (x : Promised) : Type 0 where
  pub positive : 1 ≤ x.promise.number
  pub early : slot_of team (promise_reading x) ≤ x.promise.number + 1
  pub late : x.promise.number ≤ slot_of team (promise_reading x) + team.n + 1

-- promises keep the window
abbrev pub windows : Team → Law
windows team = record { History = λ steps w. AllByRecursion (IsInWindow team) w.promises; Running = λ steps w who p. Unit {0} }
