-- What a process supported before the promise that ends its support.
use Rattle.std.specs.Prelude.{◌+◌, ◌≡◌, ◌<◌, ◌⊎◌, true, List}
use Rattle.std.specs.List.{AllByRecursion}
use Rattle.tw_types.specs.declared.team.Team.{Team}
use Rattle.tw_types.specs.Reports.{is_by_informed}
use Rattle.tw_machine.specs.History.{Promised, Make}
use Rattle.safety_laws.specs.Laws.{Law}
use Rattle.safety_laws.specs.Made.{IsNotOlder}
use Rattle.safety_laws.specs.Memory.{IsAtLeast}
use Rattle.safety_laws.specs.NotAhead.{promise_reading, make_reading}

-- A promise against a make of its process, of a lower group: its report names that support or a later one, or reads behind the end of
-- its lease; and an informed one reports a pair that isn't below.
pub record Precedes (team : Team) (x : Promised) (m : Make) : Type 0 where
  pub support : IsAtLeast (make_reading m) x.promise.report.support ⊎ (make_reading m + team.lease < promise_reading x)
  pub pair : is_by_informed x.promise.report ≡ true → IsNotOlder x.promise.report.group x.promise.report.turn m.making.decision.group m.making.decision.turn

abbrev pub PrecedeIt : Team → List Make → Promised → Type 0
PrecedeIt team makes x = AllByRecursion (λ (m : Make). m.who ≡ x.who → m.making.decision.group < x.promise.number → Precedes team x m) makes

-- supports precede the promise that ends them
abbrev pub precede : Team → Law
precede team = record { History = λ steps w. AllByRecursion (PrecedeIt team w.makes) w.promises; Running = λ steps w who p. Unit {0} }
