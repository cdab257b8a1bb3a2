-- Promises of one process, in the order in which they were given, over all its lives.
use Rattle.std.specs.Prelude.{◌≡◌, ◌≤◌, ◌<◌, List, [], ◌∷◌}
use Rattle.std.specs.List.{AllByRecursion}
use Rattle.tw_machine.specs.History.{Promised}
use Rattle.safety_laws.specs.Laws.{Law}
use Rattle.safety_laws.specs.NotAhead.{promise_reading}

-- an earlier promise of a process against a later one
pub record IsBelow (later earlier : Promised) : Type 0 where
  pub number : earlier.promise.number < later.promise.number
  pub life : earlier.life ≤ later.life
  pub incarnation : earlier.promise.report.member.incarnation ≤ later.promise.report.member.incarnation
  pub reading : earlier.life ≡ later.life → promise_reading earlier ≤ promise_reading later

-- each promise is above all earlier ones of its process; the newest stands first
abbrev pub Ascends : List Promised → Type 0
Ascends [] = Unit {0}
Ascends (x ∷ older) = AllByRecursion (λ (y : Promised). y.who ≡ x.who → IsBelow x y) older × Ascends older

-- promises ascend
abbrev pub ascend : Law
ascend = record { History = λ steps w. Ascends w.promises; Running = λ steps w who p. Unit {0} }
