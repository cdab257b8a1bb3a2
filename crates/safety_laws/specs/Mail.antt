-- Promises that are told in datagrams.
use Rattle.std.specs.Prelude.{ℕ, ◌≡◌, List}
use Rattle.std.specs.List.{AllByRecursion}
use Rattle.tw_types.specs.declared.datagram.Body.{Body}
use Rattle.tw_types.specs.declared.datagram.Body.TheVariants as bodies
use Rattle.tw_types.specs.Votes.{Promise}
use Rattle.tw_machine.specs.Dispatches.{Dispatch}
use Rattle.tw_machine.specs.History.{Promised}
use Rattle.safety_laws.specs.Laws.{Law}
use Rattle.tw_types.specs.Items.{In}

-- a process gave this promise
abbrev pub WasGiven : List Promised → ℕ → Promise → Type 0
WasGiven promises who given = (x : Promised) × In x promises × (x.who ≡ who) × (x.promise ≡ given)

-- what a body tells as a promise was promised by its sender
abbrev pub TellsGiven : List Promised → ℕ → Body → Type 0
TellsGiven promises from (bodies.Promise number report decision) = WasGiven promises from (record { number = number; report = report; decision = decision })
TellsGiven promises from (bodies.Decision d) = Unit {0}
TellsGiven promises from (bodies.Update kept) = Unit {0}
TellsGiven promises from (bodies.NoDecision number group turn skip reports best) = Unit {0}
TellsGiven promises from (bodies.Election number why) = Unit {0}
TellsGiven promises from (bodies.Ask want) = Unit {0}
TellsGiven promises from (bodies.State group position total offset bytes) = Unit {0}
TellsGiven promises from (bodies.Sync ready) = Unit {0}

-- packets hold promises
abbrev pub mail : Law
mail = record { History = λ steps w. AllByRecursion (λ (k : Dispatch). TellsGiven w.promises k.datagram.head.from k.datagram.body) w.sent; Running = λ steps w who p. Unit {0} }
