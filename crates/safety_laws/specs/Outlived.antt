-- Leases that are over before a later life of their process promises.
use Rattle.std.specs.Prelude.{◌+◌, ◌≡◌, ◌<◌, List}
use Rattle.std.specs.List.{AllByRecursion}
use Rattle.tw_types.specs.declared.team.Team.{Team}
use Rattle.tw_machine.specs.History.{Promised, Make}
use Rattle.safety_laws.specs.Laws.{Law}
use Rattle.safety_laws.specs.NotAhead.{promise_reading, make_reading}

-- a promise of a later life reads above the end of each lease that its process gave in an earlier one
abbrev pub OutlivesAll : Team → List Make → Promised → Type 0
OutlivesAll team makes x = AllByRecursion (λ (d : Make). d.who ≡ x.who → d.life < x.life → make_reading d + team.lease < promise_reading x) makes

-- a restarted process promises behind its leases
abbrev pub outlived : Team → Law
outlived team = record { History = λ steps w. AllByRecursion (OutlivesAll team w.makes) w.promises; Running = λ steps w who p. Unit {0} }
