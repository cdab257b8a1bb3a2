-- What is added to a list in a group is of members of that group.
use Rattle.std.specs.Prelude.{◌≡◌, true}
use Rattle.std.specs.List.{AllByRecursion}
use Rattle.tw_types.specs.declared.message.Kept.{Kept}
use Rattle.tw_types.specs.Decisions.{has_seat}
use Rattle.tw_types.specs.Updates.{sender}
use Rattle.tw_machine.specs.History.{Make}
use Rattle.safety_laws.specs.Effects.{Written}

-- the sender of each update that a make adds has a seat in its decision
abbrev pub AddsOfSeats : Make → Type 0
AddsOfSeats m = AllByRecursion (λ (k : Kept). has_seat (sender k.entry.id) m.making.decision ≡ true) m.making.appended

-- each make adds such ones alone
abbrev pub AllAddOfSeats : Written → Type 0
AllAddOfSeats w = AllByRecursion AddsOfSeats w.makes
