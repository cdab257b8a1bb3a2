-- Supports are of decisions.
use Rattle.std.specs.Prelude.{◌≡◌, ◌≤◌, List, [], ◌∷◌, Some}
use Rattle.std.specs.List.{AllByRecursion}
use Rattle.tw_machine.specs.Types.{Seat, Support}
use Rattle.tw_types.specs.Decisions.{decision_length}
use Rattle.tw_machine.specs.History.{Make}
use Rattle.safety_laws.specs.Laws.{Law}
use Rattle.tw_types.specs.Items.{In}

-- a seat's support is that of a make of its member, of this group and this turn or an earlier one, with its reading and its length
pub record IsMakeOf (m : Make) (seat : Seat) (support : Support) (made : Make) : Type 0 where
  pub member : made.member ≡ seat.member
  pub group : made.making.decision.group ≡ m.making.decision.group
  pub turn : made.making.decision.turn ≤ m.making.decision.turn
  pub at : made.making.decision.made ≡ support.at
  pub ack : decision_length made.making.decision ≡ support.ack

-- one of these makes is that of the support, if the seat has one
abbrev pub IsSupported : List Make → Make → Seat → Type 0
IsSupported makes m seat = (support : Support) → seat.support ≡ Some support → (made : Make) × In made makes × IsMakeOf m seat support made

-- of each make, by it and the makes before it
abbrev pub AllSupported : List Make → Type 0
AllSupported [] = Unit {0}
AllSupported (m ∷ older) = AllByRecursion (IsSupported (m ∷ older) m) m.making.decision.seats.items × AllSupported older

-- supports are makes
abbrev pub supports : Law
supports = record { History = λ steps w. AllSupported w.makes; Running = λ steps w who p. Unit {0} }
