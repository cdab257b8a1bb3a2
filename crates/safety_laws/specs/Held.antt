-- What a running process holds, to take it or to make a group from it.
use Rattle.std.specs.Prelude.{◌≡◌, ◌<◌, true, Some}
use Rattle.tw_types.specs.declared.message.Decision.{Decision}
use Rattle.tw_types.specs.Beliefs.{view_decision}
use Rattle.tw_types.specs.Decisions.{or_none, is_older, has_seat}
use Rattle.tw_types.specs.Process.{Process, ToTake, ToGroup, Hold}
use Rattle.tw_machine.specs.Standing.{member_of}
use Rattle.safety_laws.specs.Effects.{held_decision}
use Rattle.safety_laws.specs.Laws.{Law}

-- It is of the group that was promised when it was held, names the process, and is above the decision that the process took or follows.
pub record IsHeldWell (p : Process) (d : Decision) (hold : Hold) : Type 0 where
  pub promised : d.group ≡ hold.promised
  pub seat : has_seat (member_of p.identity) d ≡ true
  pub newer : is_older (or_none (view_decision p.belief)).group (or_none (view_decision p.belief)).turn d.group d.turn ≡ true

-- of the decision that it holds, if that is to be taken
abbrev pub HoldsWell : Process → Type 0
HoldsWell p = (d : Decision) (hold : Hold) → held_decision p ≡ Some d → p.hold ≡ Some hold → hold.purpose ≡ ToTake → IsHeldWell p d hold

-- one that is held for a group is of a lower group than was promised when it was held
abbrev pub HoldsBelow : Process → Type 0
HoldsBelow p = (d : Decision) (hold : Hold) → held_decision p ≡ Some d → p.hold ≡ Some hold → hold.purpose ≡ ToGroup → d.group < hold.promised

-- a decision that is held to be taken may be taken while nothing is promised
abbrev pub held : Law
held = record { History = λ steps w. Unit {0}; Running = λ steps w who p. HoldsWell p }

-- a decision that is held for a group is below it
abbrev pub held_below : Law
held_below = record { History = λ steps w. Unit {0}; Running = λ steps w who p. HoldsBelow p }
