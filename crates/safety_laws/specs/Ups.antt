-- Who was up was supported.
use Rattle.std.specs.Prelude.{◌≡◌, ◌≤◌, true, List}
use Rattle.std.specs.List.{AllByRecursion}
use Rattle.tw_types.specs.declared.team.Team.{Team}
use Rattle.tw_types.specs.Decisions.{has_seat}
use Rattle.tw_types.specs.Flag.{is_supported}
use Rattle.tw_machine.specs.History.{Make, Up}
use Rattle.safety_laws.specs.Laws.{Law}
use Rattle.safety_laws.specs.Made.{WasMade}

-- The last decision of a process that was up was made, names it, starts at its reading or before it, and has supports of a majority
-- that counted there.
pub record WasUp (team : Team) (makes : List Make) (u : Up) : Type 0 where
  pub made : WasMade makes u.last
  pub group : u.group ≡ u.last.group
  pub named : has_seat u.member u.last ≡ true
  pub started : u.last.start ≤ u.reading
  pub supported : is_supported team u.reading u.last ≡ true

-- who was up was supported
abbrev pub ups : Team → Law
ups team = record { History = λ steps w. AllByRecursion (WasUp team w.makes) w.ups; Running = λ steps w who p. Unit {0} }
