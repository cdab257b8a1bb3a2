-- Groups that were made when a greater one had been made already.
use Rattle.std.specs.Prelude.{ℕ, ◌≡◌, ◌<◌, ◌⊎◌, List, [], ◌∷◌}
use Rattle.tw_types.specs.declared.team.Team.{Team}
use Rattle.tw_types.specs.Items.{In}
use Rattle.tw_machine.specs.History.{Make}
use Rattle.safety_laws.specs.Groups.{HasMajority}

-- of a list that has the newest first: the earlier one stands behind the later one, and so was made before it
abbrev pub IsBehind : List Make → (later earlier : Make) → Type 0
IsBehind [] later earlier = ⊥
IsBehind (m ∷ older) later earlier = ((m ≡ later) × In earlier older) ⊎ IsBehind older later earlier

-- a made decision of this group has supports of a majority
abbrev pub IsSupportedGroup : Team → List Make → (group : ℕ) → Type 0
IsSupportedGroup team makes group = (m : Make) × In m makes × (m.making.decision.group ≡ group) × HasMajority team m.making.decision

-- A group is overtaken where a greater one was made before it, and that one has a decision with supports of a majority, be it made before
-- or after.
pub record IsOvertaken (team : Team) (makes : List Make) (c : Make) : Type 0 where
  pub by : Make
  pub turn : by.making.decision.turn ≡ 0
  pub greater : c.making.decision.group < by.making.decision.group
  pub before : IsBehind makes c by
  pub supported : IsSupportedGroup team makes by.making.decision.group
