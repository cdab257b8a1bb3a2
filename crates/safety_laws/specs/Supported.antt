-- Updates are sent, and entries appended, in groups that a majority of the team supports.
use Rattle.std.specs.Prelude.{ℕ, ◌≡◌, ◌≢◌, true, List, [], Some}
use Rattle.std.specs.List.{AllByRecursion}
use Rattle.tw_machine.specs.Types.{Team, Member, Decision}
use Rattle.tw_types.specs.Decisions.{has_seat}
use Rattle.tw_machine.specs.History.{Make, SentUpdate}
use Rattle.safety_laws.specs.Effects.{Written}
use Rattle.safety_laws.specs.Groups.{HasMajority}
use Rattle.tw_types.specs.Items.{In}
use Rattle.safety_laws.specs.Made.{WasMade}

-- a made decision of the group has this member as a seat, and supports of a majority
pub record IsSupportedIn (team : Team) (group : ℕ) (member : Member) (m : Make) : Type 0 where
  pub group_is : m.making.decision.group ≡ group
  pub seat : has_seat member m.making.decision ≡ true
  pub majority : HasMajority team m.making.decision

-- the sender of an update was a member of the group in which it was sent, and that was supported
abbrev pub IsSentInSupported : Team → List Make → SentUpdate → Type 0
IsSentInSupported team makes z = (m : Make) × In m makes × IsSupportedIn team z.sending.group z.member m

-- where entries were appended, what they were appended to was made and has supports of a majority
abbrev pub IsAppendedInSupported : Team → List Make → Make → Type 0
IsAppendedInSupported team makes m = m.making.appended ≢ [] → (last : Decision) × (m.making.before ≡ Some last) × WasMade makes last × HasMajority team last

pub record OfSupported (team : Team) (w : Written) : Type 0 where
  pub sent : AllByRecursion (IsSentInSupported team w.makes) w.sends
  pub appended : AllByRecursion (IsAppendedInSupported team w.makes) w.makes
