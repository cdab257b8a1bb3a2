-- A team's numbers, and which of its faults is the first.
use Rattle.std.specs.Prelude.{ℕ, ◌+◌, ◌*◌, ◌<◌, ◌≤◌, ◌^◌, nat_lt, nat_le, ◌==◌, Bool, ◌||◌, if◌then◌else◌, List, [], ◌∷◌, Option, Some, None}
use Rattle.std.specs.List.{list_any}
use Rattle.tw_types.specs.declared.team.Team.{Team}
use Rattle.tw_types.specs.declared.team.TeamFault.{TeamFault}
use Rattle.tw_types.specs.declared.team.TeamFault.TheVariants.{Size, Drift, Eps, Slot, Pace, Lease, Quarantine, Range}

-- a fault, and whether the team has it
pub record Tested : Type 0 where
  pub fault : TeamFault
  pub present : Bool

-- the team's times
abbrev pub times_of : Team → List ℕ
times_of team = team.eps ∷ team.delta ∷ team.pace ∷ team.decide ∷ team.ring ∷ team.slot ∷ team.lease ∷ team.quarantine ∷ team.theta ∷ []

-- The faults in the order in which they are looked for. A restarted process waits longer in quarantine than any support
-- that it gave can count, however fast its clock runs.
abbrev pub faults_of : Team → List Tested
faults_of team =
    record { fault = Size; present = nat_lt team.n 3 || nat_lt 15 team.n }
    ∷ record { fault = Drift; present = nat_lt 1000 team.ppm }
    ∷ record { fault = Eps; present = team.eps == 0 }
    ∷ record { fault = Slot; present = nat_le team.slot (4 * team.eps) }
    ∷ record { fault = Pace; present = list_any (λ x. x == 0) (team.delta ∷ team.pace ∷ team.decide ∷ []) || nat_le team.ring (team.decide + team.delta) }
    ∷ record { fault = Lease; present = nat_le team.lease (team.n * (team.decide + team.delta)) }
    ∷ record { fault = Quarantine; present = nat_lt (team.quarantine * 1000000) ((1000000 + team.ppm) * (team.lease + (team.n + 4) * team.slot + 4 * team.eps + 2) + 1000000) }
    ∷ record { fault = Range; present = list_any (λ x. nat_le (2 ^ 40) x) (times_of team) }
    ∷ []

abbrev pub first_present : List Tested → Option TeamFault
first_present [] = None
first_present (t ∷ ts) = if t.present then Some t.fault else first_present ts

-- the first fault that a team has
abbrev pub fault_of : Team → Option TeamFault
fault_of team = first_present (faults_of team)

-- a team with none of the faults
pub record IsSound (team : Team) : Type 0 where
  pub at_least_three : 3 ≤ team.n
  pub at_most_fifteen : team.n ≤ 15
  pub drift : team.ppm ≤ 1000
  pub eps : 0 < team.eps
  pub slot : 4 * team.eps < team.slot
  pub delta : 0 < team.delta
  pub pace : 0 < team.pace
  pub decide : 0 < team.decide
  pub ring : team.decide + team.delta < team.ring
  pub lease : team.n * (team.decide + team.delta) < team.lease
  pub quarantine : (1000000 + team.ppm) * (team.lease + (team.n + 4) * team.slot + 4 * team.eps + 2) + 1000000 ≤ team.quarantine * 1000000
  pub eps_range : team.eps < 2 ^ 40
  pub delta_range : team.delta < 2 ^ 40
  pub pace_range : team.pace < 2 ^ 40
  pub decide_range : team.decide < 2 ^ 40
  pub ring_range : team.ring < 2 ^ 40
  pub slot_range : team.slot < 2 ^ 40
  pub lease_range : team.lease < 2 ^ 40
  pub quarantine_range : team.quarantine < 2 ^ 40
  pub theta_range : team.theta < 2 ^ 40
