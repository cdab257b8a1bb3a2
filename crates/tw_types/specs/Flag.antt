-- When a process may believe its group.
use Rattle.std.specs.Prelude.{ℕ, ◌+◌, ◌/◌, nat_le, Bool, false, ◌&&◌, Option, Some, None, count_by}
use Rattle.tw_types.specs.declared.team.Team.{Team}
use Rattle.tw_types.specs.declared.message.Support.{Support}
use Rattle.tw_types.specs.declared.message.Seat.{Seat}
use Rattle.tw_types.specs.declared.message.Decision.{Decision}
use Rattle.tw_types.specs.Votes.{Vote}
use Rattle.tw_types.specs.Beliefs.{Belief, Informed, Blank}

-- a support counts for the length of a lease
abbrev pub counts : Team → ℕ → Option Support → Bool
counts team t None = false
counts team t (Some support) = nat_le t (support.at + team.lease)

-- a majority of the team, not of the seats alone, has a support that counts
abbrev pub is_supported : Team → ℕ → Decision → Bool
is_supported team t d = nat_le (team.n / 2 + 1) (count_by (λ (s : Seat). counts team t s.support) d.seats.items)

-- The flag, at a reading if there is one: the group of the last decision started, and a majority supports it. A process that is
-- blank believes in no group.
unfoldable pub is_up : Team → Vote → Belief → Option ℕ → Bool
is_up team vote (Informed (Some d)) (Some t) = nat_le d.start t && is_supported team t d
is_up team vote (Informed (Some d)) None = false
is_up team vote (Informed None) reading = false
is_up team vote (Blank followed) reading = false
