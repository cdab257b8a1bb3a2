-- What a process knows that may believe its group. Laws take the flag by this alone.
use Rattle.std.proofs.Common.{◌≡◌, ℕ, ◌+◌, ◌/◌, ◌≤◌, true, Option, Some, None, count_by, refl, arith}
use Rattle.std.proofs.lemmas.Bool.Decides.{nat_tests}
use Rattle.tw_types.specs.declared.team.Team.{Team}
use Rattle.tw_types.specs.declared.message.Seat.{Seat}
use Rattle.tw_types.specs.declared.message.Decision.{Decision}
use Rattle.tw_types.specs.Votes.{Vote}
use Rattle.tw_types.specs.Beliefs.{Belief, Informed, Blank}
use Rattle.tw_types.specs.Flag.{counts, is_up}

-- its last decision, whose group started, with the supports of a majority that count at its reading
pub record Backing (team : Team) (belief : Belief) (reading : Option ℕ) : Type 0 where
  pub last : Decision
  pub now : ℕ
  pub is_last : belief ≡ Informed (Some last)
  pub is_now : reading ≡ Some now
  pub started : last.start ≤ now
  pub majority : team.n / 2 + 1 ≤ count_by (λ (s : Seat). counts team now s.support) last.seats.items

-- who is up has the supports of a majority
pub backing : (team : Team) (vote : Vote) (belief : Belief) (reading : Option ℕ) → is_up team vote belief reading ≡ true → Backing team belief reading
unfolding is_up
backing team vote (Informed (Some d)) (Some t) up = record {
  last = d;
  now = t;
  is_last = refl;
  is_now = refl;
  started = search (arith, nat_tests);
  majority = search (arith, nat_tests);
}
backing team vote (Informed (Some d)) None up = cc
backing team vote (Informed None) reading up = cc
backing team vote (Blank followed) reading up = cc
