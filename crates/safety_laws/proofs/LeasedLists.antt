-- Leased support, on the lists of what was made and who was up.
use Rattle.std.proofs.Common.{◌≡◌, sym, subst, ◌∙◌, ap, ℕ, ◌+◌, ◌/◌, ◌≤◌, true, List, count_by}
use Rattle.tw_machine.specs.Types.{Team, Decision, Member, Seat}
use Rattle.tw_types.specs.Flag.{counts}
use Rattle.tw_machine.specs.History.{Promised, Make, Up}
use Rattle.tw_types.specs.Items.{In}
use Rattle.safety_laws.specs.Ups.{WasUp}
use Rattle.safety_laws.proofs.Counting.{IsMajority, processes_by, passes}
use Rattle.safety_laws.proofs.Leases.{counts_there, counts_at, supported_enough}
use Rattle.safety_laws.proofs.Lists.{of_each}
use Rattle.safety_laws.proofs.Quorums.{HasOwnName, Agree, supported_at, supporters, some_support}

-- a make by a process, of the group of an up, of which a lease reaches to its reading
pub record HasLeased (team : Team) (makes : List Make) (u : Up) (who : ℕ) (made : Make) : Type 0 where
  pub among : In made makes
  pub group : made.making.decision.group ≡ u.group
  pub by : made.who ≡ who
  pub lasts : u.reading ≤ made.making.decision.made + team.lease

-- Who was up was supported by a majority, each by a make of its own group, no longer ago than a lease.
pub record LeasedBy (team : Team) (makes : List Make) (u : Up) : Type 0 where
  pub processes : List ℕ
  pub majority : IsMajority team.n processes
  pub each : (who : ℕ) → In who processes → (made : Make) × HasLeased team makes u who made

pub leased : (team : Team) (promises : List Promised) (makes : List Make) → Agree team promises makes → (u : Up) → WasUp team makes u → LeasedBy team makes u
leased team promises makes k u was = record {
  processes = processes_by (λ (s : Seat). s.member.who) (λ (s : Seat). counts team u.reading s.support) last.making.decision.seats.items;
  majority = supporters team promises makes k.arise (λ (s : Seat). counts team u.reading s.support) last was.made.1
      (subst (λ (d : Decision). team.n / 2 + 1 ≤ count_by (λ (s : Seat). counts team u.reading s.support) d.seats.items) (sym was.made.2) (supported_enough team u.reading u.last was.supported));
  each = λ who i. one who (passes (λ (s : Seat). s.member.who) (λ (s : Seat). counts team u.reading s.support) last.making.decision.seats.items who i);
}
  where
    last : Make
    last = was.made.0

    one : (who : ℕ) → (s : Seat) × In s last.making.decision.seats.items × (counts team u.reading s.support ≡ true) × (s.member.who ≡ who) → (made : Make) × HasLeased team makes u who made
    one who s =
        let support = some_support s.0.support (counts_there team u.reading s.0.support s.2) in
        let m = supported_at makes last k.supported was.made.1 s.0 s.1 support.0 support.1 in (
          m.0,
          record {
            among = m.1;
            group = m.2.group ∙ ap (λ (d : Decision). d.group) was.made.2 ∙ sym was.group;
            by = sym (of_each HasOwnName makes m.0 k.named m.1) ∙ ap (λ (x : Member). x.who) m.2.member ∙ s.3;
            lasts = subst (λ (r : ℕ). u.reading ≤ r + team.lease) (sym m.2.at) (counts_at team u.reading s.0.support support.0 support.1 s.2);
          },
        )
