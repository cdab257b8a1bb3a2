-- One group at a reading, on the lists of what was made and who was up.
use Rattle.std.proofs.Common.{◌≡◌, sym, ap, subst, ◌∙◌, ◌⊎◌, inl, inr, ℕ, ◌+◌, ◌/◌, ◌≤◌, ◌<◌, List, map, length, arith}
use Rattle.std.proofs.lemmas.List.{length-map}
use Rattle.std.proofs.lemmas.Bool.{cases_lt}
use Rattle.tw_machine.specs.Types.{Team, Decision, Seat}
use Rattle.tw_machine.specs.History.{Promised, Make, Up}
use Rattle.tw_types.specs.Items.{In}
use Rattle.safety_laws.specs.Made.{members}
use Rattle.safety_laws.specs.Ups.{WasUp}
use Rattle.safety_laws.proofs.Counting.{IsMajority}
use Rattle.safety_laws.proofs.Groups.{HasFirst, has_first, are_majority, seat_in}
use Rattle.safety_laws.proofs.Leases.{up_outlasts}
use Rattle.safety_laws.proofs.Quorums.{Agree}

-- The first make of the group of an up, which has started at its reading. Its members are those of the last decision, a majority
-- that names who was up.
pub record IsFirstOf (team : Team) (makes : List Make) (u : Up) (first : Make) : Type 0 where
  pub among : In first makes
  pub turn : first.making.decision.turn ≡ 0
  pub group : first.making.decision.group ≡ u.group
  pub started : first.making.decision.start ≤ u.reading
  pub majority : IsMajority team.n (map (λ (s : Seat). s.member.who) first.making.decision.seats.items)
  pub enough : team.n / 2 + 1 ≤ length (members first.making.decision)
  pub named : In u.member (members first.making.decision)
  pub last_members : members first.making.decision ≡ members u.last

module _ (team : Team) (promises : List Promised) (makes : List Make) (k : Agree team promises makes) where
  -- No group above that of an up has started at its reading.
  pub none_above : (u : Up) → WasUp team makes u → (higher : Make) → In higher makes → higher.making.decision.turn ≡ 0 → higher.making.decision.start ≤ u.reading → higher.making.decision.group ≤ u.group
  none_above u was higher j turn started = go (cases_lt u.group higher.making.decision.group)
    where
      go : (u.group < higher.making.decision.group) ⊎ (higher.making.decision.group ≤ u.group) → higher.making.decision.group ≤ u.group
      go (inl later) = absurd (let above = up_outlasts team promises makes k u was higher j turn later in omega arith)
      go (inr low) = low

  -- Its own group has.
  pub own_started : (u : Up) → WasUp team makes u → (first : Make) × IsFirstOf team makes u first
  own_started u was = (
    h.first,
    record {
      among = h.among;
      turn = h.turn;
      group = h.group ∙ ap (λ (d : Decision). d.group) was.made.2 ∙ sym was.group;
      started = subst (λ (s : ℕ). s ≤ u.reading) (sym (h.start ∙ ap (λ (d : Decision). d.start) was.made.2)) was.started;
      majority = are_majority team promises makes k.arise h.first h.among;
      enough = rw (length-map h.first.making.decision.seats.items (λ (s : Seat). s.member)) h.at.comes.seats;
      named = subst (In u.member) (ap members (sym was.made.2) ∙ sym h.same_members) (seat_in u.member u.last.seats.items was.named);
      last_members = h.same_members ∙ ap members was.made.2;
    },
  )
    where
      h : HasFirst team promises makes was.made.0
      h = has_first team promises makes k.arise was.made.0 was.made.1
