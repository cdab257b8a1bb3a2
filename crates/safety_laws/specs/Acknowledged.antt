-- What a majority acknowledged, and the last group in which something was appended.
use Rattle.std.specs.Prelude.{ℕ, ◌≡◌, ◌≢◌, ◌≤◌, ◌<◌, nat_le, Bool, false, List, [], length, Option, Some, None}
use Rattle.std.specs.List.{AllByRecursion}
use Rattle.tw_machine.specs.Types.{Seat, Support}
use Rattle.tw_types.specs.Items.{In}
use Rattle.tw_machine.specs.History.{Make}

-- a seat whose support says that its member had at least so many entries
abbrev pub reaches : ℕ → Option Support → Bool
reaches l None = false
reaches l (Some support) = nat_le l support.ack

abbrev pub has_acked : ℕ → Seat → Bool
has_acked l s = reaches l s.support

-- the list of a make of the seat's member, of that group and reading, is as long as the seat's support says
pub record IsOfLength (m : Make) (seat : Seat) (support : Support) (made : Make) : Type 0 where
  pub member : made.member ≡ seat.member
  pub group : made.making.decision.group ≡ m.making.decision.group
  pub at : made.making.decision.made ≡ support.at
  pub length_is : length made.log ≡ support.ack

abbrev pub Supported : List Make → Make → Seat → Type 0
Supported makes m seat = (support : Support) → seat.support ≡ Some support → (made : Make) × In made makes × IsOfLength m seat support made

-- nothing was appended in the groups above this one and up to that
abbrev pub IsSilent : List Make → (above upto : ℕ) → Type 0
IsSilent makes above upto = AllByRecursion (λ (k : Make). above < k.making.decision.group → k.making.decision.group ≤ upto → k.making.appended ≡ []) makes

-- A made decision's list is that of a decision of the last group at or below its own in which something was appended; or there is no such
-- group, and it is empty.
pub data AddsLast (makes : List Make) (m : Make) : Type 0 where
  InNone : IsSilent makes 0 m.making.decision.group → m.log ≡ [] → AddsLast makes m
  InOne : (adder last : Make) → In adder makes → adder.making.appended ≢ [] → adder.making.decision.group ≤ m.making.decision.group → IsSilent makes adder.making.decision.group m.making.decision.group
      → In last makes → last.making.decision.group ≡ adder.making.decision.group → m.log ≡ last.log → AddsLast makes m
