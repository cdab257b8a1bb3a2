-- What the laws on lists say at one moment, by the facts on groups and lists there.
use Rattle.std.proofs.Common.{◌≡◌, ℕ, ◌+◌, ◌/◌, ◌≤◌, List, length, take, count_by}
use Rattle.std.specs.List.{AllByRecursion}
use Rattle.tw_machine.specs.Types.{Team, Step}
use Rattle.tw_types.specs.Items.{In}
use Rattle.tw_machine.specs.History.{Make}
use Rattle.safety_laws.specs.Acknowledged.{has_acked, Supported, AddsLast}
use Rattle.safety_laws.specs.Effects.{Written}
use Rattle.safety_laws.specs.Groups.{OfGroups, BeginsAbove}
use Rattle.safety_laws.specs.Lists.{AreLists}
use Rattle.safety_laws.specs.Supported.{OfSupported}
use Rattle.safety_laws.proofs.Acknowledged.{supports_tell, acked_last}
use Rattle.safety_laws.proofs.Begun.{have_lists}
use Rattle.safety_laws.proofs.Quorums.{Agree, own_names}
use Rattle.safety_laws.proofs.Silent.{adds_last}
use Rattle.safety_laws.proofs.Supports.{all_supported}

-- ---- the laws

module _ (team : Team) (steps : List Step) (w : Written) (k : OfGroups team steps w) where
  -- what the laws on quorums rest on
  pub agree_at : Agree team w.promises w.makes
  agree_at =
      let names = own_names steps w k.promises.names in
      record { arise = k.makes.arise; supported = all_supported team w.promises w.makes k.makes.arise names; precede = k.precede; named = names }

  module _ (lists : AreLists w.makes) where
    -- acknowledged entries last
    pub acknowledged_at : (m later : Make) (l : ℕ) → In m w.makes → In later w.makes → team.n / 2 + 1 ≤ count_by (has_acked l) m.making.decision.seats.items → BeginsAbove m.making.decision.group later
        → (l ≤ length later.log) × (take l later.log ≡ take l m.log)
    acknowledged_at = acked_last team w.promises w.makes (have_lists team steps w k lists) agree_at lists.whole

    -- supports tell lengths
    pub supports_at : AllByRecursion (λ (m : Make). AllByRecursion (Supported w.makes m) m.making.decision.seats.items) w.makes
    supports_at = supports_tell w.makes agree_at.supported lists.whole

    -- silent groups add nothing
    pub silent_at : OfSupported team w → (m : Make) → In m w.makes → AddsLast w.makes m
    silent_at s = adds_last team w.promises w.makes (have_lists team steps w k lists) agree_at s.appended
