-- Groups that were made when a greater one had been made already: no decision of one has supports of a majority.
use Rattle.std.proofs.Common.{◌≡◌, sym, ap, subst, ◌∙◌, ◌⊎◌, inl, inr, ℕ, zero, suc, ◌≤◌, ◌<◌, List, [], ◌∷◌, Some, is_some, arith}
use Rattle.std.proofs.lemmas.Bool.{cases_lt}
use Rattle.tw_machine.specs.Types.{Team, Decision, Seat, Step}
use Rattle.tw_types.specs.Items.{In}
use Rattle.tw_machine.specs.History.{Promised, Make}
use Rattle.safety_laws.specs.Effects.{Written}
use Rattle.safety_laws.specs.Groups.{OfGroups}
use Rattle.safety_laws.specs.Made.{WasMade, WasMadeIfAny, Arises, AsFirst, AsNext, AllArise, IsBeginOf}
use Rattle.safety_laws.specs.Once.{SamePair, AllOnce}
use Rattle.safety_laws.specs.Overtaken.{IsBehind, IsSupportedGroup, IsOvertaken}
use Rattle.safety_laws.proofs.Lists.{of_each}
use Rattle.safety_laws.proofs.ListsAt.{agree_at}
use Rattle.safety_laws.proofs.MadeLists.{More}
use Rattle.safety_laws.proofs.Quorums.{Agree, Binds, majority_binds}
use Rattle.safety_laws.proofs.Turns.{first_of_made}

-- ---- what stands behind

-- it stands in the list
pub earlier_in : (makes : List Make) (later earlier : Make) → IsBehind makes later earlier → In earlier makes
earlier_in [] later earlier b = absurd b
earlier_in (m ∷ older) later earlier (inl b) = inr b.1
earlier_in (m ∷ older) later earlier (inr b) = inr (earlier_in older later earlier b)

-- of one pair they would be made twice
behind_apart : (makes : List Make) → AllOnce makes → (later earlier : Make) → IsBehind makes later earlier → SamePair later earlier → ⊥
behind_apart [] once later earlier b same = b
behind_apart (m ∷ older) once later earlier (inl b) same = of_each (λ (d : Make). SamePair m d → ⊥) older earlier once.0 b.1 (subst (λ (z : Make). SamePair z earlier) (sym b.0) same)
behind_apart (m ∷ older) once later earlier (inr b) same = behind_apart older once.1 later earlier b same

-- What stands behind one that stands behind another stands behind that.
behind_also : (makes : List Make) → AllOnce makes → (a b c : Make) → IsBehind makes a b → IsBehind makes b c → IsBehind makes a c
behind_also [] once a b c i j = i
behind_also (m ∷ older) once a b c (inl i) (inl j) = inl (i.0, j.1)
behind_also (m ∷ older) once a b c (inl i) (inr j) = inl (i.0, earlier_in older b c j)
behind_also (m ∷ older) once a b c (inr i) (inl j) =
    absurd (of_each (λ (d : Make). SamePair m d → ⊥) older b once.0 (earlier_in older a b i) (ap (λ (z : Make). z.making.decision.group) j.0, ap (λ (z : Make). z.making.decision.turn) j.0))
behind_also (m ∷ older) once a b c (inr i) (inr j) = inr (behind_also older once.1 a b c i j)

-- ---- as the list grows

pub supported_more : (team : Team) (makes more : List Make) (group : ℕ) → More makes more → IsSupportedGroup team makes group → IsSupportedGroup team more group
supported_more team makes more group all k = (k.0, all k.0 k.1, k.2, k.3)

-- a group stays overtaken
pub overtaken_still : (team : Team) (m : Make) (older : List Make) (c : Make) → IsOvertaken team older c → IsOvertaken team (m ∷ older) c
overtaken_still team m older c k = record { by = k.by; turn = k.turn; greater = k.greater; before = inr k.before; supported = supported_more team older (m ∷ older) k.by.making.decision.group (λ x i. inr i) k.supported }

-- ---- what a group stands on

-- It was made behind the group's first decision, and so was the first decision of its group, which is a lower one.
record StandsBehind (makes : List Make) (later : Make) (best : Decision) : Type 0 where
  first : Make
  is_first : IsBeginOf best first
  behind : IsBehind makes later first
  below : best.group < later.making.decision.group

stands_behind : (team : Team) (promises : List Promised) (makes : List Make) → AllArise team promises makes → (later : Make) → In later makes → later.making.decision.turn ≡ 0 → (best : Decision) → later.making.before ≡ Some best
    → StandsBehind makes later best
stands_behind team promises [] arise later i turn best is = absurd i
stands_behind team promises (m ∷ older) arise later (inr i) turn best is =
    let k = stands_behind team promises older arise.1 later i turn best is in
    record { first = k.first; is_first = k.is_first; behind = inr k.behind; below = k.below }
stands_behind team promises (m ∷ older) arise later (inl same) turn best is = by arise.0
  where
    no_next : (last : Decision) → m.making.decision.turn ≡ suc last.turn → ⊥
    no_next last next = let one = ap (λ (z : Make). z.making.decision.turn) same in omega (arith, next, one, turn)

    by : Arises team promises older m → StandsBehind (m ∷ older) later best
    by (AsFirst first comes) =
        let before : m.making.before ≡ Some best = ap (λ (z : Make). z.making.before) (sym same) ∙ is in
        let made : WasMade older best = subst (WasMadeIfAny older) before comes.before in
        let k = first_of_made team promises older arise.1 best made in
        record { first = k.0; is_first = k.2; behind = inl (sym same, k.1); below = subst (λ (z : Make). best.group < z.making.decision.group) (sym same) (comes.lower best before) }
    by (AsNext last f) = absurd (no_next last f.turn)

-- ---- overtaken groups are silent

module _ (team : Team) (promises : List Promised) (makes : List Make) (agree : Agree team promises makes) (once : AllOnce makes) where
  -- behind one group, where it holds of the groups between
  late_at : (c by : Make) → c.making.decision.turn ≡ 0 → by.making.decision.turn ≡ 0 → c.making.decision.group < by.making.decision.group → IsBehind makes c by → IsSupportedGroup team makes c.making.decision.group
      → ((first : Make) → first.making.decision.turn ≡ 0 → c.making.decision.group < first.making.decision.group → IsBehind makes c first → first.making.decision.group < by.making.decision.group → ⊥) → ⊥
  late_at c by begins turn greater behind supported between = onto (cases_lt c.making.decision.group b.best.group)
    where
      b : Binds team promises makes (λ (s : Seat). is_some s.support) supported.0 by
      b = majority_binds team promises makes agree supported.0 by supported.1 (earlier_in makes c by behind) supported.3 turn (subst (λ (g : ℕ). g < by.making.decision.group) (sym supported.2) greater)

      s : StandsBehind makes by b.best
      s = stands_behind team promises makes agree.arise by (earlier_in makes c by behind) turn b.best b.before

      group : s.first.making.decision.group ≡ b.best.group
      group = s.is_first.begins.group_is

      first_behind : IsBehind makes c s.first
      first_behind = behind_also makes once c by s.first behind s.behind

      onto : (c.making.decision.group < b.best.group) ⊎ (b.best.group ≤ c.making.decision.group) → ⊥
      onto (inl above) = let below = s.below in between s.first s.is_first.begins.turn (omega (arith, above, group)) first_behind (omega (arith, below, group))
      onto (inr low) =
          let not_below = b.group in
          let same = supported.2 in
          behind_apart makes once c s.first first_behind (omega (arith, low, not_below, same, group), begins ∙ sym s.is_first.begins.turn)

  late_below : (n : ℕ) (c by : Make) → c.making.decision.turn ≡ 0 → by.making.decision.turn ≡ 0 → c.making.decision.group < by.making.decision.group → IsBehind makes c by → IsSupportedGroup team makes c.making.decision.group
      → by.making.decision.group < n → ⊥
  late_below zero c by begins turn greater behind supported low = omega (arith, low)
  late_below (suc n) c by begins turn greater behind supported low =
      late_at c by begins turn greater behind supported (λ first first_turn above first_behind below. late_below n c first begins first_turn above first_behind supported (omega (arith, low, below)))

  -- A group that was made when a greater one had been made already has no decision with supports of a majority.
  late_is_silent : (c by : Make) → c.making.decision.turn ≡ 0 → by.making.decision.turn ≡ 0 → c.making.decision.group < by.making.decision.group → IsBehind makes c by → IsSupportedGroup team makes c.making.decision.group → ⊥
  late_is_silent c by begins turn greater behind supported = late_below (suc by.making.decision.group) c by begins turn greater behind supported (omega arith)

  -- and so an overtaken one has none
  overtaken_is_silent : (c : Make) → c.making.decision.turn ≡ 0 → IsOvertaken team makes c → IsSupportedGroup team makes c.making.decision.group → ⊥
  overtaken_is_silent c begins k = late_is_silent c k.by begins k.turn k.greater k.before

-- by what is known of promises and makes
pub overtaken_at : (team : Team) (steps : List Step) (w : Written) → OfGroups team steps w → (c : Make) → c.making.decision.turn ≡ 0 → IsOvertaken team w.makes c → IsSupportedGroup team w.makes c.making.decision.group → ⊥
overtaken_at team steps w k = overtaken_is_silent team w.promises w.makes (agree_at team steps w k) k.once
