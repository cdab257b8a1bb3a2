-- Groups in which nothing was appended add nothing: their lists are those of the last group in which something was.
use Rattle.std.proofs.Common.{◌≡◌, ◌≢◌, refl, sym, ap, subst, ◌∙◌, ◌⊎◌, inl, inr, ℕ, zero, suc, ◌≤◌, ◌<◌, List, [], ◌∷◌, ◌++◌, Option, Some, None, arith}
use Rattle.std.specs.List.{AllByRecursion}
use Rattle.std.proofs.lemmas.Bool.{cases_lt}
use Rattle.std.proofs.lemmas.List.{append-nil}
use Rattle.std.proofs.lemmas.Option.{same_Some}
use Rattle.tw_machine.specs.Types.{Team, Decision, Kept}
use Rattle.tw_types.specs.Items.{In}
use Rattle.tw_machine.specs.History.{Promised, Make, list_of}
use Rattle.safety_laws.specs.Acknowledged.{IsSilent, AddsLast, InNone, InOne}
use Rattle.safety_laws.specs.Groups.{HasMajority, StandsOn}
use Rattle.safety_laws.specs.Made.{Arises, AsFirst, AsNext}
use Rattle.safety_laws.specs.Supported.{IsAppendedInSupported}
use Rattle.safety_laws.proofs.Acknowledged.{StoodOn, stood_on}
use Rattle.safety_laws.proofs.Groups.{HasFirst, has_first}
use Rattle.safety_laws.proofs.Lists.{of_each, each_from}
use Rattle.safety_laws.proofs.Prefixes.{HaveLists, next_of, group_list}
use Rattle.safety_laws.proofs.Quorums.{Agree, majority_binds}
use Rattle.safety_laws.proofs.Turns.{arises_of, once_same}

-- ---- whether something was appended

-- a list is empty or not
some_or_none : (xs : List Kept) → (xs ≢ []) ⊎ (xs ≡ [])
some_or_none [] = inr refl
some_or_none (x ∷ xs) = inl (λ e. cc)

-- a make of this group that appended something
record Adds (group : ℕ) (k : Make) : Type 0 where
  group_is : k.making.decision.group ≡ group
  some : k.making.appended ≢ []

-- one of these makes did
abbrev Adder : ℕ → List Make → Type 0
Adder group xs = (k : Make) × In k xs × Adds group k

-- none of them did
abbrev AddsNone : ℕ → List Make → Type 0
AddsNone group xs = (k : Make) → In k xs → k.making.decision.group ≡ group → k.making.appended ≡ []

-- one of the two
adder_or_none : (group : ℕ) (xs : List Make) → Adder group xs ⊎ AddsNone group xs
adder_or_none group [] = inr (λ k i e. absurd i)
adder_or_none group (x ∷ xs) = by (adder_or_none group xs)
  where
    none : AddsNone group xs → (x.making.decision.group ≡ group → x.making.appended ≡ []) → AddsNone group (x ∷ xs)
    none rest own k (inl same) e = ap (λ (y : Make). y.making.appended) same ∙ own (ap (λ (y : Make). y.making.decision.group) (sym same) ∙ e)
    none rest own k (inr i) e = rest k i e

    own : AddsNone group xs → (x.making.decision.group < group) ⊎ (group ≤ x.making.decision.group) → (group < x.making.decision.group) ⊎ (x.making.decision.group ≤ group)
        → (x.making.appended ≢ []) ⊎ (x.making.appended ≡ []) → Adder group (x ∷ xs) ⊎ AddsNone group (x ∷ xs)
    own rest (inl below) above some = inr (none rest (λ e. absurd (omega arith)))
    own rest (inr low) (inl above) some = inr (none rest (λ e. absurd (omega arith)))
    own rest (inr low) (inr high) (inl some) = inl (x, inl refl, record { group_is = omega arith; some = some })
    own rest (inr low) (inr high) (inr empty) = inr (none rest (λ e. empty))

    by : Adder group xs ⊎ AddsNone group xs → Adder group (x ∷ xs) ⊎ AddsNone group (x ∷ xs)
    by (inl (k, i, a)) = inl (k, inr i, a)
    by (inr rest) = own rest (cases_lt x.making.decision.group group) (cases_lt group x.making.decision.group) (some_or_none x.making.appended)

-- a made decision of this group with supports of a majority
abbrev Backed : Team → List Make → ℕ → Type 0
Backed team makes group = (lower : Make) × In lower makes × (lower.making.decision.group ≡ group) × HasMajority team lower.making.decision

-- a make adds nothing, if it is of a group above this one and up to that
abbrev SilentMake : (above upto : ℕ) → Make → Type 0
SilentMake above upto x = above < x.making.decision.group → x.making.decision.group ≤ upto → x.making.appended ≡ []

module _ (team : Team) (promises : List Promised) (makes : List Make) (k : HaveLists team promises makes) (agree : Agree team promises makes) (appended : AllByRecursion (IsAppendedInSupported team makes) makes) where
  -- ---- where something was appended, a majority supports a decision of the group

  supported_adder : (a : Make) → In a makes → a.making.appended ≢ [] → Backed team makes a.making.decision.group
  supported_adder a i some = by (arises_of team promises makes k.arise a i)
    where
      by : (older : List Make) × ((x : Make) → In x older → In x makes) × Arises team promises older a → Backed team makes a.making.decision.group
      by (older, within, AsFirst turn comes) = absurd (some comes.appended)
      by (older, within, AsNext last f) =
          let s = of_each (IsAppendedInSupported team makes) makes a appended i some in
          let one : s.0 ≡ last = same_Some s.0 last (sym s.1 ∙ f.before) in
          let made = s.2 in
          (made.0, made.1, ap (λ (d : Decision). d.group) (made.2 ∙ one) ∙ sym f.group, subst (HasMajority team) (sym made.2) s.3)

  -- so a group above stands on one that isn't below
  stands_above : (a higher : Make) → In a makes → In higher makes → a.making.appended ≢ [] → higher.making.decision.turn ≡ 0 → a.making.decision.group < higher.making.decision.group → StandsOn higher a.making.decision.group
  stands_above a higher i j some turn later =
      let s = supported_adder a i some in
      let b = majority_binds team promises makes agree s.0 higher s.1 j s.3 turn (subst (λ (g : ℕ). g < higher.making.decision.group) (sym s.2) later) in
      (b.best, b.before, subst (λ (g : ℕ). g ≤ b.best.group) s.2 b.group)

  -- ---- a group in which nothing was appended

  -- each list of it is that of its first decision
  same_list : (n : ℕ) (first m : Make) → In first makes → In m makes → first.making.decision.group ≡ m.making.decision.group → first.making.decision.turn ≡ 0 → m.making.decision.turn ≡ n
      → AddsNone m.making.decision.group makes → m.log ≡ first.log
  same_list zero first m i j group begins turn none = ap (λ (x : Make). x.log) (once_same makes k.once m first j i (sym group, turn ∙ sym begins))
  same_list (suc n) first m i j group begins turn none =
      let b = next_of team promises makes k m j (omega (arith, turn)) in
      let next = b.2 in
      let step = next.turn in
      next.list ∙ ap (λ l. b.0.log ++ l) (none m j refl) ∙ append-nil b.0.log
      ∙ same_list n first b.0 i b.1 (group ∙ sym next.group) begins (omega (arith, turn, step)) (λ x p g. none x p (g ∙ next.group))

  -- between what it stands on and itself nothing was appended either
  silent_from : (first : Make) → In first makes → first.making.decision.turn ≡ 0 → AddsNone first.making.decision.group makes
      → (above : ℕ) → ((best : Decision) → first.making.before ≡ Some best → IsSilent makes above best.group) → IsSilent makes above first.making.decision.group
  silent_from first i begins none above stands = each_from (SilentMake above first.making.decision.group) makes one
    where
      one : (x : Make) → In x makes → SilentMake above first.making.decision.group x
      one x j high low = by (some_or_none x.making.appended) (cases_lt x.making.decision.group first.making.decision.group)
        where
          by : (x.making.appended ≢ []) ⊎ (x.making.appended ≡ []) → (x.making.decision.group < first.making.decision.group) ⊎ (first.making.decision.group ≤ x.making.decision.group) → x.making.appended ≡ []
          by (inr empty) at = empty
          by (inl some) (inr same) = none x j (omega arith)
          by (inl some) (inl below) =
              let s = stands_above x first j i some begins below in
              of_each (SilentMake above s.0.group) makes x (stands s.0 s.1) j high s.2

  -- ---- the last group in which something was appended

  -- of one group, where it is known of those below
  adds_at : (m : Make) → In m makes → ((e : Make) → In e makes → e.making.decision.group < m.making.decision.group → AddsLast makes e) → AddsLast makes m
  adds_at m i below = by (adder_or_none m.making.decision.group makes)
    where
      h : HasFirst team promises makes m
      h = has_first team promises makes k.arise m i

      -- of one of its own group
      own : (a : Make) → In a makes → Adds m.making.decision.group a → AddsLast makes m
      own a j adds =
          InOne a m j adds.some (omega (arith, adds.group_is))
          (each_from (SilentMake a.making.decision.group m.making.decision.group) makes (λ x p high low. let same = adds.group_is in absurd (omega (arith, high, low, same))))
          i (sym adds.group_is) refl

      -- where it added nothing
      still : AddsNone m.making.decision.group makes → (above : ℕ) → ((best : Decision) → h.first.making.before ≡ Some best → IsSilent makes above best.group) → IsSilent makes above m.making.decision.group
      still none above stands = subst (IsSilent makes above) h.group (silent_from h.first h.among h.turn (λ x p g. none x p (g ∙ h.group)) above stands)

      list : AddsNone m.making.decision.group makes → m.log ≡ h.first.log
      list none = same_list m.making.decision.turn h.first m h.among i h.group h.turn refl none

      onto : AddsNone m.making.decision.group makes → (o : Option Decision) → h.first.making.before ≡ o → AddsLast makes m
      onto none None e = InNone (still none 0 (λ best is. let no : None ≡ Some best = sym e ∙ is in absurd (cc))) (list none ∙ group_list team promises makes k h.first h.among h.turn ∙ ap (list_of makes) e)
      onto none (Some best) e = go (below s.make s.among lower)
        where
          s : StoodOn makes h.first best
          s = stood_on team promises makes k h.first h.among h.turn best e

          group : s.make.making.decision.group ≡ best.group
          group = ap (λ (d : Decision). d.group) s.is

          lower : s.make.making.decision.group < m.making.decision.group
          lower = let down = s.below in let same = h.group in omega (arith, group, down, same)

          same : m.log ≡ s.make.log
          same = list none ∙ s.list

          rest : (above : ℕ) → IsSilent makes above s.make.making.decision.group → IsSilent makes above m.making.decision.group
          rest above silent = still none above (λ other is. subst (λ (d : Decision). IsSilent makes above d.group) (s.is ∙ same_Some best other (sym e ∙ is)) silent)

          go : AddsLast makes s.make → AddsLast makes m
          go (InNone silent empty) = InNone (rest 0 silent) (same ∙ empty)
          go (InOne adder last j some low silent l at end) = InOne adder last j some (omega (arith, low, lower)) (rest adder.making.decision.group silent) l at (same ∙ end)

      by : Adder m.making.decision.group makes ⊎ AddsNone m.making.decision.group makes → AddsLast makes m
      by (inl (a, j, adds)) = own a j adds
      by (inr none) = onto none h.first.making.before refl

  adds_below : (n : ℕ) (m : Make) → In m makes → m.making.decision.group < n → AddsLast makes m
  adds_below zero m i low = absurd (omega (arith, low))
  adds_below (suc n) m i low = adds_at m i (λ e j lower. adds_below n e j (omega (arith, low, lower)))

  -- A made decision's list is that of the last group at or below its own in which something was appended.
  pub adds_last : (m : Make) → In m makes → AddsLast makes m
  adds_last m i = adds_below (suc m.making.decision.group) m i (omega arith)
