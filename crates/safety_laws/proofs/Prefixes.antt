-- The lists of made decisions, by what they stand on: those of one group extend each other.
use Rattle.std.proofs.Common.{◌≡◌, refl, sym, ap, subst, ◌∙◌, inl, inr, ℕ, zero, suc, ◌+◌, ◌≤◌, ◌<◌, ◌-◌, ◌==◌, ◌&&◌, Bool, true, List, [], ◌∷◌, ◌++◌, length, take, drop, find, Option, Some, None, arith, ◌⊎◌}
use Rattle.std.specs.List.{AllByRecursion}
use Rattle.std.specs.Option.{option_map_or}
use Rattle.std.proofs.lemmas.Bool.Decides.{nat_tests}
use Rattle.std.proofs.lemmas.Bool.{cases_lt}
use Rattle.std.proofs.lemmas.List.{append_assoc, append-nil, length-append, take-append-drop, take-append-le}
use Rattle.tw_machine.specs.Types.{Team, Decision, Kept}
use Rattle.tw_types.specs.Items.{In}
use Rattle.tw_machine.specs.History.{Promised, Make, list_of}
use Rattle.safety_laws.specs.Beginnings.{IsBeginning, list_at}
use Rattle.safety_laws.specs.Lists.{AllListed}
use Rattle.safety_laws.specs.Made.{WasMade, WasMadeIfAny, Arises, AsFirst, AsNext, AllArise}
use Rattle.safety_laws.specs.Once.{AllOnce}
use Rattle.safety_laws.proofs.Groups.{comes_at}
use Rattle.safety_laws.proofs.Lists.{of_each, found_in, finds}
use Rattle.safety_laws.proofs.MadeLists.{More, if_any_more}
use Rattle.safety_laws.proofs.Turns.{all_positive, arises_of, once_same}

-- ---- beginnings

begins_itself : (xs : List Kept) → IsBeginning xs xs
begins_itself xs = ([], sym (append-nil xs))

pub nothing_begins : (xs : List Kept) → IsBeginning [] xs
nothing_begins xs = (xs, refl)

pub begins_also : (xs ys zs : List Kept) → IsBeginning xs ys → IsBeginning ys zs → IsBeginning xs zs
begins_also xs ys zs a b = (a.0 ++ b.0, b.1 ∙ ap (λ l. l ++ b.0) a.1 ∙ append_assoc xs a.0 b.0)

-- it is no longer,
pub begins_length : (xs ys : List Kept) → IsBeginning xs ys → length xs ≤ length ys
begins_length xs ys a = let long = ap length a.1 ∙ length-append xs a.0 in omega arith

-- so many of the one are as many of the other.
pub begins_first : (n : ℕ) (xs ys : List Kept) → IsBeginning xs ys → n ≤ length xs → take n ys ≡ take n xs
begins_first n xs ys a low = ap (take n) a.1 ∙ take-append-le n xs a.0 low

-- The first items begin a list.
pub take_begins : (n : ℕ) (xs : List Kept) → IsBeginning (take n xs) xs
take_begins n xs = (drop n xs, sym (take-append-drop n xs))

pub take_begins_also : (n : ℕ) (xs ys : List Kept) → IsBeginning xs ys → IsBeginning (take n xs) ys
take_begins_also n xs ys a = begins_also (take n xs) xs ys (take_begins n xs) a

-- ---- the list of a decision

-- a make of this group and turn
abbrev has_pair : ℕ → ℕ → Make → Bool
has_pair group turn m = (m.making.decision.group == group) && (m.making.decision.turn == turn)

pair_of : (group turn : ℕ) (m : Make) → has_pair group turn m ≡ true → (m.making.decision.group ≡ group) × (m.making.decision.turn ≡ turn)
pair_of group turn m e = grind (arith, nat_tests)

of_pair : (group turn : ℕ) (m : Make) → m.making.decision.group ≡ group → m.making.decision.turn ≡ turn → has_pair group turn m ≡ true
of_pair group turn m g t = grind (arith, nat_tests)

-- The list of a pair is that of its make, which is one.
pub list_at_is : (makes : List Make) → AllOnce makes → (m : Make) → In m makes → (group turn : ℕ) → m.making.decision.group ≡ group → m.making.decision.turn ≡ turn → list_at makes group turn ≡ m.log
list_at_is makes once m i group turn g t =
    let f = finds (has_pair group turn) makes m i (of_pair group turn m g t) in
    let k = found_in (has_pair group turn) makes f.0 f.1 in
    let p = pair_of group turn f.0 k.1 in
    let one : f.0 ≡ m = once_same makes once f.0 m k.0 i (p.0 ∙ sym g, p.1 ∙ sym t) in
    ap (λ (o : Option Make). option_map_or (λ (x : Make). x.log) o []) f.1 ∙ ap (λ (x : Make). x.log) one

pub list_is : (makes : List Make) → AllOnce makes → (m : Make) → In m makes → list_of makes (Some m.making.decision) ≡ m.log
list_is makes once m i = list_at_is makes once m i m.making.decision.group m.making.decision.turn refl refl

-- of a decision that was made
pub list_of_made : (makes : List Make) → AllOnce makes → (d : Decision) → (made : WasMade makes d) → list_of makes (Some d) ≡ made.0.log
list_of_made makes once d made = list_at_is makes once made.0 made.1 d.group d.turn (ap (λ (x : Decision). x.group) made.2) (ap (λ (x : Decision). x.turn) made.2)

-- What holds of no list, and of the list of each make, holds of that of a decision that may be missing.
pub list_holds : (P : List Kept → Type 0) → P [] → (makes : List Make) → AllByRecursion (λ (m : Make). P m.log) makes → (o : Option Decision) → P (list_of makes o)
list_holds P none makes all None = none
list_holds P none makes all (Some d) = go (find (has_pair d.group d.turn) makes) refl
  where
    go : (o : Option Make) → find (has_pair d.group d.turn) makes ≡ o → P (option_map_or (λ (x : Make). x.log) o [])
    go None e = none
    go (Some m) e = of_each (λ (x : Make). P x.log) makes m all (found_in (has_pair d.group d.turn) makes m e).0

-- A pair that isn't made has none.
list_at_none : (makes : List Make) (group turn : ℕ) → ((m : Make) → In m makes → m.making.decision.group ≡ group → m.making.decision.turn ≡ turn → ⊥) → list_at makes group turn ≡ []
list_at_none makes group turn none = go (find (has_pair group turn) makes) refl
  where
    go : (o : Option Make) → find (has_pair group turn) makes ≡ o → option_map_or (λ (x : Make). x.log) o [] ≡ []
    go None e = refl
    go (Some x) e = let k = found_in (has_pair group turn) makes x e in let p = pair_of group turn x k.1 in absurd (none x k.0 p.0 p.1)

-- ---- in a longer list of makes

list_at_within : (older makes : List Make) → AllOnce older → AllOnce makes → More older makes → (m : Make) → In m older → (group turn : ℕ) → m.making.decision.group ≡ group → m.making.decision.turn ≡ turn
    → list_at makes group turn ≡ list_at older group turn
list_at_within older makes once_then once more m i group turn g t = list_at_is makes once m (more m i) group turn g t ∙ sym (list_at_is older once_then m i group turn g t)

list_within : (older makes : List Make) → AllOnce older → AllOnce makes → More older makes → (o : Option Decision) → WasMadeIfAny older o → list_of makes o ≡ list_of older o
list_within older makes once_then once more None made = refl
list_within older makes once_then once more (Some d) made =
    list_at_within older makes once_then once more made.0 made.1 d.group d.turn (ap (λ (x : Decision). x.group) made.2) (ap (λ (x : Decision). x.turn) made.2)

-- a new make leaves the lists of those that were made before
pub list_older : (m : Make) (older : List Make) → AllOnce (m ∷ older) → (o : Option Decision) → WasMadeIfAny older o → list_of (m ∷ older) o ≡ list_of older o
list_older m older once o made = list_within older (m ∷ older) once.1 once (λ x i. inr i) o made

pub list_at_older : (m : Make) (older : List Make) → AllOnce (m ∷ older) → (d : Make) → In d older → (group turn : ℕ) → d.making.decision.group ≡ group → d.making.decision.turn ≡ turn
    → list_at (m ∷ older) group turn ≡ list_at older group turn
list_at_older m older once d i group turn g t = list_at_within older (m ∷ older) once.1 once (λ x i. inr i) d i group turn g t

-- ---- what a make stands on

-- it was made before
stands_on_made : (team : Team) (promises : List Promised) (older : List Make) (m : Make) → Arises team promises older m → WasMadeIfAny older m.making.before
stands_on_made team promises older m (AsFirst turn comes) = comes.before
stands_on_made team promises older m (AsNext last f) = subst (WasMadeIfAny older) (sym f.before) f.was_made

pub before_made : (team : Team) (promises : List Promised) (makes : List Make) → AllArise team promises makes → (m : Make) → In m makes → WasMadeIfAny makes m.making.before
before_made team promises makes arise m i = let k = arises_of team promises makes arise m i in if_any_more k.0 makes m.making.before k.1 (stands_on_made team promises k.0 m k.2)

-- Each list is that of what it stands on, and then what was added, by all makes that there are.
pub listed : (team : Team) (promises : List Promised) (makes : List Make) → AllArise team promises makes → AllOnce makes → AllListed makes → (m : Make) → In m makes
    → m.log ≡ list_of makes m.making.before ++ m.making.appended
listed team promises [] arise once all m i = absurd i
listed team promises (x ∷ older) arise once all m (inl same) =
    subst (λ (y : Make). y.log ≡ list_of (x ∷ older) y.making.before ++ y.making.appended) (sym same)
    (all.0 ∙ ap (λ l. l ++ x.making.appended) (sym (list_older x older once x.making.before (stands_on_made team promises older x arise.0))))
listed team promises (x ∷ older) arise once all m (inr i) =
    listed team promises older arise.1 once.1 all.1 m i ∙ ap (λ l. l ++ m.making.appended) (sym (list_older x older once m.making.before (before_made team promises older arise.1 m i)))

-- ---- the lists of a group

-- what is known of makes and their lists
pub record HaveLists (team : Team) (promises : List Promised) (makes : List Make) : Type 0 where
  pub arise : AllArise team promises makes
  pub once : AllOnce makes
  pub listed : AllListed makes

-- the make before, of one group
pub record IsNextOf (m before : Make) : Type 0 where
  pub group : before.making.decision.group ≡ m.making.decision.group
  pub turn : m.making.decision.turn ≡ suc before.making.decision.turn
  pub list : m.log ≡ before.log ++ m.making.appended

module _ (team : Team) (promises : List Promised) (makes : List Make) (k : HaveLists team promises makes) where
  -- no group has number 0
  pub no_list : (turn : ℕ) → list_at makes 0 turn ≡ []
  no_list turn = list_at_none makes 0 turn (λ m i g t. let low = of_each (λ (m : Make). 1 ≤ m.making.decision.group) makes m (all_positive team promises makes k.arise) i in absurd (omega arith))

  -- A make that doesn't begin its group goes on from the one before.
  pub next_of : (m : Make) → In m makes → 0 < m.making.decision.turn → (b : Make) × In b makes × IsNextOf m b
  next_of m i late = by (arises_of team promises makes k.arise m i)
    where
      list : (last : Decision) → m.making.before ≡ Some last → (made : WasMade makes last) → m.log ≡ made.0.log ++ m.making.appended
      list last e made = listed team promises makes k.arise k.once k.listed m i ∙ ap (λ l. l ++ m.making.appended) (ap (list_of makes) e ∙ list_of_made makes k.once last made)

      next : (last : Decision) → m.making.before ≡ Some last → m.making.decision.group ≡ last.group → m.making.decision.turn ≡ suc last.turn → WasMade makes last → (b : Make) × In b makes × IsNextOf m b
      next last e g t made = (made.0, made.1, record { group = ap (λ (d : Decision). d.group) made.2 ∙ sym g; turn = t ∙ ap (λ (d : Decision). suc d.turn) (sym made.2); list = list last e made })

      by : (older : List Make) × ((x : Make) → In x older → In x makes) × Arises team promises older m → (b : Make) × In b makes × IsNextOf m b
      by (older, within, AsFirst turn comes) = absurd (omega arith)
      by (older, within, AsNext last f) = let made = f.was_made in next last f.before f.group f.turn (made.0, within made.0 made.1, made.2)

  extend_by : (n : ℕ) (a b : Make) → In a makes → In b makes → a.making.decision.group ≡ b.making.decision.group → a.making.decision.turn + n ≡ b.making.decision.turn → IsBeginning a.log b.log
  extend_by zero a b i j group turn =
      let one : a ≡ b = once_same makes k.once a b i j (group, omega (arith, turn)) in
      subst (λ (x : Make). IsBeginning a.log x.log) one (begins_itself a.log)
  extend_by (suc n) a b i j group turn =
      let late : 0 < b.making.decision.turn = omega (arith, turn) in
      let before = next_of b j late in
      let next = before.2 in
      let step = next.turn in
      begins_also a.log before.0.log b.log (extend_by n a before.0 i before.1 (group ∙ sym next.group) (omega (arith, turn, step))) (b.making.appended, next.list)

  -- Lists of one group extend, from turn to turn.
  pub extend : (a b : Make) → In a makes → In b makes → a.making.decision.group ≡ b.making.decision.group → a.making.decision.turn ≤ b.making.decision.turn → IsBeginning a.log b.log
  extend a b i j group low = extend_by (b.making.decision.turn - a.making.decision.turn) a b i j group (omega (arith, low))

  -- so of two lists of one group one begins the other
  pub one_begins : (a b : Make) → In a makes → In b makes → a.making.decision.group ≡ b.making.decision.group → IsBeginning a.log b.log ⊎ IsBeginning b.log a.log
  one_begins a b i j group = by (cases_lt a.making.decision.turn b.making.decision.turn)
    where
      by : (a.making.decision.turn < b.making.decision.turn) ⊎ (b.making.decision.turn ≤ a.making.decision.turn) → IsBeginning a.log b.log ⊎ IsBeginning b.log a.log
      by (inl less) = inl (extend a b i j group (omega (arith, less)))
      by (inr less) = inr (extend b a j i (sym group) less)

  -- A group begins with the list of what it stands on.
  pub group_list : (c : Make) → In c makes → c.making.decision.turn ≡ 0 → c.log ≡ list_of makes c.making.before
  group_list c i turn =
      let at = comes_at team promises makes c k.arise i turn in
      listed team promises makes k.arise k.once k.listed c i ∙ ap (λ l. list_of makes c.making.before ++ l) at.comes.appended ∙ append-nil (list_of makes c.making.before)
