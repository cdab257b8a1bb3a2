-- Positions of the lists of made decisions: an id stands at one of them, lists of one group have the same there, and what a majority
-- acknowledged keeps its position in the lists of all later groups.
use Rattle.std.proofs.Common.{◌≡◌, refl, sym, ap, subst, ◌∙◌, inl, inr, ◌⊎◌, ℕ, zero, suc, ◌+◌, ◌/◌, ◌≤◌, ◌<◌, Bool, true, false, cond, List, [], ◌∷◌, map, filter, length, take, Some, slice_get, count_by, arith}
use Rattle.std.specs.List.{AllByRecursion, range_with_len}
use Rattle.std.proofs.lemmas.Bool.{cases_lt}
use Rattle.std.proofs.lemmas.Option.{same_Some}
use Rattle.tw_machine.specs.Types.{Kept, Member, UpdateId, Team}
use Rattle.tw_types.specs.Decisions.{is_same_member}
use Rattle.tw_types.specs.Items.{In}
use Rattle.tw_types.specs.Updates.{sender}
use Rattle.tw_machine.specs.History.{Promised, Make}
use Rattle.safety_laws.specs.Acknowledged.{has_acked}
use Rattle.safety_laws.specs.Beginnings.{IsBeginning}
use Rattle.safety_laws.specs.Lists.{seqs_of, GoByOne, IsListOf}
use Rattle.safety_laws.proofs.Acknowledged.{acked_last}
use Rattle.safety_laws.proofs.FirstDecisions.{same_member}
use Rattle.safety_laws.proofs.Groups.{has_first}
use Rattle.safety_laws.proofs.Places.{at_more}
use Rattle.safety_laws.proofs.Prefixes.{HaveLists, extend, take_begins, one_begins}
use Rattle.safety_laws.proofs.Quorums.{Agree}

-- ---- an id stands at one position

-- the numbers of a member go by one from this one on
abbrev GoFrom : ℕ → Member → List Kept → Type 0
GoFrom from member list = seqs_of member list ≡ range_with_len from (length (seqs_of member list))

-- they begin with that of the member's first update, and go on behind it
behind_own : (from : ℕ) (member : Member) (k : Kept) (xs : List Kept) → is_same_member (sender k.entry.id) member ≡ true → GoFrom from member (k ∷ xs) → (k.entry.id.seq ≡ from) × GoFrom (from + 1) member xs
behind_own from member k xs mine go =
    let rest : List Kept = filter (λ (z : Kept). is_same_member (sender z.entry.id) member) xs in
    let seqs : List Kept → List ℕ = λ zs. map (λ (z : Kept). z.entry.id.seq) zs in
    let all : k.entry.id.seq ∷ seqs_of member xs ≡ from ∷ range_with_len (from + 1) (length (seqs_of member xs)) =
    subst (λ (b : Bool). seqs (cond b (k ∷ rest) rest) ≡ range_with_len from (length (seqs (cond b (k ∷ rest) rest)))) mine go in
    (cc, cc)

-- another member's update changes nothing
behind_other : (from : ℕ) (member : Member) (k : Kept) (xs : List Kept) → is_same_member (sender k.entry.id) member ≡ false → GoFrom from member (k ∷ xs) → GoFrom from member xs
behind_other from member k xs other go =
    let rest : List Kept = filter (λ (z : Kept). is_same_member (sender z.entry.id) member) xs in
    let seqs : List Kept → List ℕ = λ zs. map (λ (z : Kept). z.entry.id.seq) zs in
    subst (λ (b : Bool). seqs (cond b (k ∷ rest) rest) ≡ range_with_len from (length (seqs (cond b (k ∷ rest) rest)))) other go

-- no number of the member is below the first one
none_below : (from : ℕ) (member : Member) (xs : List Kept) (i : ℕ) (k : Kept) → GoFrom from member xs → slice_get xs i ≡ Some k → is_same_member (sender k.entry.id) member ≡ true → from ≤ k.entry.id.seq
none_below from member [] i k go at mine = absurd (cc)
none_below from member (x ∷ xs) zero k go at mine =
    let first = behind_own from member x xs (subst (λ (z : Kept). is_same_member (sender z.entry.id) member ≡ true) (sym (same_Some x k at)) mine) go in
    let seq : k.entry.id.seq ≡ from = ap (λ (z : Kept). z.entry.id.seq) (sym (same_Some x k at)) ∙ first.0 in
    omega (arith, seq)
none_below from member (x ∷ xs) (suc i) k go at mine = by (is_same_member (sender x.entry.id) member) refl (λ b rest. none_below b member xs i k rest at mine)
  where
    by : (b : Bool) → is_same_member (sender x.entry.id) member ≡ b → ((other : ℕ) → GoFrom other member xs → other ≤ k.entry.id.seq) → from ≤ k.entry.id.seq
    by true e rest = let low = rest (from + 1) (behind_own from member x xs e go).1 in omega (arith, low)
    by false e rest = rest from (behind_other from member x xs e go)

-- no other update behind it has the id of the first one
none_again : (from : ℕ) (id : UpdateId) (x : Kept) (xs : List Kept) (i : ℕ) (k : Kept) → GoFrom from (sender id) (x ∷ xs) → x.entry.id ≡ id → slice_get xs i ≡ Some k → k.entry.id ≡ id → ⊥
none_again from id x xs i k go is at is' =
    let first = behind_own from (sender id) x xs (own_id x is) go in
    let low = none_below (from + 1) (sender id) xs i k first.1 at (own_id k is') in
    let seq : k.entry.id.seq ≡ from = ap (λ (z : UpdateId). z.seq) (is' ∙ sym is) ∙ first.0 in
    omega (arith, low, seq)
  where
    own_id : (z : Kept) → z.entry.id ≡ id → is_same_member (sender z.entry.id) (sender id) ≡ true
    own_id z e = subst (λ (n : UpdateId). is_same_member (sender n) (sender id) ≡ true) (sym e) (same_member (sender id))

one_from : (from : ℕ) (id : UpdateId) (xs : List Kept) (i j : ℕ) (k l : Kept) → GoFrom from (sender id) xs → slice_get xs i ≡ Some k → slice_get xs j ≡ Some l → k.entry.id ≡ id → l.entry.id ≡ id → i ≡ j
one_from from id [] i j k l go at at' is is' = absurd (cc)
one_from from id (x ∷ xs) zero zero k l go at at' is is' = refl
one_from from id (x ∷ xs) zero (suc j) k l go at at' is is' = absurd (none_again from id x xs j l go (ap (λ (z : Kept). z.entry.id) (same_Some x k at) ∙ is) at' is')
one_from from id (x ∷ xs) (suc i) zero k l go at at' is is' = absurd (none_again from id x xs i k go (ap (λ (z : Kept). z.entry.id) (same_Some x l at') ∙ is') at is)
one_from from id (x ∷ xs) (suc i) (suc j) k l go at at' is is' = by (is_same_member (sender x.entry.id) (sender id)) refl (λ b rest. one_from b id xs i j k l rest at at' is is')
  where
    by : (b : Bool) → is_same_member (sender x.entry.id) (sender id) ≡ b → ((other : ℕ) → GoFrom other (sender id) xs → i ≡ j) → suc i ≡ suc j
    by true e rest = ap suc (rest (from + 1) (behind_own from (sender id) x xs e go).1)
    by false e rest = ap suc (rest from (behind_other from (sender id) x xs e go))

-- Where each member's entries go by one, an id stands at one position.
pub one_position : (list : List Kept) (i j : ℕ) (k l : Kept) → GoByOne list → slice_get list i ≡ Some k → slice_get list j ≡ Some l → k.entry.id ≡ l.entry.id → i ≡ j
one_position list i j k l go at at' same = one_from 1 l.entry.id list i j k l (go (sender l.entry.id)) at at' same refl

-- ---- lists that begin others

-- what stands in a list stands there in each that it begins
begins_at : (xs ys : List Kept) (i : ℕ) (k : Kept) → IsBeginning xs ys → slice_get xs i ≡ Some k → slice_get ys i ≡ Some k
begins_at xs ys i k begins at = ap (λ l. slice_get l i) begins.1 ∙ at_more xs begins.0 i k at

-- and among the first items of it
first_at : (xs : List Kept) (i : ℕ) (k : Kept) → slice_get xs i ≡ Some k → slice_get (take (suc i) xs) i ≡ Some k
first_at [] i k at = absurd (cc)
first_at (x ∷ xs) zero k at = at
first_at (x ∷ xs) (suc i) k at = first_at xs i k at

-- a list has this at a position of another one, or only begins that
pub data KeepsAt (list : List Kept) (i : ℕ) (k : Kept) (other : List Kept) : Type 0 where
  Short : IsBeginning other list → KeepsAt list i k other
  There : slice_get other i ≡ Some k → KeepsAt list i k other

-- so it has nothing else there,
pub same_kept : (list other : List Kept) (i : ℕ) (k l : Kept) → KeepsAt list i k other → slice_get list i ≡ Some k → slice_get other i ≡ Some l → l ≡ k
same_kept list other i k l (Short begins) at at' = same_Some l k (sym (begins_at other list i l begins at') ∙ at)
same_kept list other i k l (There there) at at' = same_Some l k (sym at' ∙ there)

-- and has the id of that nowhere else
pub kept_position : (list other : List Kept) (i j : ℕ) (k l : Kept) → KeepsAt list i k other → GoByOne list → GoByOne other → slice_get list i ≡ Some k → slice_get other j ≡ Some l → l.entry.id ≡ k.entry.id → j ≡ i
kept_position list other i j k l (Short begins) go go' at at' same = one_position list j i l k go (begins_at other list j l begins at') at same
kept_position list other i j k l (There there) go go' at at' same = one_position other j i l k go' at' there same

-- ---- lists of groups

module _ (team : Team) (promises : List Promised) (makes : List Make) (lists : HaveLists team promises makes) where
  -- Lists of one group have the same at each position that both have.
  pub same_there : (a b : Make) → In a makes → In b makes → a.making.decision.group ≡ b.making.decision.group → (i : ℕ) (k l : Kept) → slice_get a.log i ≡ Some k → slice_get b.log i ≡ Some l → k ≡ l
  same_there a b m n group i k l at at' = by (one_begins team promises makes lists a b m n group)
    where
      by : IsBeginning a.log b.log ⊎ IsBeginning b.log a.log → k ≡ l
      by (inl begins) = same_Some k l (sym (begins_at a.log b.log i k begins at) ∙ at')
      by (inr begins) = same_Some k l (sym at ∙ begins_at b.log a.log i l begins at')

  -- What a majority acknowledged keeps its position in the lists of its group and of all greater ones.
  pub keeps_at : Agree team promises makes → AllByRecursion IsListOf makes → (m later : Make) (i : ℕ) (k : Kept) → In m makes → In later makes → slice_get m.log i ≡ Some k
      → team.n / 2 + 1 ≤ count_by (has_acked (suc i)) m.making.decision.seats.items → m.making.decision.group ≤ later.making.decision.group → KeepsAt m.log i k later.log
  keeps_at agree whole m later i k a b at enough low = by (cases_lt m.making.decision.group later.making.decision.group)
    where
      own : IsBeginning m.log later.log ⊎ IsBeginning later.log m.log → KeepsAt m.log i k later.log
      own (inl begins) = There (begins_at m.log later.log i k begins at)
      own (inr begins) = Short begins

      by : (m.making.decision.group < later.making.decision.group) ⊎ (later.making.decision.group ≤ m.making.decision.group) → KeepsAt m.log i k later.log
      by (inl above) =
          let h = has_first team promises makes agree.arise later b in
          let group = h.group in
          let start = h.turn in
          let firsts = acked_last team promises makes lists agree whole m h.first (suc i) a h.among enough (record { turn = h.turn; above = omega (arith, above, group) }) in
          let there : slice_get (take (suc i) h.first.log) i ≡ Some k = ap (λ l. slice_get l i) firsts.1 ∙ first_at m.log i k at in
          There (begins_at h.first.log later.log i k (extend team promises makes lists h.first later h.among b h.group (omega (arith, start)))
          (begins_at (take (suc i) h.first.log) h.first.log i k (take_begins (suc i) h.first.log) there))
      by (inr high) = own (one_begins team promises makes lists m later a b (omega (arith, low, high)))
