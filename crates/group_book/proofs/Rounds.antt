-- A ballot stays one as it takes what went round a ring, and has room for it.
use Rattle.std.proofs.Common.{◌≡◌, ℕ, ◌+◌, ◌≤◌, ◌⊎◌, Bool, true, false, not, List, [], ◌∷◌, ◌++◌, length, Option, Some, None, refl, sym, ap, subst, inl, inr, ◌∙◌, cond, arith, length-append}
use Rattle.std.specs.Prelude.{filter, IfSome, ◌==◌, ◌||◌, ◌&&◌}
use Rattle.std.specs.List.{reduce, list_all, AllByRecursion}
use Rattle.std.specs.Option.{option_eq}
use Rattle.std.proofs.lemmas.Bool.Decides.{nat_tests}
use Rattle.tw_types.specs.declared.message.Kind.{Kind}
use Rattle.tw_types.specs.declared.message.Kind.TheVariants.{Informed, Ready}
use Rattle.tw_types.specs.declared.message.Report.{Report}
use Rattle.tw_types.specs.declared.message.Decision.{Decision}
use Rattle.tw_types.specs.declared.ballot.Ballot.{Ballot}
use Rattle.tw_types.specs.Ranges.{Distinct, ReportFits, DecisionFits, IsBelow, IsOf, IsNotBelow, IsGreatest}
use Rattle.tw_types.specs.Items.{In}
use Rattle.tw_types.specs.Decisions.{or_none, is_older}
use Rattle.tw_types.specs.Reports.{best, greater_pair}
use Rattle.tw_types.specs.Ballots.{greater, is_reported, has_report_of}
use Rattle.tw_types.specs.Rings.{Round, RoundFits, is_same_kind, is_same_report, agrees, takes_round, new_reports, round_joined}
use Rattle.tw_types.specs.BallotFits.{IsNamed, IsBallot}
use Rattle.tw_types.proofs.Lists.{all_joined}
use Rattle.group_book.proofs.Pushes.{reduced_with}
use Rattle.group_book.proofs.Rooms.{or_false, at_most}
use Rattle.group_book.proofs.Greatest.{Reaches, over, of_all, pairs, pairs_joined, pair_in, pairs_reached, greatest_is, greatest_reaches, none_of}

-- ---- what is filtered out of a list

all_filtered : {X : Type 0} (P : X → Type 0) (p : X → Bool) (xs : List X) → AllByRecursion P xs → AllByRecursion P (filter p xs)
all_filtered P p [] h = tt
all_filtered P p (x ∷ xs) h = go (p x) refl (all_filtered P p xs h.1)
  where
    go : (t : Bool) → p x ≡ t → AllByRecursion P (filter p xs) → AllByRecursion P (filter p (x ∷ xs))
    go true e rest = rw e (h.0, rest)
    go false e rest = rw e rest

passes : {X : Type 0} (p : X → Bool) (xs : List X) → AllByRecursion (λ x. p x ≡ true) (filter p xs)
passes p [] = tt
passes p (x ∷ xs) = go (p x) refl (passes p xs)
  where
    go : (t : Bool) → p x ≡ t → AllByRecursion (λ x. p x ≡ true) (filter p xs) → AllByRecursion (λ x. p x ≡ true) (filter p (x ∷ xs))
    go true e rest = rw e (e, rest)
    go false e rest = rw e rest

pub no_longer : {X : Type 0} (p : X → Bool) (xs : List X) → length (filter p xs) ≤ length xs
no_longer p [] = omega arith
no_longer p (x ∷ xs) = go (p x) (no_longer p xs)
  where
    go : (t : Bool) → length (filter p xs) ≤ length xs → length (cond t (x ∷ filter p xs) (filter p xs)) ≤ length (x ∷ xs)
    go true h = omega arith
    go false h = omega arith

distinct_filtered : (p : Report → Bool) (xs : List Report) → Distinct xs → Distinct (filter p xs)
distinct_filtered p [] h = tt
distinct_filtered p (x ∷ xs) h = go (p x) refl (distinct_filtered p xs h.1)
  where
    go : (t : Bool) → p x ≡ t → Distinct (filter p xs) → Distinct (filter p (x ∷ xs))
    go true e rest = rw e (all_filtered (λ (q : Report). (x.member.who ≡ q.member.who) → ⊥) p xs h.0, rest)
    go false e rest = rw e rest

-- one that passes stays, and what stays was there
stays : {X : Type 0} (p : X → Bool) (x : X) (xs : List X) → In x xs → p x ≡ true → In x (filter p xs)
stays p x [] i e = i
stays p x (y ∷ xs) (inl s) e = rw (ap p (sym s) ∙ e) (inl s)
stays p x (y ∷ xs) (inr i) e = go (p y) refl (stays p x xs i e)
  where
    go : (t : Bool) → p y ≡ t → In x (filter p xs) → In x (filter p (y ∷ xs))
    go true f j = rw f (inr j)
    go false f j = rw f j

-- ---- two lists of different processes

-- none of these reports is of a process that the others are of
abbrev Apart : List Report → List Report → Type 0
Apart xs ys = AllByRecursion (λ (y : Report). is_reported y.member.who xs ≡ false) ys

apart_first : (x : Report) (xs ys : List Report) → Apart (x ∷ xs) ys → AllByRecursion (λ (q : Report). (x.member.who ≡ q.member.who) → ⊥) ys
apart_first x xs [] h = tt
apart_first x xs (y ∷ ys) h =
    let e = or_false (x.member.who == y.member.who) (is_reported y.member.who xs) h.0 in
    let first = e.0 in
    (λ same. grind (arith, nat_tests), apart_first x xs ys h.1)

apart_rest : (x : Report) (xs ys : List Report) → Apart (x ∷ xs) ys → Apart xs ys
apart_rest x xs [] h = tt
apart_rest x xs (y ∷ ys) h = ((or_false (x.member.who == y.member.who) (is_reported y.member.who xs) h.0).1, apart_rest x xs ys h.1)

distinct_joined : (xs ys : List Report) → Distinct xs → Distinct ys → Apart xs ys → Distinct (xs ++ ys)
distinct_joined [] ys a b h = b
distinct_joined (x ∷ xs) ys a b h =
    (all_joined (λ (q : Report). (x.member.who ≡ q.member.who) → ⊥) xs ys a.0 (apart_first x xs ys h), distinct_joined xs ys a.1 b (apart_rest x xs ys h))

not_true : (b : Bool) → not b ≡ true → b ≡ false
not_true true e = cc
not_true false e = refl

is_apart : (xs ys : List Report) → AllByRecursion (λ (y : Report). not (is_reported y.member.who xs) ≡ true) ys → Apart xs ys
is_apart xs [] h = tt
is_apart xs (y ∷ ys) h = (not_true (is_reported y.member.who xs) h.0, is_apart xs ys h.1)

-- ---- the reports of both

module _ (n : ℕ) (b : Ballot) (r : Round) (is : IsBallot n b) (fits : RoundFits n r) where
  pub each : AllByRecursion (ReportFits n) (b.reports.items ++ new_reports r b)
  each = all_joined (ReportFits n) b.reports.items (new_reports r b) is.each
      (all_filtered (ReportFits n) (λ (q : Report). not (has_report_of q.member.who b)) r.reports fits.each)

  pub distinct : Distinct (b.reports.items ++ new_reports r b)
  distinct = distinct_joined b.reports.items (new_reports r b) is.distinct
      (distinct_filtered (λ (q : Report). not (has_report_of q.member.who b)) r.reports fits.distinct)
      (is_apart b.reports.items (new_reports r b) (passes (λ (q : Report). not (has_report_of q.member.who b)) r.reports))

  pub room : length b.reports.items + length (new_reports r b) ≤ n
  room = omega (arith, at_most n (b.reports.items ++ new_reports r b) distinct each, length-append b.reports.items (new_reports r b))

-- ---- equal reports

and_true : (a b : Bool) → (a && b) ≡ true → (a ≡ true) × (b ≡ true)
and_true true b h = (refl, h)
and_true false b h = cc

same_kind : (a b : Kind) → is_same_kind a b ≡ true → a ≡ b
same_kind Informed Informed e = refl
same_kind Ready Ready e = refl
same_kind Informed Ready e = cc
same_kind Ready Informed e = cc

same_support : (a b : Option ℕ) → option_eq (λ x y. x == y) a b ≡ true → a ≡ b
same_support None None e = refl
same_support (Some x) (Some y) e = let z : x ≡ y = grind (arith, nat_tests) in ap Some z
same_support None (Some y) e = cc
same_support (Some x) None e = cc

same_report : (a b : Report) → is_same_report a b ≡ true → a ≡ b
same_report a b e =
    let kind : is_same_kind a.kind b.kind ≡ true = grind (arith, nat_tests) in
    let support : option_eq (λ x y. x == y) a.support b.support ≡ true = grind (arith, nat_tests) in
    let k : a.kind ≡ b.kind = same_kind a.kind b.kind kind in
    let s : a.support ≡ b.support = same_support a.support b.support support in
    let who : a.member.who ≡ b.member.who = grind (arith, nat_tests) in
    let incarnation : a.member.incarnation ≡ b.member.incarnation = grind (arith, nat_tests) in
    let group : a.group ≡ b.group = grind (arith, nat_tests) in
    let turn : a.turn ≡ b.turn = grind (arith, nat_tests) in
    let length : a.length ≡ b.length = grind (arith, nat_tests) in
    let reading : a.reading ≡ b.reading = grind (arith, nat_tests) in
    search arith

-- ---- each report of the round is in the ballot, or new

all_true : {X : Type 0} (p : X → Bool) (xs : List X) → list_all p xs ≡ true → AllByRecursion (λ x. p x ≡ true) xs
all_true p [] e = tt
all_true p (x ∷ xs) e = let z = and_true (p x) (list_all p xs) e in (z.0, all_true p xs z.1)

so : (a b : Bool) → a ≡ true → (not a || b) ≡ true → b ≡ true
so true b e h = h
so false b e h = cc

held : (q : Report) (xs : List Report) → agrees xs q ≡ true → is_reported q.member.who xs ≡ true → In q xs
held q [] e i = cc
held q (x ∷ xs) e i =
    let parts = and_true (not (x.member.who == q.member.who) || is_same_report x q) (agrees xs q) e in
    go (x.member.who == q.member.who) refl parts.0 (held q xs parts.1)
  where
    go : (t : Bool) → (x.member.who == q.member.who) ≡ t → (not (x.member.who == q.member.who) || is_same_report x q) ≡ true → (is_reported q.member.who xs ≡ true → In q xs) → In q (x ∷ xs)
    go true same first rest = inl (sym (same_report x q (so (x.member.who == q.member.who) (is_same_report x q) same first)))
    go false other first rest = inr (rest (rw other at i))

old_or_new : (b : Ballot) (r : Round) → AllByRecursion (λ (q : Report). agrees b.reports.items q ≡ true) r.reports → (q : Report) → In q r.reports → In q b.reports.items ⊎ In q (new_reports r b)
old_or_new b r all q i = go (has_report_of q.member.who b) refl
  where
    go : (t : Bool) → has_report_of q.member.who b ≡ t → In q b.reports.items ⊎ In q (new_reports r b)
    go true e = inl (held q b.reports.items (of_all (λ (q : Report). agrees b.reports.items q ≡ true) r.reports q all i) e)
    go false e = inr (stays (λ (q : Report). not (has_report_of q.member.who b)) q r.reports i (ap not e))

-- ---- the best of both

in_left : {X : Type 0} (x : X) (xs ys : List X) → In x xs → In x (xs ++ ys)
in_left x [] ys i = absurd i
in_left x (y ∷ xs) ys (inl e) = inl e
in_left x (y ∷ xs) ys (inr i) = inr (in_left x xs ys i)

in_right : {X : Type 0} (x : X) (xs ys : List X) → In x ys → In x (xs ++ ys)
in_right x [] ys i = i
in_right x (y ∷ xs) ys i = inr (in_right x xs ys i)

-- a report that has the greatest pair
of_greatest : (g t : ℕ) (xs : List Report) → IsOf g t xs → (q : Report) × In q xs × (q.group ≡ g) × (q.turn ≡ t)
of_greatest g t [] h = absurd h
of_greatest g t (x ∷ xs) (inl e) = (x, inl refl, e.0, e.1)
of_greatest g t (x ∷ xs) (inr h) = let z = of_greatest g t xs h in (z.0, inr z.1, z.2, z.3)

abbrev of_numbers : ℕ → ℕ → ℕ × ℕ
of_numbers g t = (g, t)

abbrev pair_of : Report → ℕ × ℕ
pair_of q = (q.group, q.turn)

module _ (old new told : List Report) (g t : ℕ) (number : ℕ)
    (informed : AllByRecursion (IsBelow number) told) (greatest : IsGreatest g t told)
    (each_new : AllByRecursion (IsNotBelow g t) new)
    (known : (q : Report) → In q told → In q old ⊎ In q new) where
  among : In (g, t) (pairs old) ⊎ In (g, t) (pairs new)
  among = go (of_greatest g t told greatest.reported)
    where
      pair : (q : Report) → q.group ≡ g → q.turn ≡ t → pair_of q ≡ of_numbers g t
      pair q a b = rw (a, b) refl

      go : (q : Report) × In q told × (q.group ≡ g) × (q.turn ≡ t) → In (g, t) (pairs old) ⊎ In (g, t) (pairs new)
      go z =
          let k : z.0.kind ≡ Informed = (of_all (IsBelow number) told z.0 informed z.1).kind in
          let same : pair_of z.0 ≡ of_numbers g t = pair z.0 z.2 z.3 in
          elim (known z.0 z.1) [ inl i ↦ inl (subst (λ (m : ℕ × ℕ). In m (pairs old)) same (pair_in z.0 old k i)) | inr i ↦ inr (subst (λ (m : ℕ × ℕ). In m (pairs new)) same (pair_in z.0 new k i)) ]

  new_reached : AllByRecursion (Reaches (g, t)) (pairs new)
  new_reached = pairs_reached (g, t) new each_new

  reached_by : (m : ℕ × ℕ) (ps : List (ℕ × ℕ)) → Reaches m (g, t) → AllByRecursion (Reaches (g, t)) ps → AllByRecursion (Reaches m) ps
  reached_by m [] far h = tt
  reached_by m (p ∷ ps) far h = (over m (g, t) p far h.0, reached_by m ps far h.1)

  reached_old : (m : ℕ × ℕ) (ps : List (ℕ × ℕ)) → Reaches (g, t) m → AllByRecursion (Reaches m) ps → AllByRecursion (Reaches (g, t)) ps
  reached_old m [] far h = tt
  reached_old m (p ∷ ps) far h = (over (g, t) m p far h.0, reached_old m ps far h.1)

  both : (m : ℕ × ℕ) → AllByRecursion (Reaches m) (pairs old) → AllByRecursion (Reaches m) (pairs new) → In m (pairs old) ⊎ In m (pairs new) → best (old ++ new) ≡ Some m
  both m a b (inl i) = ap (reduce greater_pair) (pairs_joined old new) ∙ greatest_is (pairs old ++ pairs new) m (all_joined (Reaches m) (pairs old) (pairs new) a b) (in_left m (pairs old) (pairs new) i)
  both m a b (inr i) = ap (reduce greater_pair) (pairs_joined old new) ∙ greatest_is (pairs old ++ pairs new) m (all_joined (Reaches m) (pairs old) (pairs new) a b) (in_right m (pairs old) (pairs new) i)

  pub best_joined : (o : Option (ℕ × ℕ)) → best old ≡ o → best (old ++ new) ≡ Some (reduced_with greater_pair o (g, t))
  best_joined None e = both (g, t) (rw (none_of (pairs old) e) tt) new_reached among
  best_joined (Some m) e = go (is_older m.0 m.1 g t) refl (greatest_reaches (pairs old) m e)
    where
      go : (older : Bool) → is_older m.0 m.1 g t ≡ older → AllByRecursion (Reaches m) (pairs old) × In m (pairs old) → best (old ++ new) ≡ Some (cond older (g, t) m)
      go true f z = both (g, t) (reached_old m (pairs old) (grind (arith, nat_tests)) z.0) new_reached among
      go false f z = both m z.0 (reached_by m (pairs new) (grind (arith, nat_tests)) new_reached) (inl z.1)

-- the greater of two decisions is named by the greater pair
named_round : (d : Option Decision) (x : Decision) (o : Option (ℕ × ℕ)) → IsNamed o d → 1 ≤ x.group → IsNamed (Some (reduced_with greater_pair o (x.group, x.turn))) (greater d (Some x))
named_round d x None h above = rw h (grind (arith, nat_tests))
named_round d x (Some m) h above = grind (arith, nat_tests)

greater_fits : (n : ℕ) (d : Option Decision) (x : Decision) → IfSome d (DecisionFits n) → DecisionFits n x → IfSome (greater d (Some x)) (DecisionFits n)
greater_fits n d x h fits = go (is_older (or_none d).group (or_none d).turn x.group x.turn)
  where
    go : (t : Bool) → IfSome (cond t (Some x) d) (DecisionFits n)
    go true = fits
    go false = h

pub round_joined_fits : (n : ℕ) (b : Ballot) (r : Round) → IsBallot n b → RoundFits n r → takes_round r (Some b) ≡ true → IsBallot n (round_joined r b)
round_joined_fits n b r is fits taken =
    let agree : list_all (agrees b.reports.items) r.reports ≡ true = grind (arith, nat_tests) in
    let all : AllByRecursion (λ (q : Report). agrees b.reports.items q ≡ true) r.reports = all_true (agrees b.reports.items) r.reports agree in
    record {
      number = is.number;
      each = each n b r is fits;
      distinct = distinct n b r is fits;
      best_fits = greater_fits n b.best r.best is.best_fits fits.best_fits;
      best = rw (best_joined b.reports.items (new_reports r b) r.reports r.best.group r.best.turn r.number fits.below fits.greatest
          (all_filtered (IsNotBelow r.best.group r.best.turn) (λ (q : Report). not (has_report_of q.member.who b)) r.reports fits.greatest.greatest)
          (old_or_new b r all) (best b.reports.items) refl)
          (named_round b.best r.best (best b.reports.items) is.best fits.best_fits.group.above);
      best_from = refl;
    }
