-- A ballot's best decision, and the facts of a ballot as promises are added to it.
use Rattle.std.proofs.Common.{◌≡◌, refl, ap, subst, ◌∙◌, inl, inr, ℕ, ◌≤◌, ◌<◌, Bool, true, false, cond, ◌||◌, nat_eq, List, [], ◌∷◌, ◌++◌, Option, Some, None, arith}
use Rattle.std.specs.List.{AllByRecursion, IsDistinct, list_any}
use Rattle.std.proofs.lemmas.Bool.Decides.{nat_tests}
use Rattle.tw_machine.specs.Types.{Decision, Report}
use Rattle.tw_types.specs.Ballots.{greater}
use Rattle.tw_types.specs.Decisions.{or_none, is_older}
use Rattle.tw_types.specs.Ranges.{Distinct}
use Rattle.tw_types.specs.Reports.{is_by_informed}
use Rattle.tw_machine.specs.History.{Promised, Make}
use Rattle.tw_machine.proofs.Tables.{all_push}
use Rattle.tw_types.specs.Items.{In}
use Rattle.safety_laws.specs.Made.{IsNotOlder, IsBest, TellsLast, TellsDecision, reporters}
use Rattle.safety_laws.proofs.FirstDecisions.{are_distinct, were_distinct}
use Rattle.safety_laws.proofs.Lists.{each_weaker}

-- ---- pairs of a group and a turn

pub not_older_self : (g t : ℕ) → IsNotOlder g t g t
not_older_self g t = grind (arith, nat_tests)

not_older_nothing : (g t : ℕ) → IsNotOlder g t 0 0
not_older_nothing g t = grind (arith, nat_tests)

pub not_older_over : (g t g' t' g'' t'' : ℕ) → IsNotOlder g t g' t' → IsNotOlder g' t' g'' t'' → IsNotOlder g t g'' t''
not_older_over g t g' t' g'' t'' a b = grind (arith, nat_tests)

pub older_is_not : (g t g' t' : ℕ) → is_older g t g' t' ≡ true → IsNotOlder g' t' g t
older_is_not g t g' t' e = grind (arith, nat_tests)

pub not_older_group : (g t g' t' : ℕ) → IsNotOlder g t g' t' → g' ≤ g
not_older_group g t g' t' e = grind (arith, nat_tests)

pub not_older_turn : (g t g' t' : ℕ) → IsNotOlder g t g' t' → g' ≡ g → t' ≤ t
not_older_turn g t g' t' old same = grind (arith, nat_tests)

pub not_older_by_group : (g t g' t' : ℕ) → g' < g → IsNotOlder g t g' t'
not_older_by_group g t g' t' low = grind (arith, nat_tests)

-- ---- the greater of two decisions

abbrev IsAbove : Option Decision → ℕ → ℕ → Type 0
IsAbove o group turn = IsNotOlder (or_none o).group (or_none o).turn group turn

greater_first : (a b : Option Decision) (g t : ℕ) → IsAbove a g t → IsAbove (greater a b) g t
greater_first a b g t low = go (is_older (or_none a).group (or_none a).turn (or_none b).group (or_none b).turn) refl
  where
    go : (older : Bool) → is_older (or_none a).group (or_none a).turn (or_none b).group (or_none b).turn ≡ older → IsAbove (cond older b a) g t
    go true e = not_older_over (or_none b).group (or_none b).turn (or_none a).group (or_none a).turn g t (older_is_not (or_none a).group (or_none a).turn (or_none b).group (or_none b).turn e) low
    go false e = low

greater_second : (a b : Option Decision) (g t : ℕ) → IsAbove b g t → IsAbove (greater a b) g t
greater_second a b g t low = go (is_older (or_none a).group (or_none a).turn (or_none b).group (or_none b).turn) refl
  where
    go : (older : Bool) → is_older (or_none a).group (or_none a).turn (or_none b).group (or_none b).turn ≡ older → IsAbove (cond older b a) g t
    go true e = low
    go false e = not_older_over (or_none a).group (or_none a).turn (or_none b).group (or_none b).turn g t e low

-- it is one of the two, and where the second is missing the first
pub greater_is : (P : Option Decision → Type 0) (a b : Option Decision) → P a → P b → P (greater a b)
greater_is P a b first second = go (is_older (or_none a).group (or_none a).turn (or_none b).group (or_none b).turn)
  where
    go : (older : Bool) → P (cond older b a)
    go true = second
    go false = first

-- ---- one report more

pub in_pushed : {X : Type 0} (x y : X) (xs : List X) → In x xs → In x (xs ++ y ∷ [])
in_pushed x y [] i = absurd i
in_pushed x y (z ∷ xs) (inl e) = inl e
in_pushed x y (z ∷ xs) (inr i) = inr (in_pushed x y xs i)

in_last : {X : Type 0} (y : X) (xs : List X) → In y (xs ++ y ∷ [])
in_last y [] = inl refl
in_last y (z ∷ xs) = inr (in_last y xs)

informed_or_not : (r : Report) → (b : Bool) → is_by_informed r ≡ b → (d : Option Decision) → (is_by_informed r ≡ false → d ≡ None) → (e : Decision) → d ≡ Some e → is_by_informed r ≡ true
informed_or_not r true i d ready e is = i
informed_or_not r false i d ready e is = let none = ready i in absurd (cc)

pub best_pushed : (makes : List Make) (x : Promised) (reports : List Report) (best : Option Decision) → TellsDecision makes x → IsBest reports best → IsBest (reports ++ x.promise.report ∷ []) (greater best x.promise.decision)
best_pushed makes x reports best tells k = record {
  greatest = all_push (λ (r : Report). is_by_informed r ≡ true → IsAbove (greater best told) r.group r.turn) reports new
      (each_weaker (λ (r : Report). is_by_informed r ≡ true → IsAbove best r.group r.turn) (λ (r : Report). is_by_informed r ≡ true → IsAbove (greater best told) r.group r.turn) reports
      (λ r f informed. greater_first best told r.group r.turn (f informed)) k.greatest)
      (λ informed. greater_second best told new.group new.turn (above_new told (tells.informed informed)));
  positive = λ d is. greater_is (λ o. (d : Decision) → o ≡ Some d → 1 ≤ d.group) best told k.positive told_positive d is;
  told = λ d is. greater_is (λ o. (d : Decision) → o ≡ Some d → (r : Report) × In r (reports ++ new ∷ []) × (is_by_informed r ≡ true) × (r.group ≡ d.group) × (r.turn ≡ d.turn)) best told
      (λ d is. let old = k.told d is in (old.0, in_pushed old.0 new reports old.1, old.2, old.3, old.4)) told_told d is;
}
  where
    new : Report
    new = x.promise.report

    told : Option Decision
    told = x.promise.decision

    informed : (d : Decision) → told ≡ Some d → is_by_informed new ≡ true
    informed d is = informed_or_not new (is_by_informed new) refl told tells.ready d is

    above_new : (o : Option Decision) → TellsLast makes x o → IsAbove o new.group new.turn
    above_new None t = rw (t.0, t.1) (not_older_nothing 0 0)
    above_new (Some d) t = rw (t.2, t.3) (not_older_self d.group d.turn)

    told_last : (d : Decision) → told ≡ Some d → TellsLast makes x (Some d)
    told_last d is = subst (TellsLast makes x) is (tells.informed (informed d is))

    told_positive : (d : Decision) → told ≡ Some d → 1 ≤ d.group
    told_positive d is = (told_last d is).1

    told_told : (d : Decision) → told ≡ Some d → (r : Report) × In r (reports ++ new ∷ []) × (is_by_informed r ≡ true) × (r.group ≡ d.group) × (r.turn ≡ d.turn)
    told_told d is = let t = told_last d is in (new, in_last new reports, informed d is, t.2, t.3)

-- the first report
pub best_first : (makes : List Make) (x : Promised) → TellsDecision makes x → IsBest (x.promise.report ∷ []) x.promise.decision
best_first makes x tells = go x.promise.decision refl
  where
    go : (o : Option Decision) → x.promise.decision ≡ o → IsBest (x.promise.report ∷ []) o
    go None is = record {
      greatest = ((λ informed. let t : TellsLast makes x None = subst (TellsLast makes x) is (tells.informed informed) in rw (t.0, t.1) (not_older_nothing 0 0)), tt);
      positive = λ d e. absurd (cc);
      told = λ d e. absurd (cc);
    }
    go (Some d) is =
        let informed = informed_or_not x.promise.report (is_by_informed x.promise.report) refl x.promise.decision tells.ready d is in
        let t : TellsLast makes x (Some d) = subst (TellsLast makes x) is (tells.informed informed) in
        record {
          greatest = ((λ yes. rw (t.2, t.3) (not_older_self d.group d.turn)), tt);
          positive = λ e same. let eq : d ≡ e = cc in subst (λ (z : Decision). 1 ≤ z.group) eq t.1;
          told = λ e same. let eq : d ≡ e = cc in (x.promise.report, inl refl, informed, t.2 ∙ ap (λ (z : Decision). z.group) eq, t.3 ∙ ap (λ (z : Decision). z.turn) eq);
        }

-- a report of another process keeps processes different
apart_from : (reports : List Report) (r : Report) → list_any (λ (q : Report). nat_eq q.member.who r.member.who) reports ≡ false → AllByRecursion (λ (q : Report). (q.member.who ≡ r.member.who) → ⊥) reports
apart_from [] r none = tt
apart_from (q ∷ reports) r none = go (nat_eq q.member.who r.member.who) refl none (apart_from reports r)
  where
    go : (b : Bool) → nat_eq q.member.who r.member.who ≡ b → (b || list_any (λ (q : Report). nat_eq q.member.who r.member.who) reports) ≡ false
        → (list_any (λ (q : Report). nat_eq q.member.who r.member.who) reports ≡ false → AllByRecursion (λ (q : Report). (q.member.who ≡ r.member.who) → ⊥) reports)
        → AllByRecursion (λ (q : Report). (q.member.who ≡ r.member.who) → ⊥) (q ∷ reports)
    go true e none rest = absurd (cc)
    go false e none rest = ((λ same. let yes : nat_eq q.member.who r.member.who ≡ true = grind (arith, nat_tests) in cc), rest none)

distinct_pushed : (reports : List Report) (r : Report) → Distinct reports → AllByRecursion (λ (q : Report). (q.member.who ≡ r.member.who) → ⊥) reports → Distinct (reports ++ r ∷ [])
distinct_pushed [] r d apart = (tt, tt)
distinct_pushed (q ∷ reports) r d apart = (all_push (λ (z : Report). (q.member.who ≡ z.member.who) → ⊥) reports r d.0 apart.0, distinct_pushed reports r d.1 apart.1)

pub still_distinct : (reports : List Report) (r : Report) → IsDistinct nat_eq (reporters reports) → list_any (λ (q : Report). nat_eq q.member.who r.member.who) reports ≡ false → IsDistinct nat_eq (reporters (reports ++ r ∷ []))
still_distinct reports r d none = are_distinct (reports ++ r ∷ []) (distinct_pushed reports r (were_distinct reports d) (apart_from reports r none))
