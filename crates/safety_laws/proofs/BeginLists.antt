-- What is known of a list, and where it is the beginning of another one; and what a process's list is after a decision is entered.
use Rattle.std.proofs.Common.{◌≡◌, refl, sym, ap, subst, ◌∙◌, inl, inr, ◌⊎◌, ℕ, zero, suc, ◌≤◌, ◌<◌, nat_eq, nat_lt, nat_le, Bool, true, false, ◌&&◌, ◌||◌, List, [], ◌∷◌, take, Option, Some, None, arith}
use Rattle.std.proofs.lemmas.Bool.Decides.{nat_tests}
use Rattle.tw_machine.specs.Types.{Team, Decision, Kept, Kind, Member, Report}
use Rattle.tw_types.specs.declared.message.Kind.TheVariants as kinds
use Rattle.tw_types.specs.Beliefs.{view_decision, log_length}
use Rattle.tw_types.specs.Decisions.{or_none, has_seat, decision_length}
use Rattle.tw_types.specs.Items.{In}
use Rattle.tw_types.specs.Process.{Process}
use Rattle.tw_types.specs.Reports.{is_by_informed, is_consistent, goes_with}
use Rattle.tw_machine.specs.History.{Promised, Make, list_of}
use Rattle.safety_laws.specs.Beginnings.{IsBeginning, list_at, known, known_then, BegunThen}
use Rattle.safety_laws.specs.Made.{WasMade, WasMadeIfAny, IsNotOlder, IsBest, TellsLast, TellsDecision}
use Rattle.safety_laws.proofs.Ballots.{not_older_group, not_older_turn}
use Rattle.safety_laws.proofs.Groups.{seat_of_members}
use Rattle.safety_laws.proofs.Lists.{of_each}
use Rattle.safety_laws.proofs.Prefixes.{nothing_begins, begins_also, take_begins_also, list_at_is, list_of_made, list_at_older, HaveLists, no_list, extend}
use Rattle.safety_laws.proofs.Turns.{all_positive, first_of_made}

-- of nothing nothing is taken
take_none : (n : ℕ) (xs : List Kept) → xs ≡ [] → take n xs ≡ []
take_none zero xs none = refl
take_none (suc n) xs none = rw none refl

-- ---- pairs of a group and a turn

-- no pair at all, or that of a make
pub data IsPair (makes : List Make) (group turn : ℕ) : Type 0 where
  Nothing : group ≡ 0 → IsPair makes group turn
  Made : (m : Make) → In m makes → m.making.decision.group ≡ group → m.making.decision.turn ≡ turn → IsPair makes group turn

-- that of what a process took or follows, and what an informed one reports with a promise
pub view_pair : (makes : List Make) (o : Option Decision) → WasMadeIfAny makes o → IsPair makes (or_none o).group (or_none o).turn
view_pair makes None made = Nothing refl
view_pair makes (Some d) made = Made made.0 made.1 (ap (λ (z : Decision). z.group) made.2) (ap (λ (z : Decision). z.turn) made.2)

-- the pair of a promise
pub told_pair : (makes : List Make) (x : Promised) → TellsDecision makes x → is_by_informed x.promise.report ≡ true → IsPair makes x.promise.report.group x.promise.report.turn
told_pair makes x tells informed = go x.promise.decision (tells.informed informed)
  where
    go : (o : Option Decision) → TellsLast makes x o → IsPair makes x.promise.report.group x.promise.report.turn
    go None k = Nothing k.0
    go (Some d) k = Made k.0.0 k.0.1 (ap (λ (z : Decision). z.group) k.0.2 ∙ sym k.2) (ap (λ (z : Decision). z.turn) k.0.2 ∙ sym k.3)

-- A new make leaves the lists of the pairs that there were.
pub pair_older : (team : Team) (promises : List Promised) (m : Make) (older : List Make) → HaveLists team promises older → HaveLists team promises (m ∷ older) → (group turn : ℕ) → IsPair older group turn → list_at (m ∷ older) group turn ≡ list_at older group turn
pair_older team promises m older k k' group turn (Nothing none) =
    subst (λ g. list_at (m ∷ older) g turn ≡ list_at older g turn) (sym none) (no_list team promises (m ∷ older) k' turn ∙ sym (no_list team promises older k turn))
pair_older team promises m older k k' group turn (Made d i g t) = list_at_older m older k'.once d i group turn g t

-- the list of what may be missing is that of its pair
list_by_pair : (team : Team) (promises : List Promised) (makes : List Make) → HaveLists team promises makes → (o : Option Decision) → list_of makes o ≡ list_at makes (or_none o).group (or_none o).turn
list_by_pair team promises makes k None = sym (no_list team promises makes k 0)
list_by_pair team promises makes k (Some d) = refl

-- what a process knows, by its pair
pub known_by_pair : (team : Team) (promises : List Promised) (makes : List Make) → HaveLists team promises makes → (p : Process)
    → known makes p ≡ take (log_length p.log) (list_at makes (or_none (view_decision p.belief)).group (or_none (view_decision p.belief)).turn)
known_by_pair team promises makes k p = ap (take (log_length p.log)) (list_by_pair team promises makes k (view_decision p.belief))

-- ---- what begins a list

-- a number that isn't above another is that or below it
pub same_or_below : (a b : ℕ) → a ≤ b → (a ≡ b) ⊎ (a < b)
same_or_below a b low = go (nat_eq a b) refl
  where
    go : (t : Bool) → nat_eq a b ≡ t → (a ≡ b) ⊎ (a < b)
    go true e = inl (grind (arith, nat_tests))
    go false e = inr (grind (arith, nat_tests))

-- So many items of the list of a pair begin the list of a decision that isn't older: of the same group, by turns; of a greater one, where
-- they begin the list of that group's first decision.
pub begins_list : (team : Team) (promises : List Promised) (makes : List Make) → HaveLists team promises makes → (n group turn : ℕ) (member : Member) (d : Decision)
    → IsPair makes group turn → WasMade makes d → IsNotOlder d.group d.turn group turn → (group < d.group → has_seat member d ≡ true)
    → ((c : Make) → In c makes → c.making.decision.turn ≡ 0 → has_seat member c.making.decision ≡ true → group < c.making.decision.group → c.making.decision.group ≡ d.group → IsBeginning (take n (list_at makes group turn)) c.log)
    → IsBeginning (take n (list_at makes group turn)) (list_of makes (Some d))
begins_list team promises makes k n group turn member d pair made old seat begun =
    subst (IsBeginning (take n (list_at makes group turn))) (sym (list_of_made makes k.once d made)) (go (same_or_below group d.group (not_older_group d.group d.turn group turn old)) pair)
  where
    group_is : made.0.making.decision.group ≡ d.group
    group_is = ap (λ (z : Decision). z.group) made.2

    turn_is : made.0.making.decision.turn ≡ d.turn
    turn_is = ap (λ (z : Decision). z.turn) made.2

    below : group < d.group → IsBeginning (take n (list_at makes group turn)) made.0.log
    below low =
        let c = first_of_made team promises makes k.arise d made in
        let first = c.2.begins in
        let first_group = first.group_is in
        let first_turn = first.turn in
        begins_also (take n (list_at makes group turn)) c.0.log made.0.log
        (begun c.0 c.1 first_turn (seat_of_members c.0.making.decision d member c.2.same_members (seat low)) (omega arith) first_group)
        (extend team promises makes k c.0 made.0 c.1 made.1 (first_group ∙ sym group_is) (omega arith))

    go : (group ≡ d.group) ⊎ (group < d.group) → IsPair makes group turn → IsBeginning (take n (list_at makes group turn)) made.0.log
    go (inr low) pair = below low
    go (inl same) (Nothing none) = let some = of_each (λ (m : Make). 1 ≤ m.making.decision.group) makes made.0 (all_positive team promises makes k.arise) made.1 in absurd (omega (arith, some, group_is, same, none))
    go (inl same) (Made a i g t) =
        let low = not_older_turn d.group d.turn group turn old same in
        take_begins_also n (list_at makes group turn) made.0.log
        (subst (λ l. IsBeginning l made.0.log) (sym (list_at_is makes k.once a i group turn g t)) (extend team promises makes k a made.0 i made.1 (g ∙ same ∙ sym group_is) (omega (arith, low, t, turn_is))))

-- ---- consistent reports

-- what is known of a promise whose report is in a ballot
pub record IsReport (makes : List Make) (reports : List Report) (best : Option Decision) (x : Promised) : Type 0 where
  pub there : In x.promise.report reports
  pub informed : is_by_informed x.promise.report ≡ true
  pub tells : TellsDecision makes x
  pub consistent : is_consistent best x.promise.report ≡ true
  pub below : (d : Decision) → best ≡ Some d → d.group < x.promise.number

-- the kind of an informed report
informed_kind : (r : Report) → is_by_informed r ≡ true → r.kind ≡ kinds.Informed
informed_kind r informed = go r.kind refl
  where
    go : (kind : Kind) → r.kind ≡ kind → r.kind ≡ kinds.Informed
    go kinds.Informed is = is
    go kinds.Ready is = absurd (let no : is_by_informed r ≡ false = rw is refl in cc)

-- what goes with a decision reaches to its window
pub reaches_window : (o : Option Decision) (r : Report) → is_consistent o r ≡ true → (or_none o).low ≤ r.length
reaches_window o r consistent = go (nat_le (or_none o).low r.length) refl consistent
  where
    go : (b : Bool) → nat_le (or_none o).low r.length ≡ b → ((b && nat_le r.length (decision_length (or_none o))) && goes_with r.kind r (or_none o)) ≡ true → (or_none o).low ≤ r.length
    go true is e = grind (arith, nat_tests)
    go false is e = absurd (cc)

-- an informed one of a lower group has a seat in the decision that it goes with
pub seated_below : (o : Option Decision) (r : Report) → is_by_informed r ≡ true → is_consistent o r ≡ true → r.group < (or_none o).group → has_seat r.member (or_none o) ≡ true
seated_below o r informed consistent low =
    let goes : ((nat_le (or_none o).low r.length && nat_le r.length (decision_length (or_none o))) && goes_with kinds.Informed r (or_none o)) ≡ true =
    subst (λ kind. ((nat_le (or_none o).low r.length && nat_le r.length (decision_length (or_none o))) && goes_with kind r (or_none o)) ≡ true) (informed_kind r informed) consistent in
    let other : nat_eq r.group (or_none o).group ≡ false = grind (arith, nat_tests) in
    parts (nat_le (or_none o).low r.length) (nat_le r.length (decision_length (or_none o))) (nat_eq r.group (or_none o).group) (nat_lt r.group (or_none o).group) (has_seat r.member (or_none o)) goes other
  where
    parts : (a b c d e : Bool) → ((a && b) && (c || (d && e))) ≡ true → c ≡ false → e ≡ true
    parts true true false true e all other = all
    parts true true false false e all other = absurd (cc)
    parts true true true d e all other = absurd (cc)
    parts true false c d e all other = absurd (cc)
    parts false b c d e all other = absurd (cc)

-- What a consistent report tells begins best's list.
pub consistent_begins : (team : Team) (promises : List Promised) (makes : List Make) → HaveLists team promises makes → (reports : List Report) (best : Option Decision) → IsBest reports best → WasMadeIfAny makes best
    → (x : Promised) → IsReport makes reports best x → ((c : Make) → In c makes → BegunThen makes c x) → IsBeginning (known_then makes x) (list_of makes best)
consistent_begins team promises makes k reports best is made x r begun = go best refl made
  where
    pair : IsPair makes x.promise.report.group x.promise.report.turn
    pair = told_pair makes x r.tells r.informed

    old : IsNotOlder (or_none best).group (or_none best).turn x.promise.report.group x.promise.report.turn
    old = of_each (λ (z : Report). is_by_informed z ≡ true → IsNotOlder (or_none best).group (or_none best).turn z.group z.turn) reports x.promise.report is.greatest r.there r.informed

    none_known : x.promise.report.group ≡ 0 → IsBeginning (known_then makes x) []
    none_known none =
        subst (λ l. IsBeginning l []) (sym (ap (λ g. take x.promise.report.length (list_at makes g x.promise.report.turn)) none ∙ take_none x.promise.report.length (list_at makes 0 x.promise.report.turn) (no_list team promises makes k x.promise.report.turn))) (nothing_begins [])

    go : (o : Option Decision) → best ≡ o → WasMadeIfAny makes o → IsBeginning (known_then makes x) (list_of makes o)
    go None e made =
        let low = not_older_group 0 0 x.promise.report.group x.promise.report.turn (subst (λ (o : Option Decision). IsNotOlder (or_none o).group (or_none o).turn x.promise.report.group x.promise.report.turn) e old) in
        none_known (omega arith)
    go (Some d) e made =
        begins_list team promises makes k x.promise.report.length x.promise.report.group x.promise.report.turn x.promise.report.member d pair made
        (subst (λ (o : Option Decision). IsNotOlder (or_none o).group (or_none o).turn x.promise.report.group x.promise.report.turn) e old)
        (λ low. subst (λ (o : Option Decision). x.promise.report.group < (or_none o).group → has_seat x.promise.report.member (or_none o) ≡ true) e (seated_below best x.promise.report r.informed r.consistent) low)
        (λ c i turn seat low same. begun c i turn seat low (let below = r.below d e in omega arith))
