-- Timed updates that a member passes with now come in the ascending order of their marks, as its rows show them.
use Rattle.std.proofs.Common.{◌≡◌, refl, sym, ap, subst, ◌∙◌, inl, inr, ℕ, zero, suc, ◌+◌, ◌<◌, Bool, true, false, cond, List, [], ◌∷◌, map, filter, Option, Some, None, slice_get, length, arith}
use Rattle.std.specs.Prelude.{◌&&◌}
use Rattle.std.specs.List.{AllByRecursion}
use Rattle.std.proofs.lemmas.Bool.{and_parts, false_from_ne_true}
use Rattle.std.proofs.lemmas.Bool.Decides.{nat_tests}
use Rattle.std.proofs.lemmas.Option.{same_Some}
use Rattle.tw_machine.specs.Types.{Decision, Kept, Member, Order, TimeMark, How, Step, Team}
use Rattle.tw_types.specs.declared.message.Order.TheVariants.{Unordered, Total, Timed}
use Rattle.tw_types.specs.declared.outputs.How.TheVariants.{Now, Earlier, Late}
use Rattle.tw_types.specs.Appending.{is_above, moves_mark}
use Rattle.tw_types.specs.Appending as entries
use Rattle.tw_types.specs.Beliefs.{is_informed, view_decision}
use Rattle.tw_types.specs.Deliveries.{how_passed}
use Rattle.tw_types.specs.Items.{In}
use Rattle.tw_types.specs.Printed.{update_printed}
use Rattle.tw_types.specs.Process.{Process}
use Rattle.tw_types.specs.Row.{Row, Pass, Update}
use Rattle.tw_types.specs.Team.{IsSound}
use Rattle.tw_types.specs.Updates.{is_unordered}
use Rattle.tw_types.specs.Updates as updates
use Rattle.tw_types.proofs.Appended.{in_map}
use Rattle.tw_machine.specs.Applied.{Meaning}
use Rattle.tw_machine.specs.History.{Line, Make, life, line_item, lines_on, lines_by, list_of, history}
use Rattle.tw_machine.specs.Places.{Below}
use Rattle.tw_machine.specs.Rows.{rows_of}
use Rattle.tw_machine.specs.Run.{AtPass, Delivered}
use Rattle.tw_machine.specs.SafeRows.{is_now, is_timed, timed, mark_of, TimedOrder}
use Rattle.tw_machine.specs.Standing.{member_of}
use Rattle.tw_machine.specs.World.{deed_in, world, Admissible}
use Rattle.safety_laws.specs.Beginnings.{unmarked}
use Rattle.safety_laws.specs.Delivered.{StandsPassed, IsPassedOf, PassedAbove, PassesAscend, IsBacked}
use Rattle.safety_laws.specs.Lists.{entries_of, marks_of, MarksAscend, IsListOf}
use Rattle.safety_laws.specs.Seen.{Passed, Early, delivery_at, deliveries_in, Shown, shown_by, shown_in, shown_of}
use Rattle.safety_laws.proofs.ClockLaw.{own_after}
use Rattle.safety_laws.proofs.DeliveryLaws.{with_delivered, delivered_well}
use Rattle.safety_laws.proofs.FirstDecisions.{one_member}
use Rattle.safety_laws.proofs.Induction.{earlier}
use Rattle.safety_laws.proofs.LinesOfRows.{passed_parts, pass_there, IsNamed, lines_named}
use Rattle.safety_laws.proofs.Lists.{each_weaker, each_both}
use Rattle.safety_laws.proofs.Passed.{whole_list, passed_in}
use Rattle.safety_laws.proofs.PassedLists.{late_told}
use Rattle.safety_laws.proofs.Prefixes.{list_holds}
use Rattle.safety_laws.proofs.RowsInTurn.{InTurn, turn_first, RowsInTurn, rows_in_turn}
use Rattle.safety_laws.proofs.Stack.{Kept as Holding}
use Rattle.safety_laws.proofs.TurnPlaces.{turn_unmapped, picked_at, turn_picked}

-- ---- marks of a list

-- where each mark of a list is above a mark, so is that of each entry of it that moves the mark
above_at : (list : List Kept) (i : ℕ) (b : Kept) (m : TimeMark) → AllByRecursion (λ (later : TimeMark). is_above later m ≡ true) (marks_of list) → slice_get list i ≡ Some b → moves_mark b.entry ≡ true
    → is_above (entries.mark_of b.entry) m ≡ true
above_at [] i b m all at moves = absurd (cc)
above_at (k ∷ list) i b m all at moves = go (moves_mark k.entry) refl all i at (λ l rest then. above_at list l b m rest then moves)
  where
    go : (t : Bool) → moves_mark k.entry ≡ t → AllByRecursion (λ (later : TimeMark). is_above later m ≡ true) (map entries.mark_of (cond t (k.entry ∷ filter moves_mark (entries_of list)) (filter moves_mark (entries_of list))))
        → (i : ℕ) → slice_get (k ∷ list) i ≡ Some b
        → ((l : ℕ) → AllByRecursion (λ (later : TimeMark). is_above later m ≡ true) (marks_of list) → slice_get list l ≡ Some b → is_above (entries.mark_of b.entry) m ≡ true) → is_above (entries.mark_of b.entry) m ≡ true
    go true is all zero at others = subst (λ (z : Kept). is_above (entries.mark_of z.entry) m ≡ true) (same_Some k b at) all.0
    go true is all (suc i) at others = others i all.1 at
    go false is all zero at others = let same : k ≡ b = same_Some k b at in absurd (cc (is, moves, same))
    go false is all (suc i) at others = others i all at

-- Of two timed entries of a list that aren't late the later one's mark is above the earlier one's.
marks_at : (list : List Kept) (j i : ℕ) (a b : Kept) → MarksAscend (marks_of list) → j < i → slice_get list j ≡ Some a → slice_get list i ≡ Some b → moves_mark a.entry ≡ true → moves_mark b.entry ≡ true
    → is_above (entries.mark_of b.entry) (entries.mark_of a.entry) ≡ true
marks_at [] j i a b ascend less at then moves moves' = absurd (cc)
marks_at (k ∷ list) j i a b ascend less at then moves moves' = go (moves_mark k.entry) refl ascend j i less at then (λ n m rest below first second. marks_at list n m a b rest below first second moves moves')
  where
    Others : Type 0
    Others = (n m : ℕ) → MarksAscend (marks_of list) → n < m → slice_get list n ≡ Some a → slice_get list m ≡ Some b → is_above (entries.mark_of b.entry) (entries.mark_of a.entry) ≡ true

    go : (t : Bool) → moves_mark k.entry ≡ t → MarksAscend (map entries.mark_of (cond t (k.entry ∷ filter moves_mark (entries_of list)) (filter moves_mark (entries_of list))))
        → (j i : ℕ) → j < i → slice_get (k ∷ list) j ≡ Some a → slice_get (k ∷ list) i ≡ Some b → Others → is_above (entries.mark_of b.entry) (entries.mark_of a.entry) ≡ true
    go t is ascend j zero less at then others = absurd (omega (arith, less))
    go true is ascend zero (suc i) less at then others = subst (λ (z : Kept). is_above (entries.mark_of b.entry) (entries.mark_of z.entry) ≡ true) (same_Some k a at) (above_at list i b (entries.mark_of k.entry) ascend.0 then moves')
    go true is ascend (suc j) (suc i) less at then others = others j i ascend.1 (omega (arith, less)) at then
    go false is ascend zero (suc i) less at then others = let same : k ≡ a = same_Some k a at in absurd (cc (is, moves, same))
    go false is ascend (suc j) (suc i) less at then others = others j i ascend (omega (arith, less)) at then

-- the list of a made decision ascends, and where there is no decision there is nothing
list_ascends : (makes : List Make) (o : Option Decision) → AllByRecursion IsListOf makes → MarksAscend (marks_of (list_of makes o))
list_ascends makes o whole = list_holds (λ list. MarksAscend (marks_of list)) tt makes (each_weaker IsListOf (λ (m : Make). MarksAscend (marks_of m.log)) makes (λ m is. is.ascend) whole) o

-- ---- lines

-- of two timed updates that one member passed with now the later one's mark is above the earlier one's
abbrev TimedAbove : (later earlier : Line) → Type 0
TimedAbove later earlier = earlier.member ≡ later.member → (i j : ℕ) → later.delivered.place ≡ AtPass i Now → earlier.delivered.place ≡ AtPass j Now
    → updates.is_timed later.delivered.update.entry.order ≡ true → updates.is_timed earlier.delivered.update.entry.order ≡ true
    → is_above (entries.mark_of later.delivered.update.entry) (entries.mark_of earlier.delivered.update.entry) ≡ true

-- what is passed with now isn't late
now_moves : (k : Kept) → Now ≡ how_passed k → updates.is_timed k.entry.order ≡ true → moves_mark k.entry ≡ true
now_moves k now is =
    let early : k.entry.late ≡ false = false_from_ne_true k.entry.late (λ e. let f : Now ≡ Late = now ∙ (late_told k).1 e in cc) in
    search arith

-- what is known of a line at a process: it stands passed there, and is backed
abbrev IsKnown : Team → List Make → Process → Line → Type 0
IsKnown team makes p x = IsPassedOf p x × IsBacked team makes x

-- of two passes of one process, whose list ascends
module _ (team : Team) (makes : List Make) (p : Process) (base : p.log.base ≡ 0) (ascend : is_informed p.belief ≡ true → MarksAscend (marks_of (map unmarked p.log.entries))) where
  there : (position : ℕ) (update : Kept) → StandsPassed p position update → slice_get (map unmarked p.log.entries) position ≡ Some (unmarked update)
  there = passed_in p (map unmarked p.log.entries) base refl

  timed_above : (x y : Line) → IsKnown team makes p x → IsKnown team makes p y → PassedAbove x y → x.member ≡ member_of p.identity → TimedAbove x y
  timed_above x y known known' above mine same i j at at' is is' =
      marks_at (map unmarked p.log.entries) j i (unmarked y.delivered.update) (unmarked x.delivered.update) (ascend (known.0 mine).0) (above same i j Now Now at at')
      (there j y.delivered.update ((known'.0 (same ∙ mine)).1 j Now at')) (there i x.delivered.update ((known.0 mine).1 i Now at))
      (now_moves y.delivered.update (known'.1.passed j Now at').1 is') (now_moves x.delivered.update (known.1.passed i Now at).1 is)

  all_above : (lines : List Line) → AllByRecursion (IsKnown team makes p) lines → PassesAscend lines → InTurn (λ (later earlier : Line). later.member ≡ member_of p.identity → TimedAbove later earlier) lines
  all_above [] known passes = tt
  all_above (x ∷ older) known passes =
      (each_both (IsKnown team makes p) (PassedAbove x) (λ (y : Line). x.member ≡ member_of p.identity → TimedAbove x y) older (λ y k above. timed_above x y known.0 k above) known.1 passes.0, all_above older known.1 passes.1)

-- ---- a step's lines

turn_behind : (R : Line → Line → Type 0) (row : ℕ) (member : Member) (life : ℕ) (s : Step) (zs : List Delivered) (older : List Line) → InTurn R (lines_on row member life s zs older) → InTurn R older
turn_behind R row member life s [] older turn = turn
turn_behind R row member life s (z ∷ zs) older turn = (turn_behind R row member life s zs (line_item row member life s z ∷ older) turn).1

-- what holds behind each line of the step's member holds behind the new ones, and so of all
turn_on : (R : Line → Line → Type 0) (row : ℕ) (member : Member) (life : ℕ) (s : Step) (zs : List Delivered) (older : List Line)
    → InTurn (λ (later earlier : Line). later.member ≡ member → R later earlier) (lines_on row member life s zs older) → InTurn R older → InTurn R (lines_on row member life s zs older)
turn_on R row member life s [] older all turn = turn
turn_on R row member life s (z ∷ zs) older all turn =
    let new : Line = line_item row member life s z in
    turn_on R row member life s zs (new ∷ older) all (
      each_weaker (λ (y : Line). new.member ≡ member → R new y) (R new) older (λ y f. f refl) (turn_behind (λ (later earlier : Line). later.member ≡ member → R later earlier) row member life s zs (new ∷ older) all).0,
      turn,
    )

-- In every schedule, of two timed updates that a member passes with now the later one's mark is above.
timed_lines : (team : Team) (past : List Step) → IsSound team → Admissible team past → InTurn TimedAbove (history team past).lines
timed_lines team [] sound ok = tt
timed_lines team (s ∷ past) sound ok = go (deed_in team (world team past) s).process refl (timed_lines team past sound (earlier team past s ok))
  where
    now : List Step
    now = s ∷ past

    told : List Delivered
    told = (deed_in team (world team past) s).delivered

    all : Holding team (with_delivered team) (s ∷ past)
    all = delivered_well team (s ∷ past) sound ok

    -- the lines, by the process that runs then
    lines : Option Process → List Line
    lines o = lines_by (length past + 1) (life s.who now) s o told (history team past).lines

    behind : (p : Process) → (deed_in team (world team past) s).process ≡ Some p → InTurn (λ (later earlier : Line). later.member ≡ member_of p.identity → TimedAbove later earlier) (lines (deed_in team (world team past) s).process)
    behind p comes =
        let k = all.running s.who p (own_after team past s ∙ comes) in
        let makes : List Make = (history team now).makes in
        let whole : AllByRecursion IsListOf makes = all.history.0.0.1.whole in
        all_above team makes p k.1.base
        (λ informed. subst (λ list. MarksAscend (marks_of list)) (sym (whole_list makes p (list_of makes (view_decision p.belief)) k.1.base k.0.1.1 informed refl)) (list_ascends makes (view_decision p.belief) whole))
        (history team now).lines
        (each_both (IsPassedOf p) (IsBacked team makes) (IsKnown team makes p) (history team now).lines (λ x a b. (a, b)) k.1.passed all.history.1.backed)
        all.history.1.ascend

    go : (o : Option Process) → (deed_in team (world team past) s).process ≡ o → InTurn TimedAbove (history team past).lines → InTurn TimedAbove (lines (deed_in team (world team past) s).process)
    go None comes before = subst (λ o. InTurn TimedAbove (lines o)) (sym comes) before
    go (Some p) comes before = subst (λ o. InTurn TimedAbove (lines o)) (sym comes)
        (turn_on TimedAbove (length past + 1) (member_of p.identity) (life s.who now) s told (history team past).lines
        (subst (λ o. InTurn (λ (later earlier : Line). later.member ≡ member_of p.identity → TimedAbove later earlier) (lines o)) comes (behind p comes)) before)

-- ---- rows

-- a pass with now of a timed update
abbrev is_timed_now : Pass → Bool
is_timed_now p = is_now p.how && is_timed p.update.order

-- of two such passes of one member the earlier one's update is below the later one's
abbrev TimedBelow : Shown → Shown → Type 0
TimedBelow earlier later = earlier.who ≡ later.who → earlier.incarnation ≡ later.incarnation → (p q : Pass) → earlier.delivery ≡ Passed p → later.delivery ≡ Passed q
    → is_timed_now p ≡ true → is_timed_now q ≡ true → Below (mark_of p.update) (mark_of q.update)

now_is : (how : How) → is_now how ≡ true → how ≡ Now
now_is Now e = refl
now_is Earlier e = absurd (cc)
now_is Late e = absurd (cc)

timed_is : (order : Order) → is_timed order ≡ updates.is_timed order
timed_is Unordered = refl
timed_is Total = refl
timed_is Timed = refl

-- the first number that differs tells which mark is above
below_mark : (a b : TimeMark) → is_above b a ≡ true → Below (a.stamp ∷ a.who ∷ a.seq ∷ []) (b.stamp ∷ b.who ∷ b.seq ∷ [])
below_mark a b e = grind (arith, nat_tests)

-- a line that a row prints as such a pass
record IsTimedNow (x : Line) (p : Pass) : Type 0 where
  place : x.delivered.place ≡ AtPass p.position Now
  timed : updates.is_timed x.delivered.update.entry.order ≡ true
  update : update_printed x.delivered.update ≡ p.update

timed_now : (x : Line) (p : Pass) → delivery_at x.delivered.place x.delivered.update ≡ Passed p → is_timed_now p ≡ true → IsTimedNow x p
timed_now x p is passes =
    let two = and_parts (is_now p.how) (is_timed p.update.order) passes in
    let parts = passed_parts x.delivered.place x.delivered.update p is in
    record {
      place = parts.0 ∙ ap (λ how. AtPass p.position how) (now_is p.how two.0);
      timed = sym (timed_is x.delivered.update.entry.order) ∙ ap (λ (u : Update). is_timed u.order) parts.1 ∙ two.1;
      update = parts.1;
    }

timed_below : (x y : Line) → IsNamed x → IsNamed y → TimedAbove x y → TimedBelow (shown_of y) (shown_of x)
timed_below x y named named' above who incarnation p q is is' passes passes' =
    let a = timed_now y p is passes in
    let b = timed_now x q is' passes' in
    subst (λ (u : Update). Below (mark_of p.update) (mark_of u)) b.update
    (subst (λ (u : Update). Below (mark_of u) (mark_of (update_printed x.delivered.update))) a.update
    (below_mark (entries.mark_of y.delivered.update.entry) (entries.mark_of x.delivered.update.entry)
    (above (one_member y.member x.member (named' ∙ who ∙ sym named) incarnation) q.position p.position b.place a.place b.timed a.timed)))

lines_below : (lines : List Line) → AllByRecursion IsNamed lines → InTurn TimedAbove lines → InTurn (λ (later earlier : Line). TimedBelow (shown_of earlier) (shown_of later)) lines
lines_below [] named turn = tt
lines_below (x ∷ older) named turn =
    (each_both IsNamed (TimedAbove x) (λ (y : Line). TimedBelow (shown_of y) (shown_of x)) older (λ y n above. timed_below x y named.0 n above) named.1 turn.0, lines_below older named.1 turn.1)

-- what a row passes is shown by it
pass_shown : (r : Row) (p : Pass) → In p r.passes → In (shown_by r (Passed p)) (shown_in r)
pass_shown r p i = in_map (shown_by r) (deliveries_in r) (Passed p) (pass_there r p i)

-- Rows of which each two such passes are in ascent are in timed order.
timed_of_turn : (rows : List Row) → RowsInTurn TimedBelow rows → TimedOrder rows
timed_of_turn rows turn i r at j s at' same k u is l v is' = go
  where
    passes_turn : InTurn (λ p q. TimedBelow (shown_by r (Passed p)) (shown_by r (Passed q))) r.passes
    passes_turn = turn_unmapped _ Passed r.passes (turn_first _ (map Passed r.passes) (map Early r.earlies) (turn_unmapped TimedBelow (shown_by r) (deliveries_in r) (turn.within i r at)))

    within : (a b : Update) → k < l → slice_get (timed r) k ≡ Some a → slice_get (timed r) l ≡ Some b → Below (mark_of a) (mark_of b)
    within a b less first then =
        let two = turn_picked (λ p q. TimedBelow (shown_by r (Passed p)) (shown_by r (Passed q))) is_timed_now (λ (p : Pass). p.update) r.passes k l a b passes_turn less first then in
        subst (λ (z : Update). Below (mark_of a) (mark_of z)) two.is_later
        (subst (λ (z : Update). Below (mark_of z) (mark_of two.later.update)) two.is (two.related refl refl two.earlier two.later refl refl two.passes two.passes_later))

    between : i < j → Below (mark_of u) (mark_of v)
    between less =
        let a = picked_at is_timed_now (λ (p : Pass). p.update) r.passes k u is in
        let b = picked_at is_timed_now (λ (p : Pass). p.update) s.passes l v is' in
        subst (λ (z : Update). Below (mark_of u) (mark_of z)) b.is
        (subst (λ (z : Update). Below (mark_of z) (mark_of b.item.update)) a.is
        (turn.between i j r s (shown_by r (Passed a.item)) (shown_by s (Passed b.item)) less at at' (pass_shown r a.item a.there) (pass_shown s b.item b.there)
        (ap (λ (m : Member). m.who) same) (ap (λ (m : Member). m.incarnation) same) a.item b.item refl refl a.passes b.passes))

    go : Below (i ∷ k ∷ []) (j ∷ l ∷ []) → Below (mark_of u) (mark_of v)
    go (inl less) = between less
    go (inr (place, inl less)) =
        let row : r ≡ s = same_Some r s (sym at ∙ ap (λ n. slice_get rows n) place ∙ at') in
        within u v less is (subst (λ (z : Row). slice_get (timed z) l ≡ Some v) (sym row) is')
    go (inr (place, inr (_, none))) = absurd none

-- Within an incarnation the timed updates that are passed with now come by their stamps, then their proposers, then their numbers,
-- in every schedule.
pub timed_order : {Content : Type 0} (meaning : Meaning Content) (team : Team) (past : List Step) → IsSound team → Admissible team past → TimedOrder (rows_of meaning team past)
timed_order meaning team past sound ok =
    timed_of_turn (rows_of meaning team past)
    (rows_in_turn meaning team past TimedBelow sound ok (lines_below (history team past).lines (lines_named meaning team past sound ok) (timed_lines team past sound ok)))
