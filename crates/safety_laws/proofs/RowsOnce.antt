-- Where the lines of a history are delivered once, so are the updates that rows show; and what a row passes as delivered earlier went
-- early in an earlier row.
use Rattle.std.proofs.Common.{◌≡◌, refl, sym, ap, subst, ◌∙◌, inl, inr, ◌⊎◌, ℕ, ◌≤◌, ◌<◌, Bool, true, false, cond, List, [], ◌∷◌, ◌++◌, map, filter, Some, slice_get, arith}
use Rattle.std.specs.List.{AllByRecursion}
use Rattle.std.proofs.lemmas.Bool.{cases_lt}
use Rattle.std.proofs.lemmas.Option.{same_Some}
use Rattle.tw_machine.specs.Types.{Kept, Member, Step, Team}
use Rattle.tw_types.specs.declared.outputs.How.TheVariants.{Earlier}
use Rattle.tw_types.specs.Items.{In}
use Rattle.tw_types.specs.Printed.{update_printed}
use Rattle.tw_types.specs.Row.{Row, Pass, Update}
use Rattle.tw_types.specs.Team.{IsSound}
use Rattle.tw_types.proofs.Appended.{in_map, of_map}
use Rattle.tw_machine.specs.Applied.{Meaning}
use Rattle.tw_machine.specs.History.{Line, history}
use Rattle.tw_machine.specs.Places.{Each, Exists}
use Rattle.tw_machine.specs.Rows.{rows_of}
use Rattle.tw_machine.specs.Run.{Place, AtPass, AtEarly, AtWait}
use Rattle.tw_machine.specs.SafeRows.{life_of, is_now, delivered}
use Rattle.tw_machine.specs.World.{Admissible}
use Rattle.safety_laws.specs.Early.{is_early, delivers, WentEarly, NotBoth, WentBefore, DeliveredOnce}
use Rattle.safety_laws.specs.Seen.{Delivery, Passed, Early, delivery_at, delivery_of, deliveries_in, IsLineOf, Shown, shown_by, shown_in, shown_of}
use Rattle.safety_laws.proofs.FirstDecisions.{one_member}
use Rattle.safety_laws.proofs.LinesOfRows.{passed_parts, early_parts, told_by, pass_there, IsNamed, lines_named}
use Rattle.safety_laws.proofs.LinesSeen.{lines_printed}
use Rattle.safety_laws.proofs.Lists.{of_each, each_from, each_both, of_append}
use Rattle.safety_laws.proofs.Marks.{went_more}
use Rattle.safety_laws.proofs.Places.{at_in, place_of}
use Rattle.safety_laws.proofs.RowsInTurn.{InTurn, turn_across, RowsInTurn, rows_in_turn}
use Rattle.safety_laws.proofs.TurnPlaces.{turn_unmapped, picked_at, turn_picked}

-- ---- what a row delivers

-- the update that is passed or goes early
abbrev update_of : Delivery → Update
update_of (Passed p) = p.update
update_of (Early u) = u

-- a delivery: an update that goes early, or is passed with now
abbrev is_delivery : Delivery → Bool
is_delivery (Passed p) = is_now p.how
is_delivery (Early u) = true

-- two of one member and one update aren't both deliveries
abbrev NotTwice : Shown → Shown → Type 0
NotTwice earlier later = earlier.who ≡ later.who → earlier.incarnation ≡ later.incarnation → (update_of earlier.delivery).id ≡ (update_of later.delivery).id
    → is_delivery earlier.delivery ≡ true → is_delivery later.delivery ≡ true → ⊥

-- Within an incarnation an update is delivered at one place of one row at most.
abbrev EachOnce : List Row → Type 0
EachOnce rows = Each rows (λ i r. Each rows (λ j s. life_of r ≡ life_of s →
    Each (delivered r) (λ k u. Each (delivered s) (λ l v. u.id ≡ v.id → (i ≡ j) × (k ≡ l)))))

-- What is passed as delivered earlier went early in an earlier row of its incarnation.
abbrev EachEarlyBefore : List Row → Type 0
EachEarlyBefore rows = Each rows (λ i r. Each r.passes (λ k p. p.how ≡ Earlier →
    Exists rows (λ j s. (j < i) × (life_of s ≡ life_of r) × Exists s.earlies (λ l u. u.id ≡ p.update.id))))

early_picked : (earlies : List Update) → map update_of (filter is_delivery (map Early earlies)) ≡ earlies
early_picked [] = refl
early_picked (u ∷ earlies) = ap (λ us. u ∷ us) (early_picked earlies)

all_picked : (passes : List Pass) (earlies : List Update) → map update_of (filter is_delivery (map Passed passes ++ map Early earlies)) ≡ map (λ (p : Pass). p.update) (filter (λ (p : Pass). is_now p.how) passes) ++ earlies
all_picked [] earlies = early_picked earlies
all_picked (p ∷ passes) earlies = go (is_now p.how) (all_picked passes earlies)
  where
    rest : List Delivery
    rest = filter is_delivery (map Passed passes ++ map Early earlies)

    now : List Pass
    now = filter (λ (p : Pass). is_now p.how) passes

    go : (b : Bool) → map update_of rest ≡ map (λ (p : Pass). p.update) now ++ earlies → map update_of (cond b (Passed p ∷ rest) rest) ≡ map (λ (p : Pass). p.update) (cond b (p ∷ now) now) ++ earlies
    go true same = ap (λ us. p.update ∷ us) same
    go false same = same

-- what a row delivers is what it shows of deliveries
delivered_is : (r : Row) → map update_of (filter is_delivery (deliveries_in r)) ≡ delivered r
delivered_is r = all_picked r.passes r.earlies

-- ---- from two deliveries to rows

delivery_shown : (r : Row) (y : Delivery) → In y (deliveries_in r) → In (shown_by r y) (shown_in r)
delivery_shown r y i = in_map (shown_by r) (deliveries_in r) y i

-- not at two places of a row,
not_within : (r : Row) (k l : ℕ) (u v : Update) → InTurn NotTwice (shown_in r) → k < l → slice_get (delivered r) k ≡ Some u → slice_get (delivered r) l ≡ Some v → u.id ≡ v.id → ⊥
not_within r k l u v turn less at then same =
    let two = turn_picked (λ a b. NotTwice (shown_by r a) (shown_by r b)) is_delivery update_of (deliveries_in r) k l u v (turn_unmapped NotTwice (shown_by r) (deliveries_in r) turn) less
    (subst (λ us. slice_get us k ≡ Some u) (sym (delivered_is r)) at) (subst (λ us. slice_get us l ≡ Some v) (sym (delivered_is r)) then) in
    two.related refl refl (ap (λ (z : Update). z.id) two.is ∙ same ∙ ap (λ (z : Update). z.id) (sym two.is_later)) two.passes two.passes_later

-- and not in two rows
not_between : (rows : List Row) (i j : ℕ) (r s : Row) (k l : ℕ) (u v : Update) → RowsInTurn NotTwice rows → i < j → slice_get rows i ≡ Some r → slice_get rows j ≡ Some s → life_of r ≡ life_of s
    → slice_get (delivered r) k ≡ Some u → slice_get (delivered s) l ≡ Some v → u.id ≡ v.id → ⊥
not_between rows i j r s k l u v turn less at at' life is is' same =
    let a = picked_at is_delivery update_of (deliveries_in r) k u (subst (λ us. slice_get us k ≡ Some u) (sym (delivered_is r)) is) in
    let b = picked_at is_delivery update_of (deliveries_in s) l v (subst (λ us. slice_get us l ≡ Some v) (sym (delivered_is s)) is') in
    turn.between i j r s (shown_by r a.item) (shown_by s b.item) less at at' (delivery_shown r a.item a.there) (delivery_shown s b.item b.there)
    (ap (λ (m : Member). m.who) life) (ap (λ (m : Member). m.incarnation) life) (ap (λ (z : Update). z.id) a.is ∙ same ∙ ap (λ (z : Update). z.id) (sym b.is)) a.passes b.passes

-- Rows of which no two show a delivery of one member and one update deliver each update once.
once_of_turn : (rows : List Row) → RowsInTurn NotTwice rows → EachOnce rows
once_of_turn rows turn i r at j s at' life k u is l v is' same = by (cases_lt i j) (cases_lt j i) (cases_lt k l) (cases_lt l k)
  where
    by : (i < j) ⊎ (j ≤ i) → (j < i) ⊎ (i ≤ j) → (k < l) ⊎ (l ≤ k) → (l < k) ⊎ (k ≤ l) → (i ≡ j) × (k ≡ l)
    by (inl less) b c d = absurd (not_between rows i j r s k l u v turn less at at' life is is' same)
    by (inr low) (inl less) c d = absurd (not_between rows j i s r l k v u turn less at' at (sym life) is' is (sym same))
    by (inr low) (inr high) (inl less) d =
        let row : s ≡ r = same_Some s r (sym at' ∙ ap (λ n. slice_get rows n) (omega (arith, low, high)) ∙ at) in
        absurd (not_within r k l u v (turn.within i r at) less is (subst (λ (z : Row). slice_get (delivered z) l ≡ Some v) row is') same)
    by (inr low) (inr high) (inr below) (inl less) =
        let row : s ≡ r = same_Some s r (sym at' ∙ ap (λ n. slice_get rows n) (omega (arith, low, high)) ∙ at) in
        absurd (not_within r l k v u (turn.within i r at) less (subst (λ (z : Row). slice_get (delivered z) l ≡ Some v) row is') is (sym same))
    by (inr low) (inr high) (inr below) (inr above) = (omega (arith, low, high), omega (arith, below, above))

-- ---- from lines to rows

-- a row prints a line's update,
update_at : (place : Place) (k : Kept) → update_of (delivery_at place k) ≡ update_printed k
update_at (AtPass position how) k = refl
update_at (AtEarly position) k = refl
update_at AtWait k = refl

-- and tells whether it is a delivery
delivers_at : (place : Place) (k : Kept) → is_delivery (delivery_at place k) ≡ delivers place
delivers_at (AtPass position how) k = refl
delivers_at (AtEarly position) k = refl
delivers_at AtWait k = refl

not_twice : (x y : Line) → IsNamed x → IsNamed y → NotBoth x y → NotTwice (shown_of y) (shown_of x)
not_twice x y named named' not_both who incarnation same is is' =
    not_both (sym (one_member y.member x.member (named' ∙ who ∙ sym named) incarnation))
    (sym (ap (λ (u : Update). u.id) (sym (update_at y.delivered.place y.delivered.update)) ∙ same ∙ ap (λ (u : Update). u.id) (update_at x.delivered.place x.delivered.update)))
    (sym (delivers_at x.delivered.place x.delivered.update) ∙ is') (sym (delivers_at y.delivered.place y.delivered.update) ∙ is)

lines_not_twice : (lines : List Line) → AllByRecursion IsNamed lines → DeliveredOnce lines → InTurn (λ (later earlier : Line). NotTwice (shown_of earlier) (shown_of later)) lines
lines_not_twice [] named once = tt
lines_not_twice (x ∷ older) named once =
    (each_both IsNamed (NotBoth x) (λ (y : Line). NotTwice (shown_of y) (shown_of x)) older (λ y n not_both. not_twice x y named.0 n not_both) named.1 once.0, lines_not_twice older named.1 once.2)

-- Where lines are delivered once, each update is delivered once within an incarnation, as rows show it.
pub rows_once : {Content : Type 0} (meaning : Meaning Content) (team : Team) (past : List Step) → IsSound team → Admissible team past → DeliveredOnce (history team past).lines → EachOnce (rows_of meaning team past)
rows_once meaning team past sound ok once =
    once_of_turn (rows_of meaning team past)
    (rows_in_turn meaning team past NotTwice sound ok (lines_not_twice (history team past).lines (lines_named meaning team past sound ok) once))

-- ---- what was delivered earlier

-- it went early among the lines
went_early : (lines : List Line) (x : Line) (position : ℕ) → DeliveredOnce lines → In x lines → x.delivered.place ≡ AtPass position Earlier → WentEarly lines x.member x.delivered.update.entry.id
went_early [] x position once i at = absurd i
went_early (y ∷ older) x position once (inl same) at = went_more older (y ∷ older) x.member x.delivered.update.entry.id (λ z i. inr i) (subst (WentBefore older) (sym same) once.1 position at)
went_early (y ∷ older) x position once (inr i) at = went_more older (y ∷ older) x.member x.delivered.update.entry.id (λ z i. inr i) (went_early older x position once.2 i at)

-- what is passed as delivered earlier doesn't go early after that
abbrev NotEarlyAfter : Shown → Shown → Type 0
NotEarlyAfter earlier later = earlier.who ≡ later.who → earlier.incarnation ≡ later.incarnation → (p : Pass) (u : Update) → earlier.delivery ≡ Passed p → later.delivery ≡ Early u
    → p.how ≡ Earlier → p.update.id ≡ u.id → ⊥

-- an early delivery is one
early_delivers : (place : Place) → is_early place ≡ true → delivers place ≡ true
early_delivers (AtPass position how) e = absurd (cc)
early_delivers (AtEarly position) e = refl
early_delivers AtWait e = refl

-- and printed as one
early_printed : (place : Place) (k : Kept) → is_early place ≡ true → delivery_at place k ≡ Early (update_printed k)
early_printed (AtPass position how) k e = absurd (cc)
early_printed (AtEarly position) k e = refl
early_printed AtWait k e = refl

not_early_after : (x : Line) (older : List Line) (y : Line) → IsNamed x → IsNamed y → AllByRecursion (NotBoth x) older → DeliveredOnce older → In y older → NotEarlyAfter (shown_of y) (shown_of x)
not_early_after x older y named named' not_both once i who incarnation p u is is' how same =
    let place = (passed_parts y.delivered.place y.delivered.update p is).0 ∙ ap (λ h. AtPass p.position h) how in
    let k = went_early older y p.position once i place in
    let early = early_parts x.delivered.place x.delivered.update u is' in
    let printed : update_printed y.delivered.update ≡ p.update = sym (update_at y.delivered.place y.delivered.update) ∙ ap update_of is in
    of_each (NotBoth x) older k.line not_both k.there
    (sym (k.member_is ∙ one_member y.member x.member (named' ∙ who ∙ sym named) incarnation))
    (sym (k.id_is ∙ ap (λ (z : Update). z.id) printed ∙ same ∙ ap (λ (z : Update). z.id) (sym early.1)))
    (early_delivers x.delivered.place early.0) (early_delivers k.line.delivered.place k.early)

lines_not_early : (lines : List Line) → AllByRecursion IsNamed lines → DeliveredOnce lines → InTurn (λ (later earlier : Line). NotEarlyAfter (shown_of earlier) (shown_of later)) lines
lines_not_early [] named once = tt
lines_not_early (x ∷ older) named once = (
  each_from (λ (y : Line). NotEarlyAfter (shown_of y) (shown_of x)) older (λ y i. not_early_after x older y named.0 (of_each IsNamed older y named.1 i) once.0 once.2 i),
  lines_not_early older named.1 once.2,
)

-- what a row shows as early is one of its early ones
of_early : (r : Row) (u : Update) → In (Early u) (deliveries_in r) → In u r.earlies
of_early r u i = go (of_append (Early u) (map Passed r.passes) (map Early r.earlies) i)
  where
    go : In (Early u) (map Passed r.passes) ⊎ In (Early u) (map Early r.earlies) → In u r.earlies
    go (inl j) = let k = of_map Passed r.passes (Early u) j in let e : Early u ≡ Passed k.0 = k.2 in absurd (cc)
    go (inr j) = let k = of_map Early r.earlies (Early u) j in let same : u ≡ k.0 = cc (k.2) in subst (λ z. In z r.earlies) (sym same) k.1

-- Where lines are delivered once, what a row passes as delivered earlier went early in an earlier row of its incarnation.
pub early_before : {Content : Type 0} (meaning : Meaning Content) (team : Team) (past : List Step) → IsSound team → Admissible team past → DeliveredOnce (history team past).lines → EachEarlyBefore (rows_of meaning team past)
early_before meaning team past sound ok once i r at k p is how = (j, s, at', (earlier, life, (here.0, u, here.1, same)))
  where
    lines : List Line
    lines = (history team past).lines

    -- the pass has a line,
    passed : In (Passed p) (deliveries_in r)
    passed = pass_there r p (at_in r.passes k p is)

    found : (x : Line) × In x lines × IsLineOf r x × (delivery_of x ≡ Passed p)
    found = told_by meaning team past sound ok i r at (Passed p) passed

    x : Line
    x = found.0

    -- before which its update went early,
    went : WentEarly lines x.member x.delivered.update.entry.id
    went = went_early lines x p.position once found.1 ((passed_parts x.delivered.place x.delivered.update p found.3).0 ∙ ap (λ h. AtPass p.position h) how)

    y : Line
    y = went.line

    -- as a row prints it
    printed : Exists (rows_of meaning team past) (λ j s. IsLineOf s y)
    printed = lines_printed meaning team past sound ok y went.there

    j : ℕ
    j = printed.0

    s : Row
    s = printed.1

    at' : slice_get (rows_of meaning team past) j ≡ Some s
    at' = printed.2

    u : Update
    u = update_printed y.delivered.update

    early_there : In (Early u) (deliveries_in s)
    early_there = subst (λ d. In d (deliveries_in s)) (early_printed y.delivered.place y.delivered.update went.early) printed.3.printed

    early_here : In u s.earlies
    early_here = of_early s u early_there

    here : (l : ℕ) × (slice_get s.earlies l ≡ Some u)
    here = place_of s.earlies u early_here

    same : u.id ≡ p.update.id
    same = went.id_is ∙ ap (λ (z : Update). z.id) (sym (update_at x.delivered.place x.delivered.update) ∙ ap update_of found.3)

    life : life_of s ≡ life_of r
    life = sym printed.3.member ∙ went.member_is ∙ found.2.member

    turn : RowsInTurn NotEarlyAfter (rows_of meaning team past)
    turn = rows_in_turn meaning team past NotEarlyAfter sound ok (lines_not_early lines (lines_named meaning team past sound ok) once)

    -- not in the same row, for there it comes behind the passes,
    not_here : i ≡ j → ⊥
    not_here place =
        let row : s ≡ r = same_Some s r (sym at' ∙ ap (λ n. slice_get (rows_of meaning team past) n) (sym place) ∙ at) in
        turn_across (λ a b. NotEarlyAfter (shown_by r a) (shown_by r b)) (map Passed r.passes) (map Early r.earlies) (Passed p) (Early u) (turn_unmapped NotEarlyAfter (shown_by r) (deliveries_in r) (turn.within i r at))
        (in_map Passed r.passes p (at_in r.passes k p is)) (in_map Early r.earlies u (subst (λ (z : Row). In u z.earlies) row early_here)) refl refl p u refl refl how (sym same)

    -- and not in a later one
    not_later : i < j → ⊥
    not_later less =
        turn.between i j r s (shown_by r (Passed p)) (shown_by s (Early u)) less at at' (delivery_shown r (Passed p) passed) (delivery_shown s (Early u) early_there)
        (ap (λ (m : Member). m.who) (sym life)) (ap (λ (m : Member). m.incarnation) (sym life)) p u refl refl how (sym same)

    earlier : j < i
    earlier = by (cases_lt j i) (cases_lt i j)
      where
        by : (j < i) ⊎ (i ≤ j) → (i < j) ⊎ (j ≤ i) → j < i
        by (inl less) b = less
        by (inr low) (inl more) = absurd (not_later more)
        by (inr low) (inr high) = absurd (not_here (omega (arith, low, high)))
