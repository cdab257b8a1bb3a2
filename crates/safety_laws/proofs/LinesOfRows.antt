-- Each delivery that a row prints is told by a line of the history.
use Rattle.std.proofs.Common.{◌≡◌, refl, sym, ap, subst, inl, inr, ◌⊎◌, ℕ, Bool, true, false, cond, nat_eq, List, [], ◌∷◌, ◌++◌, map, Some, slice_get, ◌∙◌}
use Rattle.std.specs.List.{AllByRecursion}
use Rattle.tw_machine.specs.Types.{Kept, Member, Step, Team}
use Rattle.tw_types.specs.Items.{In}
use Rattle.tw_types.specs.Printed.{update_printed}
use Rattle.tw_types.specs.Row.{Pass, Row, Update}
use Rattle.tw_types.specs.Team.{IsSound}
use Rattle.tw_types.proofs.Appended.{in_map, of_map}
use Rattle.tw_machine.specs.Applied.{Meaning}
use Rattle.tw_machine.specs.History.{Line, history}
use Rattle.tw_machine.specs.Rows.{rows_of}
use Rattle.tw_machine.specs.Run.{Place, AtPass, AtEarly, AtWait}
use Rattle.tw_machine.specs.SafeRows.{life_of}
use Rattle.tw_machine.specs.World.{Admissible}
use Rattle.safety_laws.specs.Early.{is_early}
use Rattle.safety_laws.specs.Seen.{Delivery, Passed, Early, delivery_at, delivery_of, deliveries_in, IsLineOf, lines_of, AreLinesOf}
use Rattle.safety_laws.proofs.LinesSeen.{row_lines_seen, lines_printed}
use Rattle.safety_laws.proofs.Lists.{of_each, of_append, in_first, in_last, each_from}
use Rattle.safety_laws.proofs.Places.{at_in}

-- ---- a line of a delivery

-- the line tells this pass of a row
pub record IsPassOf (r : Row) (p : Pass) (x : Line) : Type 0 where
  pub member : x.member ≡ life_of r
  pub group : x.delivered.group ≡ r.group
  pub place : x.delivered.place ≡ AtPass p.position p.how
  pub update : update_printed x.delivered.update ≡ p.update

-- the line tells this early delivery of a row
pub record IsEarlyOf (r : Row) (u : Update) (x : Line) : Type 0 where
  pub member : x.member ≡ life_of r
  pub group : x.delivered.group ≡ r.group
  pub place : is_early x.delivered.place ≡ true
  pub update : update_printed x.delivered.update ≡ u

-- the member of a line is of the process whose line it is
abbrev pub IsNamed : Line → Type 0
IsNamed x = x.member.who ≡ x.who

-- ---- what is printed of a line

pub passed_parts : (place : Place) (k : Kept) (p : Pass) → delivery_at place k ≡ Passed p → (place ≡ AtPass p.position p.how) × (update_printed k ≡ p.update)
passed_parts (AtPass position how) k p e =
    let same : record { position = position; update = update_printed k; how = how } ≡ p = cc in
    (ap (λ (q : Pass). AtPass q.position q.how) same, ap (λ (q : Pass). q.update) same)
passed_parts (AtEarly position) k p e = absurd (cc)
passed_parts AtWait k p e = absurd (cc)

pub early_parts : (place : Place) (k : Kept) (u : Update) → delivery_at place k ≡ Early u → (is_early place ≡ true) × (update_printed k ≡ u)
early_parts (AtPass position how) k u e = absurd (cc)
early_parts (AtEarly position) k u e = (refl, cc)
early_parts AtWait k u e = (refl, cc)

-- a line that bears a row's number is one of the lines
of_lines : (number : ℕ) (lines : List Line) (x : Line) → In x (lines_of number lines) → In x lines
of_lines number [] x i = i
of_lines number (y ∷ older) x i = go (nat_eq y.row number) (of_lines number older x) i
  where
    by : (In x (lines_of number older) → In x older) → In x (lines_of number older) ⊎ In x (y ∷ []) → In x (y ∷ older)
    by rest (inl j) = inr (rest j)
    by rest (inr (inl e)) = inl e
    by rest (inr (inr none)) = absurd none

    go : (b : Bool) → (In x (lines_of number older) → In x older) → In x (cond b (lines_of number older ++ y ∷ []) (lines_of number older)) → In x (y ∷ older)
    go true rest j = by rest (of_append x (lines_of number older) (y ∷ []) j)
    go false rest j = inr (rest j)

-- ---- what a row shows

pub pass_there : (r : Row) (p : Pass) → In p r.passes → In (Passed p) (deliveries_in r)
pass_there r p i = in_first (Passed p) (map Passed r.passes) (map Early r.earlies) (in_map Passed r.passes p i)

early_there : (r : Row) (u : Update) → In u r.earlies → In (Early u) (deliveries_in r)
early_there r u i = in_last (Early u) (map Passed r.passes) (map Early r.earlies) (in_map Early r.earlies u i)

-- ---- in every schedule

-- a line of a row, with what the row prints of it
pub told_by : {Content : Type 0} (meaning : Meaning Content) (team : Team) (past : List Step) → IsSound team → Admissible team past → (i : ℕ) (r : Row) → slice_get (rows_of meaning team past) i ≡ Some r
    → (y : Delivery) → In y (deliveries_in r) → (x : Line) × In x (history team past).lines × IsLineOf r x × (delivery_of x ≡ y)
told_by meaning team past sound ok i r at y there =
    let seen : AreLinesOf r (lines_of r.step (history team past).lines) = row_lines_seen meaning team past sound ok i r at in
    let k = of_map delivery_of (lines_of r.step (history team past).lines) y (subst (In y) (sym seen.whole) there) in
    (k.0, of_lines r.step (history team past).lines k.0 k.1, of_each (IsLineOf r) (lines_of r.step (history team past).lines) k.0 seen.each k.1, sym k.2)

-- Each pass that a row prints is told by a line.
pub pass_told : {Content : Type 0} (meaning : Meaning Content) (team : Team) (past : List Step) → IsSound team → Admissible team past → (i : ℕ) (r : Row) → slice_get (rows_of meaning team past) i ≡ Some r
    → (k : ℕ) (p : Pass) → slice_get r.passes k ≡ Some p → (x : Line) × In x (history team past).lines × IsPassOf r p x
pass_told meaning team past sound ok i r at k p at' =
    let t = told_by meaning team past sound ok i r at (Passed p) (pass_there r p (at_in r.passes k p at')) in
    let parts = passed_parts t.0.delivered.place t.0.delivered.update p t.3 in
    (t.0, t.1, record { member = t.2.member; group = t.2.group; place = parts.0; update = parts.1 })

-- And so is each early delivery.
pub early_told : {Content : Type 0} (meaning : Meaning Content) (team : Team) (past : List Step) → IsSound team → Admissible team past → (i : ℕ) (r : Row) → slice_get (rows_of meaning team past) i ≡ Some r
    → (k : ℕ) (u : Update) → slice_get r.earlies k ≡ Some u → (x : Line) × In x (history team past).lines × IsEarlyOf r u x
early_told meaning team past sound ok i r at k u at' =
    let t = told_by meaning team past sound ok i r at (Early u) (early_there r u (at_in r.earlies k u at')) in
    let parts = early_parts t.0.delivered.place t.0.delivered.update u t.3 in
    (t.0, t.1, record { member = t.2.member; group = t.2.group; place = parts.0; update = parts.1 })

-- Each line's member is of its process.
pub lines_named : {Content : Type 0} (meaning : Meaning Content) (team : Team) (past : List Step) → IsSound team → Admissible team past → AllByRecursion IsNamed (history team past).lines
lines_named meaning team past sound ok = each_from IsNamed (history team past).lines (λ x i. let e = lines_printed meaning team past sound ok x i in ap (λ (m : Member). m.who) e.3.member ∙ sym e.3.who)
