-- Where two rows have one group, what their processes passed so far agrees at each position.
use Rattle.std.proofs.Common.{◌≡◌, ◌↔◌, refl, sym, ap, subst, ◌∙◌, ℕ, ◌≤◌, ◌<◌, true, List, [], ◌∷◌, ◌++◌, map, length, Option, Some, None, slice_get, arith}
use Rattle.std.proofs.lemmas.Option.{slice_get_within}
use Rattle.tw_machine.specs.Types.{Decision, Kept, How, Step, Team}
use Rattle.tw_types.specs.declared.outputs.How.TheVariants.{Late}
use Rattle.tw_types.specs.Decisions.{or_none}
use Rattle.tw_types.specs.Deliveries.{how_passed}
use Rattle.tw_types.specs.Items.{In}
use Rattle.tw_types.specs.Printed.{update_printed}
use Rattle.tw_types.specs.Process.{Process}
use Rattle.tw_types.specs.Row.{Pass, Row}
use Rattle.tw_types.specs.Team.{IsSound}
use Rattle.tw_machine.specs.Applied.{Meaning}
use Rattle.tw_machine.specs.History.{Line, Make, history}
use Rattle.tw_machine.specs.Places.{Each}
use Rattle.tw_machine.specs.Rows.{columns, row_of, rows_of}
use Rattle.tw_machine.specs.SafeRows.{life_of, EachPassSoFar, Agree}
use Rattle.tw_machine.specs.Standing.{member_of, last_decision}
use Rattle.tw_machine.specs.World.{deed_in, world, Admissible}
use Rattle.safety_laws.specs.Beginnings.{unmarked}
use Rattle.safety_laws.specs.Delivered.{StandsPassed, IsPassedOf, IsBacked}
use Rattle.safety_laws.specs.Effects.{written}
use Rattle.safety_laws.specs.Groups.{OfGroups, OfMember}
use Rattle.safety_laws.specs.Made.{WasMade}
use Rattle.safety_laws.proofs.Begun.{have_lists}
use Rattle.safety_laws.proofs.ClockLaw.{own_after}
use Rattle.safety_laws.proofs.DeliveryLaws.{with_delivered, delivered_well}
use Rattle.safety_laws.proofs.FirstDecisions.{one_member}
use Rattle.safety_laws.proofs.Induction.{earlier}
use Rattle.safety_laws.proofs.LinesOfRows.{IsPassOf, pass_told}
use Rattle.safety_laws.proofs.Lists.{of_each}
use Rattle.safety_laws.proofs.MadeLists.{More, last_made, some_last}
use Rattle.safety_laws.proofs.Passed.{own_list, passed_in}
use Rattle.safety_laws.proofs.PassedLists.{late_told}
use Rattle.safety_laws.proofs.Positions.{same_there}
use Rattle.safety_laws.proofs.Prefixes.{HaveLists}
use Rattle.safety_laws.proofs.Places.{each_pushed}
use Rattle.safety_laws.proofs.Stack.{Kept as Holding}
use Rattle.safety_laws.proofs.TablesOf.{makes_more}

-- ---- a pass and a list

-- The list has at the position of a pass what is passed, and it is passed as late just where it is late there.
pub record HasPass (list : List Kept) (p : Pass) : Type 0 where
  pub there : Kept
  pub at : slice_get list p.position ≡ Some there
  pub update : p.update ≡ update_printed there
  pub late : p.how ≡ Late ↔ there.entry.late ≡ true

-- a pass in a list that has there what the line of the pass tells
pub has_pass : (list : List Kept) (r : Row) (p : Pass) (x : Line) → IsPassOf r p x → slice_get list p.position ≡ Some (unmarked x.delivered.update) → p.how ≡ how_passed x.delivered.update → HasPass list p
has_pass list r p x is at how = record {
  there = unmarked x.delivered.update;
  at = at;
  update = sym is.update;
  late = subst (λ (h : How). h ≡ Late ↔ x.delivered.update.entry.late ≡ true) (sym how) (late_told x.delivered.update);
}

-- passes of one position in lists that have the same there agree
agree_there : (a b : List Kept) (p q : Pass) → (x : HasPass a p) → (y : HasPass b q) → x.there ≡ y.there → Agree p q
agree_there a b p q x y same = record {
  update = x.update ∙ ap update_printed same ∙ sym y.update;
  late = (
    λ e. y.late.1 (ap (λ (k : Kept). k.entry.late) (sym same) ∙ x.late.0 e),
    λ e. x.late.1 (ap (λ (k : Kept). k.entry.late) same ∙ y.late.0 e),
  );
}

-- ---- a row and a list

-- The list of a make of the row's group has all that the row's process passed so far.
record ListsPasses (makes : List Make) (rows : List Row) (i : ℕ) (r : Row) : Type 0 where
  make : Make
  made : In make makes
  group : make.making.decision.group ≡ r.group
  each : EachPassSoFar rows i r (λ p. HasPass make.log p)

-- still so with a row and makes more
lists_more : (makes more : List Make) (rows : List Row) (last : Row) (i : ℕ) (r : Row) → More makes more → i < length rows → ListsPasses makes rows i r → ListsPasses more (rows ++ last ∷ []) i r
lists_more makes more rows last i r all within k = record {
  make = k.make;
  made = all k.make k.made;
  group = k.group;
  each = each_pushed (λ j s. j ≤ i → life_of s ≡ life_of r → Each s.passes (λ n p. HasPass k.make.log p)) rows last k.each (λ low. absurd (omega (arith, low, within)));
}

-- ---- the row of a step

-- A row of a group is of a process that runs after the step with a last decision, which is of the group.
record RunsIn (team : Team) (h : ℕ) (before o : Option Process) : Type 0 where
  process : Process
  last : Decision
  runs : o ≡ Some process
  last_is : last_decision process ≡ Some last
  group : last.group ≡ (columns team h before o).group
  incarnation : process.identity.incarnation ≡ (columns team h before o).incarnation

runs_in : (team : Team) (h : ℕ) (before o : Option Process) → 1 ≤ (columns team h before o).group → RunsIn team h before o
runs_in team h before None some = absurd (omega (arith, some))
runs_in team h before (Some q) some =
    let last = some_last (last_decision q) some in
    record { process = q; last = last.0; runs = refl; last_is = last.1; group = ap (λ (o : Option Decision). (or_none o).group) (sym last.1); incarnation = refl }

module _ {Content : Type 0} (meaning : Meaning Content) (team : Team) (past : List Step) (s : Step) (sound : IsSound team) (ok : Admissible team (s ∷ past)) where
  -- all rows, with that of the step
  abbrev rows : List Row
  rows = rows_of meaning team (s ∷ past)

  -- which is
  abbrev last_row : Row
  last_row = row_of meaning team past s

  -- what is known then,
  all : Holding team (with_delivered team) (s ∷ past)
  all = delivered_well team (s ∷ past) sound ok

  -- and of promises and makes
  groups : OfGroups team (s ∷ past) (written team (s ∷ past))
  groups = all.history.0.0.0.0.0.0

  module _ (k : RunsIn team s.h ((world team past).process_of s.who) (deed_in team (world team past) s).process) where
    -- the process runs after the step
    runs_then : (world team (s ∷ past)).process_of s.who ≡ Some k.process
    runs_then = own_after team past s ∙ k.runs

    -- what is known of it
    mine : OfMember team (s ∷ past) (written team (s ∷ past)) s.who k.process
    mine = (all.running s.who k.process runs_then).0.0.0.0.0.0

    -- its last decision was made
    was : WasMade (history team (s ∷ past)).makes k.last
    was = last_made (history team (s ∷ past)).makes k.process k.last mine.maker.keeps k.last_is

    -- and has its list
    list_is : map unmarked k.process.log.entries ≡ was.0.log
    list_is = let own = all.running s.who k.process runs_then in own_list (history team (s ∷ past)).makes k.process k.last groups.once own.1.base own.0.1.1 k.last_is was

    -- the row prints the process's life
    life_is : life_of last_row ≡ member_of k.process.identity
    life_is = one_member (life_of last_row) (member_of k.process.identity) (sym mine.promiser.own.is) (sym k.incarnation)

    -- what it passed stands in the list of its last decision
    in_list : (position : ℕ) (update : Kept) → StandsPassed k.process position update → slice_get was.0.log position ≡ Some (unmarked update)
    in_list = passed_in k.process was.0.log (all.running s.who k.process runs_then).1.base list_is

    -- a pass of the process in its present life, by the line that tells it
    line_has : (r : Row) (p : Pass) (x : Line) → life_of r ≡ life_of last_row → In x (history team (s ∷ past)).lines → IsPassOf r p x → HasPass was.0.log p
    line_has r p x same i is =
        let passed = of_each (IsPassedOf k.process) (history team (s ∷ past)).lines x (all.running s.who k.process runs_then).1.passed i in
        let backed = of_each (IsBacked team (history team (s ∷ past)).makes) (history team (s ∷ past)).lines x all.history.1.backed i in
        has_pass was.0.log r p x is (in_list p.position x.delivered.update ((passed (is.member ∙ same ∙ life_is)).1 p.position p.how is.place)) (backed.passed p.position p.how is.place).1

    -- and so each of them
    last_lists : (i : ℕ) → ListsPasses (history team (s ∷ past)).makes rows i last_row
    last_lists i = record {
      make = was.0;
      made = was.1;
      group = ap (λ (d : Decision). d.group) was.2 ∙ k.group;
      each = λ j r at low same n p at'. let x = pass_told meaning team (s ∷ past) sound ok j r at n p at' in line_has r p x.0 same x.1 x.2;
    }

-- ---- in every schedule

-- Each row of a group has a make of it whose list has all that the row's process passed so far.
rows_list : {Content : Type 0} (meaning : Meaning Content) (team : Team) (past : List Step) → IsSound team → Admissible team past
    → Each (rows_of meaning team past) (λ i r. 1 ≤ r.group → ListsPasses (history team past).makes (rows_of meaning team past) i r)
rows_list meaning team [] sound ok = λ i r e. absurd (cc)
rows_list meaning team (s ∷ past) sound ok =
    each_pushed (λ i r. 1 ≤ r.group → ListsPasses (history team (s ∷ past)).makes (rows_of meaning team (s ∷ past)) i r) (rows_of meaning team past) (row_of meaning team past s)
    (λ i r at some. lists_more (history team past).makes (history team (s ∷ past)).makes (rows_of meaning team past) (row_of meaning team past s) i r (makes_more team past s) (slice_get_within (rows_of meaning team past) i r at)
    (rows_list meaning team past sound (earlier team past s ok) i r at some))
    (λ some. last_lists meaning team past s sound ok (runs_in team s.h ((world team past).process_of s.who) (deed_in team (world team past) s).process some) (length (rows_of meaning team past)))

-- Where two rows have one group, what their processes passed so far agrees at each position.
pub same_passes : {Content : Type 0} (meaning : Meaning Content) (team : Team) (past : List Step) → IsSound team → Admissible team past
    → Each (rows_of meaning team past) (λ i r. Each (rows_of meaning team past) (λ j s. 1 ≤ r.group → r.group ≡ s.group →
    EachPassSoFar (rows_of meaning team past) i r (λ p. EachPassSoFar (rows_of meaning team past) j s (λ q. p.position ≡ q.position → Agree p q))))
same_passes meaning team past sound ok i r at j s at' some group i' r' there low life n p here j' s' there' low' life' m q here' same =
    let all : Holding team (with_delivered team) past = delivered_well team past sound ok in
    let lists : HaveLists team (history team past).promises (history team past).makes = have_lists team past (written team past) all.history.0.0.0.0.0.0 all.history.0.0.1 in
    let a = rows_list meaning team past sound ok i r at some in
    let b = rows_list meaning team past sound ok j s at' (subst (λ g. 1 ≤ g) group some) in
    let x = a.each i' r' there low life n p here in
    let y = b.each j' s' there' low' life' m q here' in
    agree_there a.make.log b.make.log p q x y
    (same_there team (history team past).promises (history team past).makes lists a.make b.make a.made b.made (a.group ∙ group ∙ sym b.group) p.position x.there y.there x.at (ap (slice_get b.make.log) same ∙ y.at))
