-- The row of a make shows the make's group, and how long its list is.
use Rattle.std.proofs.Common.{◌≡◌, ◌≢◌, refl, sym, ap, subst, ◌∙◌, List, [], ◌∷◌, length, Option, Some, None}
use Rattle.std.proofs.lemmas.Option.{same_Some}
use Rattle.std.specs.Option.{option_map}
use Rattle.tw_machine.specs.Types.{Decision, Step, Team}
use Rattle.tw_types.specs.Beliefs.{log_length, view_decision}
use Rattle.tw_types.specs.Decisions.{or_none}
use Rattle.tw_types.specs.Items.{In}
use Rattle.tw_types.specs.Printed.{made_printed}
use Rattle.tw_types.specs.Process.{Process}
use Rattle.tw_types.specs.Row.{Row, Made}
use Rattle.tw_types.specs.Team.{IsSound}
use Rattle.tw_machine.specs.Applied.{Meaning}
use Rattle.tw_machine.specs.Event.{Event}
use Rattle.tw_machine.specs.History.{Make, list_of, history}
use Rattle.tw_machine.specs.Places.{Each, Exists}
use Rattle.tw_machine.specs.Rows.{columns, row_of, rows_of}
use Rattle.tw_machine.specs.SafeRows.{life_of}
use Rattle.tw_machine.specs.Standing.{last_decision}
use Rattle.tw_machine.specs.Step.{step}
use Rattle.tw_machine.specs.World.{Deed, deed_in, world, Admissible, happen}
use Rattle.safety_laws.specs.Seen.{IsMadeLineOf}
use Rattle.safety_laws.proofs.ClockLaw.{own_after}
use Rattle.safety_laws.proofs.FirstDecisions.{one_member}
use Rattle.safety_laws.proofs.GroupLaws.{agreed}
use Rattle.safety_laws.proofs.Induction.{earlier, Turn, turn, by_turn}
use Rattle.safety_laws.proofs.ListLaws.{with_beginnings, listed_well}
use Rattle.safety_laws.proofs.Lists.{of_each}
use Rattle.safety_laws.proofs.MadeLast.{step_made_last}
use Rattle.safety_laws.proofs.MadeLists.{viewed, has_last}
use Rattle.safety_laws.proofs.Places.{at_last, each_pushed}
use Rattle.safety_laws.proofs.Prefixes.{list_at_is}
use Rattle.safety_laws.proofs.Quorums.{HasOwnName}
use Rattle.safety_laws.proofs.Seen.{made_lines_seen, makes_printed}
use Rattle.safety_laws.proofs.Stack.{Kept as Holding}
use Rattle.safety_laws.proofs.TablesOf.{makes_more}
use Rattle.safety_laws.proofs.Turns.{once_same}

-- A row that prints a make is of its member, and has its group and the length of its list.
pub record ShowsMake (row : Row) (make : Make) : Type 0 where
  pub line : IsMadeLineOf row make
  pub member : life_of row ≡ make.member
  pub group : row.group ≡ make.making.decision.group
  pub length_is : row.length ≡ length make.log

-- ---- the row of a step

-- After a deed that printed this line a process runs whose last decision the line is.
record HasMade (line : Made) (d : Deed) : Type 0 where
  process : Process
  last : Decision
  runs : d.process ≡ Some process
  last_is : last_decision process ≡ Some last
  printed : line ≡ made_printed last

deed_made : (team : Team) (past : List Step) (s : Step) (d : Deed) → Turn team past s d → (line : Made) → option_map made_printed d.out.made ≡ Some line → HasMade line d
deed_made team past s d t line = by_turn team past s (λ (d : Deed). option_map made_printed d.out.made ≡ Some line → HasMade line d) d t
    (λ answer mute e. absurd (cc)) (λ p answer mute e. absurd (cc)) (λ event p runs brings. go event p (step team s.h event p).out.made refl)
  where
    go : (event : Event) (p : Process) → (o : Option Decision) → (step team s.h event p).out.made ≡ o → option_map made_printed o ≡ Some line → HasMade line (happen team s.h event p)
    go event p None is e = absurd (cc)
    go event p (Some last) is e = record {
      process = (step team s.h event p).process;
      last = last;
      runs = refl;
      last_is = step_made_last team s.h event p last is;
      printed = sym (same_Some (made_printed last) line e);
    }

module _ {Content : Type 0} (meaning : Meaning Content) (team : Team) (past : List Step) (s : Step) (sound : IsSound team) (ok : Admissible team (s ∷ past)) where
  -- the row of a step shows the make that it prints
  last_shows : (k : Make) → In k (history team (s ∷ past)).makes → IsMadeLineOf (row_of meaning team past s) k → ShowsMake (row_of meaning team past s) k
  last_shows k i line = record {
    line = line;
    member = sym (one_member k.member (life_of (row_of meaning team past s)) (of_each HasOwnName (history team (s ∷ past)).makes k (agreed team (s ∷ past) sound ok).named i ∙ line.who) line.incarnation);
    group = ap (λ (o : Option Process). (columns team s.h ((world team past).process_of s.who) o).group) made.runs ∙ ap (λ o. (or_none o).group) made.last_is ∙ sym group;
    length_is = ap (λ (o : Option Process). (columns team s.h ((world team past).process_of s.who) o).length) made.runs ∙ whole ∙ ap length list;
  }
    where
      made : HasMade (made_printed k.making.decision) (deed_in team (world team past) s)
      made = deed_made team past s (deed_in team (world team past) s) (turn team past s ok) (made_printed k.making.decision) line.line

      group : k.making.decision.group ≡ made.last.group
      group = ap (λ (m : Made). m.group) made.printed

      all : Holding team (with_beginnings team) (s ∷ past)
      all = listed_well team (s ∷ past) sound ok

      whole : log_length made.process.log ≡ length (list_of (history team (s ∷ past)).makes (view_decision made.process.belief))
      whole = (all.running s.who made.process (own_after team past s ∙ made.runs)).1.1.whole (has_last made.process made.last made.last_is)

      list : list_of (history team (s ∷ past)).makes (view_decision made.process.belief) ≡ k.log
      list = ap (list_of (history team (s ∷ past)).makes) (viewed made.process.belief made.last made.last_is)
          ∙ list_at_is (history team (s ∷ past)).makes all.history.0.0.0.0.0.once k i made.last.group made.last.turn group (ap (λ (m : Made). m.turn) made.printed)

-- ---- the rows of a schedule

-- each row that prints a make shows one
made_rows : {Content : Type 0} (meaning : Meaning Content) (team : Team) (past : List Step) → IsSound team → Admissible team past
    → Each (rows_of meaning team past) (λ i r. r.made ≢ None → (k : Make) × In k (history team past).makes × ShowsMake r k)
made_rows meaning team [] sound ok = λ i r e. absurd (cc)
made_rows meaning team (s ∷ past) sound ok =
    each_pushed (λ i r. r.made ≢ None → (k : Make) × In k (history team (s ∷ past)).makes × ShowsMake r k) (rows_of meaning team past) (row_of meaning team past s)
    (λ i r at has. let k = made_rows meaning team past sound (earlier team past s ok) i r at has in (k.0, makes_more team past s k.0 k.1, k.2))
    (λ has.
    let k = made_lines_seen meaning team (s ∷ past) ok (length (rows_of meaning team past)) (row_of meaning team past s) (at_last (rows_of meaning team past) (row_of meaning team past s)) has in
    (k.0, k.1, last_shows meaning team past s sound ok k.0 k.1 k.2))

-- Each make has a row that shows it.
pub makes_shown : {Content : Type 0} (meaning : Meaning Content) (team : Team) (past : List Step) → IsSound team → Admissible team past
    → (k : Make) → In k (history team past).makes → Exists (rows_of meaning team past) (λ i r. ShowsMake r k)
makes_shown meaning team past sound ok k i =
    let row = makes_printed meaning team past ok k i in
    let has : row.1.made ≢ None = λ e. (let no : Some (made_printed k.making.decision) ≡ None = sym row.3.line ∙ e in cc) in
    let m = made_rows meaning team past sound ok row.0 row.1 row.2 has in
    let line : made_printed m.0.making.decision ≡ made_printed k.making.decision = same_Some (made_printed m.0.making.decision) (made_printed k.making.decision) (sym m.2.line.line ∙ row.3.line) in
    let one : m.0 ≡ k = once_same (history team past).makes (listed_well team past sound ok).history.0.0.0.0.0.once m.0 k m.1 i (ap (λ (x : Made). x.group) line, ap (λ (x : Made). x.turn) line) in
    (row.0, row.1, row.2, subst (ShowsMake row.1) one m.2)
