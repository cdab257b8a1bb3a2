-- Who delivered took a decision before.
use Rattle.std.proofs.Common.{◌≡◌, sym, ap, subst, ◌∙◌, ℕ, ◌≤◌, List, ◌∷◌, Option, Some}
use Rattle.std.specs.List.{AllByRecursion}
use Rattle.tw_machine.specs.Types.{Team, Decision, Step}
use Rattle.tw_types.specs.Beliefs.{last_of}
use Rattle.tw_types.specs.Decisions.{or_none}
use Rattle.tw_types.specs.Process.{Process, started}
use Rattle.tw_machine.specs.Delivering.{all_told}
use Rattle.tw_machine.specs.History.{Line, line_item}
use Rattle.tw_machine.specs.History as items
use Rattle.tw_machine.specs.Run.{Delivered}
use Rattle.tw_machine.specs.Standing.{member_of}
use Rattle.tw_machine.specs.World.{world}
use Rattle.tw_machine.proofs.Tables.{all_of}
use Rattle.safety_laws.specs.Delivered.{IsNamedLine, delivered}
use Rattle.safety_laws.specs.Effects.{Written, State, Here, Delivers, Change}
use Rattle.safety_laws.specs.Groups.{OfGroups, OfMember}
use Rattle.safety_laws.specs.HasLine.{HasLastIfOwn, lines_have_last}
use Rattle.safety_laws.specs.Laws.{Law, Holds, Both}
use Rattle.safety_laws.specs.Made.{WasMade, WasMadeIfAny}
use Rattle.safety_laws.proofs.DeliveryLaws.{with_delivered, delivered_too}
use Rattle.safety_laws.proofs.ListLaws.{with_beginnings}
use Rattle.safety_laws.proofs.Lists.{of_each, each_weaker}
use Rattle.safety_laws.proofs.MadeLists.{viewed}
use Rattle.safety_laws.proofs.Passed.{none_of_started, line_of_none_else}
use Rattle.safety_laws.proofs.PassedLists.{each_line}
use Rattle.safety_laws.proofs.Stack.{LawRules, RulesOver, stack, first_of}
use Rattle.safety_laws.proofs.Turns.{all_positive}

-- what a process has as its last decision is of a group
pub last_positive : (team : Team) (steps : List Step) (w : Written) (who : ℕ) (p : Process) (d : Decision) → OfGroups team steps w → OfMember team steps w who p → last_of p.belief ≡ Some d → 1 ≤ d.group
last_positive team steps w who p d known mine is =
    let made : WasMade w.makes d = subst (WasMadeIfAny w.makes) (viewed p.belief d is) mine.maker.keeps.view in
    subst (λ (z : Decision). 1 ≤ z.group) made.2 (of_each (λ (m : items.Make). 1 ≤ m.making.decision.group) w.makes made.0 (all_positive team w.promises w.makes known.makes.arise) made.1)

module _ (team : Team) (past : List Step) (s : Step) (here : Here) (x y : State)
    (before : Holds (with_delivered team) (s ∷ past) (world team past) s.who x) (after : Holds (with_delivered team) (s ∷ past) (world team past) s.who y) (k : Holds lines_have_last (s ∷ past) (world team past) s.who x) where
  -- where nothing is delivered and the belief is the same
  still : y.written.lines ≡ x.written.lines → y.process.identity ≡ x.process.identity → y.process.belief ≡ x.process.belief → Holds lines_have_last (s ∷ past) (world team past) s.who y
  still lines identity belief = record { history = tt; own = rw (lines, identity, belief) k.own; others = λ q r other runs. rw lines (k.others q r other runs) }

  -- where it has this last decision then
  with_last_decision : (d : Decision) → last_of y.process.belief ≡ Some d → AllByRecursion (HasLastIfOwn y.process) y.written.lines
  with_last_decision d is = all_of (HasLastIfOwn y.process) y.written.lines (λ l same.
      subst (λ (o : Option Decision). 1 ≤ (or_none o).group) (sym is) (last_positive team (s ∷ past) y.written s.who y.process d after.history.0.0.0.0.0.0 after.own.0.0.0.0.0.0 is))

  -- where nothing is delivered
  enters : (d : Decision) → y.written.lines ≡ x.written.lines → last_of y.process.belief ≡ Some d → Holds lines_have_last (s ∷ past) (world team past) s.who y
  enters d lines is = record { history = tt; own = with_last_decision d is; others = λ q r other runs. rw lines (k.others q r other runs) }

  -- where something is
  delivers : (c : Delivers here x y) → Holds lines_have_last (s ∷ past) (world team past) s.who y
  delivers c = record {
    history = tt;
    own = with_last_decision c.last (ap (λ (p : Process). last_of p.belief) c.process ∙ c.last_is);
    others = λ q r other runs. rw c.written (each_line (HasLastIfOwn r) here.row (member_of x.process.identity) here.life here.step (all_told here.team c.last x.process.log x.process.waiting.pending) x.written.lines
        (all_of (λ (z : Delivered). HasLastIfOwn r (line_item here.row (member_of x.process.identity) here.life here.step z)) (all_told here.team c.last x.process.log x.process.waiting.pending)
        (λ z same. absurd (line_of_none_else team past s x (first_of (with_beginnings team) (delivered team) (s ∷ past) (world team past) s.who x before) q r other runs same)))
        (k.others q r other runs));
  }

  -- whatever the effect
  changed : Change here x y → Holds lines_have_last (s ∷ past) (world team past) s.who y
  changed (Change.Keep c) = still c.lines c.identity c.belief
  changed (Change.Give c) = still (ap (λ (w : Written). w.lines) c.written) (ap (λ (p : Process). p.identity) c.process) (ap (λ (p : Process). p.belief) c.process)
  changed (Change.Hold c) = still (ap (λ (w : Written). w.lines) c.written) (ap (λ (p : Process). p.identity) c.process) (ap (λ (p : Process). p.belief) c.process)
  changed (Change.Raise c) = still (ap (λ (w : Written). w.lines) c.written) (ap (λ (p : Process). p.identity) c.process) (ap (λ (p : Process). p.belief) c.process)
  changed (Change.Deliver c) = delivers c
  changed (Change.Take c) = enters c.taken_decision (ap (λ (w : Written). w.lines) c.written) (ap (λ (p : Process). last_of p.belief) c.process)
  changed (Change.Make c) = enters c.making.decision (ap (λ (w : Written). w.lines) c.written) (ap (λ (p : Process). last_of p.belief) c.process)

-- in every schedule
has_line_rules : (team : Team) → RulesOver team (with_delivered team) lines_have_last
has_line_rules team = record {
  nothing = tt;
  waits = λ past s w sound ok before k. tt;
  remains = λ past s w who p sound ok same before h own k. k;
  begins = λ past s w mode sound ok act more before k.
      each_weaker (IsNamedLine past) (HasLastIfOwn (started s.who mode s.h)) w.lines (λ x named same. absurd (none_of_started team past s mode ok act x named same)) before.1.named;
  changes = λ past s here x y at mailed change before after k. changed team past s here x y before after k change;
}

-- the laws on what is delivered, with that
abbrev pub with_last : Team → Law
with_last team = Both (with_delivered team) lines_have_last

pub last_too : (team : Team) → LawRules team (with_last team)
last_too team = stack team (with_delivered team) lines_have_last (delivered_too team) (has_line_rules team)
