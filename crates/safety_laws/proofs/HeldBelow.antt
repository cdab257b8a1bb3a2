-- What is held for a group is below it.
use Rattle.std.proofs.Common.{◌≡◌, refl, sym, ap, subst, ◌∙◌, ℕ, ◌<◌, ◌≤◌, ◌∷◌, List, Option, Some, None, true, arith}
use Rattle.std.specs.List.{AllByRecursion}
use Rattle.tw_machine.specs.Types.{Team, Ballot, Decision, Report, Mode, Step}
use Rattle.tw_types.specs.declared.outputs.Mode.TheVariants as modes
use Rattle.tw_types.specs.Process.{Process, ToTake, ToGroup, started}
use Rattle.tw_types.specs.Reports.{is_by_informed}
use Rattle.std.proofs.lemmas.Option.{same_Some}
use Rattle.tw_machine.specs.Deciding.{supporting}
use Rattle.tw_machine.specs.Entering.{entered}
use Rattle.tw_machine.specs.History.{Promised, Make}
use Rattle.tw_machine.specs.World.{world}
use Rattle.safety_laws.specs.Effects.{State, Here, held_decision, Waits, Stays, Puts, Fills, Goes, ForTaking, ForGroup, Change}
use Rattle.safety_laws.specs.Groups.{of_groups}
use Rattle.safety_laws.specs.Held.{HoldsBelow, held_below}
use Rattle.safety_laws.specs.Laws.{Holds}
use Rattle.safety_laws.specs.Made.{IsBest, BallotHolds, TellsDecision, TellsLast, WasReported}
use Rattle.safety_laws.proofs.Held.{HeldBelow, Left, Above, held_after, decision_waiting, filled_same}
use Rattle.safety_laws.proofs.Lists.{of_each}
use Rattle.safety_laws.proofs.Stack.{RulesOver}

-- ---- a ballot's best decision

-- a report that names a decision is of a lower group than its promise
told_below : (makes : List Make) (z : Promised) (o : Option Decision) → TellsLast makes z o → 1 ≤ z.promise.report.group → z.promise.report.group < z.promise.number
told_below makes z None tells positive = absurd (let none = tells.0 in omega arith)
told_below makes z (Some d) tells positive = let same = tells.2 in let low = tells.4 in omega arith

-- the best one is of a lower group than the ballot
pub best_below : (makes : List Make) (promises : List Promised) (ballot : Ballot) (best : Decision) → AllByRecursion (TellsDecision makes) promises
    → AllByRecursion (WasReported promises ballot.number) ballot.reports.items → IsBest ballot.reports.items ballot.best → ballot.best ≡ Some best → best.group < ballot.number
best_below makes promises ballot best tells reported is_best is =
    let told = is_best.told best is in
    let z = of_each (WasReported promises ballot.number) ballot.reports.items told.0 reported told.1 in
    let informed : is_by_informed z.0.promise.report ≡ true = ap is_by_informed z.4 ∙ told.2 in
    let group : z.0.promise.report.group ≡ best.group = ap (λ (r : Report). r.group) z.4 ∙ told.3 in
    let positive = is_best.positive best is in
    let low = told_below makes z.0 z.0.promise.decision ((of_each (TellsDecision makes) promises z.0 tells z.1).informed informed) (omega arith) in
    let number = z.3 in
    omega arith

-- ---- each effect

same_below : (p q : Process) → held_decision q ≡ held_decision p → q.hold ≡ p.hold → HoldsBelow p → HoldsBelow q
same_below p q is hold below d h e f purpose = below d h (sym is ∙ e) (sym hold ∙ f) purpose

none_below : (p : Process) → held_decision p ≡ None → HoldsBelow p
none_below p none d h e f purpose = absurd (let no : None ≡ Some d = sym none ∙ e in cc)

-- the process took this decision
last_below : (p q : Process) (d : Decision) → HeldBelow d p (held_decision q) q.hold → HoldsBelow p → HoldsBelow q
last_below p q d (Left none) below = none_below q none
last_below p q d (Above x is stays hold newer) below = same_below p q (stays ∙ sym is) hold below

changes : (team : Team) (past : List Step) (s : Step) (here : Here) (x y : State) → Change here x y
    → Holds (of_groups team) (s ∷ past) (world team past) s.who x → HoldsBelow x.process → HoldsBelow y.process
changes team past s here x y (Change.Keep c) before below = go c.waits
  where
    go : Waits here x y → HoldsBelow y.process
    go (Stays is hold) = same_below x.process y.process (ap decision_waiting is) hold below
    go (Puts u origin put is hold) = same_below x.process y.process (ap decision_waiting is) hold below
    go (Fills u origin put is hold) = same_below x.process y.process (ap decision_waiting is ∙ filled_same u x.process.waiting.held) hold below
    go (Goes is hold) = none_below y.process (ap decision_waiting is)
    go (ForTaking d from source is hold) = λ e h f g purpose. absurd (let no : ToTake ≡ ToGroup = cc in cc)
    go (ForGroup ballot best from there told number is hold) = λ e h f g purpose.
        let same : best ≡ e = same_Some best e (sym (ap decision_waiting is) ∙ f) in
        let promised : x.process.vote.promised ≡ h.promised = cc in
        let b : BallotHolds team (s ∷ past) x.written s.who x.process ballot = before.own.maker.ballot ballot there in
        let low = best_below x.written.makes x.written.promises ballot best before.history.makes.tells b.promised b.best told in
        subst (λ (z : Decision). z.group < h.promised) same (omega (arith, low, number, promised))
changes team past s here x y (Change.Give c) before below = same_below x.process y.process (ap held_decision c.process) (ap (λ (p : Process). p.hold) c.process) below
changes team past s here x y (Change.Hold c) before below = same_below x.process y.process (ap held_decision c.process) (ap (λ (p : Process). p.hold) c.process) below
changes team past s here x y (Change.Deliver c) before below = same_below x.process y.process (ap held_decision c.process) (ap (λ (p : Process). p.hold) c.process) below
changes team past s here x y (Change.Raise c) before below = rw c.process below
changes team past s here x y (Change.Take c) before below = rw c.process (last_below x.process (entered c.taken_decision x.process) c.taken_decision (held_after c.taken_decision x.process) below)
changes team past s here x y (Change.Make c) before below =
    rw c.process (last_below x.process (record (entered c.making.decision (supporting c.t x.process)) { ballot = y.process.ballot }) c.making.decision (held_after c.making.decision x.process) below)

begins : (who h : ℕ) (mode : Mode) → HoldsBelow (started who mode h)
begins who h modes.First = none_below (started who modes.First h) refl
begins who h modes.Again = none_below (started who modes.Again h) refl

pub held_below_rules : (team : Team) → RulesOver team (of_groups team) held_below
held_below_rules team = record {
  nothing = tt;
  waits = λ past s w sound ok before k. tt;
  remains = λ past s w who p sound ok same before h own k. k;
  begins = λ past s w mode sound ok act more before k. begins s.who s.h mode;
  changes = λ past s here x y at mailed change before after k. record { history = tt; own = changes team past s here x y change before k.own; others = k.others };
}
