-- What is held to be taken may be taken while nothing is promised.
use Rattle.std.proofs.Common.{◌≡◌, refl, sym, ap, subst, ◌∙◌, Bool, true, false, not, cond, Option, Some, None}
use Rattle.std.specs.Option.{option_map}
use Rattle.tw_machine.specs.Types.{Team, Kept, Decision, Mode}
use Rattle.tw_types.specs.declared.outputs.Mode.TheVariants as modes
use Rattle.tw_types.specs.Beliefs.{Belief, view_decision}
use Rattle.tw_types.specs.Decisions.{or_none, is_older, has_seat}
use Rattle.tw_types.specs.Process.{Identity, Process, ToTake, ToGroup, Hold, started}
use Rattle.tw_types.specs.Waiting.{Held, Waiting, with_payload, released, settled_by}
use Rattle.std.proofs.lemmas.Option.{same_Some}
use Rattle.tw_machine.specs.Deciding.{supporting}
use Rattle.tw_machine.specs.Entering.{is_overtaken, entered}
use Rattle.tw_machine.specs.Standing.{member_of}
use Rattle.safety_laws.specs.Effects.{State, Here, held_decision, MayTake, Source, Comes, WasHeld, Waits, Stays, Puts, Fills, Goes, ForTaking, ForGroup, Change}
use Rattle.safety_laws.specs.Held.{IsHeldWell, HoldsWell, held}
use Rattle.safety_laws.proofs.Stack.{LawRules}

-- whatever the source, it meets what is asked of a decision that is taken
pub may_take : (here : Here) (x : State) (d : Decision) → Source here x d → HoldsWell x.process → MayTake x.process d
may_take here x d (Comes head mail may) well = may
may_take here x d (WasHeld hold is held purpose promised) well =
    let k = well d hold is held purpose in
    record { newer = k.newer; seat = k.seat; promised = k.promised ∙ promised }

-- ---- a decision is taken or made

-- what is held is let go, or stays and is above it
pub data HeldBelow (d : Decision) (p : Process) (o : Option Decision) (hold : Option Hold) : Type 0 where
  Left : o ≡ None → HeldBelow d p o hold
  Above : (h : Decision) → held_decision p ≡ Some h → o ≡ Some h → hold ≡ p.hold → is_older d.group d.turn h.group h.turn ≡ true → HeldBelow d p o hold

pub held_after : (d : Decision) (p : Process) → HeldBelow d p (held_decision (entered d p)) (entered d p).hold
held_after d p = go p.waiting.held refl
  where
    decision_of : Option Held → Option Decision
    decision_of o = option_map (λ (h : Held). h.decision) o

    by_test : (h : Held) → p.waiting.held ≡ Some h → (older : Bool) → is_older d.group d.turn h.decision.group h.decision.turn ≡ older
        → HeldBelow d p (decision_of (cond (not older) (released (settled_by d p.waiting)) (settled_by d p.waiting)).held) (cond (not older) None p.hold)
    by_test h is true e = Above h.decision (ap decision_of is) (ap decision_of is) refl e
    by_test h is false e = Left refl

    go : (o : Option Held) → p.waiting.held ≡ o → HeldBelow d p (decision_of (cond (is_overtaken d o) (released (settled_by d p.waiting)) (settled_by d p.waiting)).held) (cond (is_overtaken d o) None p.hold)
    go None is = Left (ap decision_of is)
    go (Some h) is = by_test h is (is_older d.group d.turn h.decision.group h.decision.turn) refl

-- the decision that waits
abbrev pub decision_waiting : Waiting → Option Decision
decision_waiting w = option_map (λ (h : Held). h.decision) w.held

-- a payload more leaves it what it was
pub filled_same : (k : Kept) (o : Option Held) → option_map (λ (z : Held). z.decision) (option_map (with_payload k) o) ≡ option_map (λ (z : Held). z.decision) o
filled_same k None = refl
filled_same k (Some h) = refl

-- ---- each effect

same_held : (p q : Process) → q.identity ≡ p.identity → q.belief ≡ p.belief → held_decision q ≡ held_decision p → q.hold ≡ p.hold → HoldsWell p → HoldsWell q
same_held p q identity belief is hold well d h e f purpose =
    let k = well d h (sym is ∙ e) (sym hold ∙ f) purpose in
    record {
      promised = k.promised;
      seat = subst (λ (i : Identity). has_seat (member_of i) d ≡ true) (sym identity) k.seat;
      newer = subst (λ (b : Belief). is_older (or_none (view_decision b)).group (or_none (view_decision b)).turn d.group d.turn ≡ true) (sym belief) k.newer;
    }

none_held : (p : Process) → held_decision p ≡ None → HoldsWell p
none_held p none d h e f purpose = absurd (let no : None ≡ Some d = sym none ∙ e in cc)

-- the process took this decision
last_held : (p q : Process) (d : Decision) → q.identity ≡ p.identity → view_decision q.belief ≡ Some d → HeldBelow d p (held_decision q) q.hold → HoldsWell p → HoldsWell q
last_held p q d identity view (Left none) well = none_held q none
last_held p q d identity view (Above x is stays hold newer) well = λ e h f g purpose.
    let same : x ≡ e = cc in
    let k = well x h is (sym hold ∙ g) purpose in
    subst (λ (z : Decision). IsHeldWell q z h) same (record {
      promised = k.promised;
      seat = subst (λ (i : Identity). has_seat (member_of i) x ≡ true) (sym identity) k.seat;
      newer = subst (λ (o : Option Decision). is_older (or_none o).group (or_none o).turn x.group x.turn ≡ true) (sym view) newer;
    })

changes : (here : Here) (x y : State) → Change here x y → HoldsWell x.process → HoldsWell y.process
changes here x y (Change.Keep c) well = go c.waits
  where
    go : Waits here x y → HoldsWell y.process
    go (Stays is hold) = same_held x.process y.process c.identity c.belief (ap decision_waiting is) hold well
    go (Puts u origin put is hold) = same_held x.process y.process c.identity c.belief (ap decision_waiting is) hold well
    go (Fills u origin put is hold) = same_held x.process y.process c.identity c.belief (ap decision_waiting is ∙ filled_same u x.process.waiting.held) hold well
    go (Goes is hold) = none_held y.process (ap decision_waiting is)
    go (ForTaking d from source is hold) = λ e h f g purpose.
        let may = may_take here x d source well in
        let same : d ≡ e = same_Some d e (sym (ap decision_waiting is) ∙ f) in
        let number : x.process.vote.promised ≡ h.promised = cc in
        subst (λ (z : Decision). IsHeldWell y.process z h) same (record {
          promised = may.promised ∙ number;
          seat = subst (λ (i : Identity). has_seat (member_of i) d ≡ true) (sym c.identity) may.seat;
          newer = subst (λ (b : Belief). is_older (or_none (view_decision b)).group (or_none (view_decision b)).turn d.group d.turn ≡ true) (sym c.belief) may.newer;
        })
    go (ForGroup ballot best from there told number is hold) = λ e h f g purpose. absurd (let no : ToGroup ≡ ToTake = cc in cc)
changes here x y (Change.Give c) well = same_held x.process y.process (ap (λ (p : Process). p.identity) c.process) (ap (λ (p : Process). p.belief) c.process) (ap held_decision c.process) (ap (λ (p : Process). p.hold) c.process) well
changes here x y (Change.Hold c) well = same_held x.process y.process (ap (λ (p : Process). p.identity) c.process) (ap (λ (p : Process). p.belief) c.process) (ap held_decision c.process) (ap (λ (p : Process). p.hold) c.process) well
changes here x y (Change.Deliver c) well = same_held x.process y.process (ap (λ (p : Process). p.identity) c.process) (ap (λ (p : Process). p.belief) c.process) (ap held_decision c.process) (ap (λ (p : Process). p.hold) c.process) well
changes here x y (Change.Raise c) well = rw c.process well
changes here x y (Change.Take c) well = rw c.process (last_held x.process (entered c.taken_decision x.process) c.taken_decision refl refl (held_after c.taken_decision x.process) well)
changes here x y (Change.Make c) well =
    rw c.process (last_held x.process (record (entered c.making.decision (supporting c.t x.process)) { ballot = y.process.ballot }) c.making.decision refl refl (held_after c.making.decision x.process) well)

begins : (who h : _) (mode : Mode) → HoldsWell (started who mode h)
begins who h modes.First = none_held (started who modes.First h) refl
begins who h modes.Again = none_held (started who modes.Again h) refl

pub held_rules : (team : Team) → LawRules team held
held_rules team = record {
  nothing = tt;
  waits = λ past s w sound ok before k. tt;
  remains = λ past s w who p sound ok same before h own k. k;
  begins = λ past s w mode sound ok act more before k. begins s.who s.h mode;
  changes = λ past s here x y at mailed change before after k. record { history = tt; own = changes here x y change k.own; others = k.others };
}
