-- Below its promise a process reports the same, and only informed ones promise.
use Rattle.std.proofs.Common.{◌≡◌, refl, sym, ap, subst, ◌∙◌, Bool, true, false, ◌||◌, ◌<◌, List, ◌∷◌, Some}
use Rattle.std.specs.List.{AllByRecursion}
use Rattle.tw_machine.specs.Types.{Team, Member, Report, Mode, Step}
use Rattle.tw_types.specs.declared.outputs.Mode.TheVariants as modes
use Rattle.tw_types.specs.Beliefs.{Belief, Informed, Blank, is_informed, view_decision}
use Rattle.tw_types.specs.Decisions.{or_none, has_seat}
use Rattle.tw_types.specs.Process.{Process, started}
use Rattle.tw_types.specs.Reports.{kind_of, is_by_informed}
use Rattle.tw_machine.specs.History.{Promised, promise_item}
use Rattle.tw_machine.specs.Standing.{member_of, last_decision}
use Rattle.tw_machine.specs.World.{world}
use Rattle.safety_laws.specs.Effects.{Written, State, Here, Promises, Change}
use Rattle.safety_laws.specs.Groups.{OfMember, of_groups}
use Rattle.safety_laws.specs.Laws.{Holds}
use Rattle.safety_laws.specs.Made.{HasSeat}
use Rattle.safety_laws.specs.Reported.{ReportsAgain, IsSeated, IsInformedPromise, HasNothing, AreReports, reported}
use Rattle.safety_laws.specs.Still.{SaysTheSame}
use Rattle.safety_laws.proofs.Lists.{each_weaker}
use Rattle.safety_laws.proofs.Stack.{RulesOver}
use Rattle.safety_laws.proofs.MadeLists.{has_last}

-- the report of an informed process is by an informed one
by_informed : (belief : Belief) (r : Report) → r.kind ≡ kind_of belief → is_informed belief ≡ true → is_by_informed r ≡ true
by_informed (Informed last) r kind informed = rw kind refl
by_informed (Blank followed) r kind informed = absurd (cc)

-- a process that was just started has nothing where it isn't informed
begins : (who h : _) (mode : Mode) → HasNothing (started who mode h)
begins who h modes.First lost = absurd (cc)
begins who h modes.Again lost = (refl, refl)

module _ (team : Team) (steps : List Step) (here : Here) (x y : State) (who : _) (known : OfMember team steps x.written who x.process) (c : Promises here x y) where
  -- the new promise
  abbrev new : Promised
  new = promise_item here.life here.step c.given

  -- nothing is given to a blank process yet, so it isn't able to promise
  informed : is_informed x.process.belief ≡ true
  informed = go (is_informed x.process.belief) refl c.able
    where
      go : (b : Bool) → is_informed x.process.belief ≡ b → (b || false) ≡ true → is_informed x.process.belief ≡ true
      go true e able = e
      go false e able = absurd (cc)

  -- it reports what its member did with an earlier promise, if it isn't in that one's group yet
  again : AllByRecursion (ReportsAgain new) x.written.promises
  again = each_weaker (λ (z : Promised). z.promise.report.member ≡ member_of x.process.identity → (or_none (view_decision x.process.belief)).group < z.promise.number → SaysTheSame x.process z) (ReportsAgain new) x.written.promises
      (λ z f member low.
      let same = f (member ∙ ap (λ (r : Report). r.member) c.report) (subst (λ (r : Report). r.group < z.promise.number) c.report low) in record {
        kind = ap (λ (r : Report). r.kind) c.report ∙ same.kind;
        group = ap (λ (r : Report). r.group) c.report ∙ same.group;
        turn = ap (λ (r : Report). r.turn) c.report ∙ same.turn;
        length = ap (λ (r : Report). r.length) c.report ∙ same.length;
      }) known.still

  -- it has a seat in the decision that it tells
  seated : IsSeated new
  seated d is =
      let last : last_decision x.process ≡ Some d = sym c.decision ∙ is in
      let seat : has_seat (member_of x.process.identity) d ≡ true = subst (HasSeat steps x.written who x.process) last (known.maker.seat informed) in
      subst (λ (m : Member). has_seat m d ≡ true) (sym (ap (λ (r : Report). r.member) c.report)) seat

  -- and is by an informed process
  is_informed_promise : IsInformedPromise new
  is_informed_promise = by_informed x.process.belief c.given.report (ap (λ (r : Report). r.kind) c.report) informed

  -- so all stays as it was said of promises
  given_well : AreReports x.written → AreReports (record (x.written) { promises = new ∷ x.written.promises })
  given_well k = record { still = (again, k.still); seated = (seated, k.seated); informed = (is_informed_promise, k.informed) }

-- of the same promises the same holds
same_promises : (w v : Written) → v.promises ≡ w.promises → AreReports w → AreReports v
same_promises w v same k = record { still = rw same k.still; seated = rw same k.seated; informed = rw same k.informed }

-- of a process with the same belief and list too
same_process : (p q : Process) → q.belief ≡ p.belief → q.log ≡ p.log → HasNothing p → HasNothing q
same_process p q belief log k lost = let has = k (ap is_informed (sym belief) ∙ lost) in (log ∙ has.0, ap view_decision belief ∙ has.1)

-- and nothing is asked of one that is informed
is_known : (p : Process) → is_informed p.belief ≡ true → HasNothing p
is_known p informed lost = absurd (cc)

-- each effect; only a promise adds a report, and only what makes a process informed changes its belief
changes : (team : Team) (past : List Step) (s : Step) (here : Here) (x y : State) → Change here x y → Holds (of_groups team) (s ∷ past) (world team past) s.who x → Holds reported (s ∷ past) (world team past) s.who x → Holds reported (s ∷ past) (world team past) s.who y
changes team past s here x y change before k = go change
  where
    go : Change here x y → Holds reported (s ∷ past) (world team past) s.who y
    go (Change.Keep c) = record { history = same_promises x.written y.written c.promises k.history; own = same_process x.process y.process c.belief c.log k.own; others = k.others }
    go (Change.Give c) = record {
      history = rw c.written (given_well team (s ∷ past) here x y s.who before.own c k.history);
      own = same_process x.process y.process (ap (λ (p : Process). p.belief) c.process) (ap (λ (p : Process). p.log) c.process) k.own;
      others = k.others;
    }
    go (Change.Hold c) = record { history = rw c.written k.history; own = same_process x.process y.process (ap (λ (p : Process). p.belief) c.process) (ap (λ (p : Process). p.log) c.process) k.own; others = k.others }
    go (Change.Raise c) = record { history = same_promises x.written y.written (ap (λ (w : Written). w.promises) c.written) k.history; own = rw c.process k.own; others = k.others }
    go (Change.Deliver c) = record { history = rw c.written (record { still = k.history.still; seated = k.history.seated; informed = k.history.informed }); own = is_known y.process (ap (λ (p : Process). is_informed p.belief) c.process ∙ has_last x.process c.last c.last_is); others = k.others }
    go (Change.Take c) = record { history = rw c.written k.history; own = is_known y.process (ap (λ (p : Process). is_informed p.belief) c.process); others = k.others }
    go (Change.Make c) = record { history = same_promises x.written y.written (ap (λ (w : Written). w.promises) c.written) k.history; own = is_known y.process (ap (λ (p : Process). is_informed p.belief) c.process); others = k.others }

-- below its promise a process reports the same, in every schedule
pub reported_rules : (team : Team) → RulesOver team (of_groups team) reported
reported_rules team = record {
  nothing = record { still = tt; seated = tt; informed = tt };
  waits = λ past s w sound ok before k. k;
  remains = λ past s w who p sound ok same before h own k. k;
  begins = λ past s w mode sound ok act more before k. begins s.who s.h mode;
  changes = λ past s here x y at mailed change before after k. changes team past s here x y change before k;
}
