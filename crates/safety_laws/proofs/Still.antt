-- Below its promise a record says the same.
use Rattle.std.proofs.Common.{◌≡◌, sym, ap, subst, ◌∙◌, ℕ, suc, ◌≤◌, ◌<◌, List, ◌∷◌, arith}
use Rattle.tw_machine.specs.Types.{Team, Member, Report, Mode, Step}
use Rattle.tw_types.specs.Beliefs.{Belief, view_decision, log_length}
use Rattle.tw_types.specs.Decisions.{or_none}
use Rattle.tw_types.specs.Process.{Process, started}
use Rattle.tw_types.specs.Reports.{kind_of}
use Rattle.tw_machine.specs.History.{Promised, life, promise_item}
use Rattle.tw_machine.specs.Standing.{member_of}
use Rattle.tw_machine.specs.World.{world, Admissible}
use Rattle.safety_laws.specs.Effects.{Written, State, Here, Change}
use Rattle.safety_laws.specs.Laws.{Holds}
use Rattle.tw_types.specs.Items.{In}
use Rattle.safety_laws.specs.Names.{promise_name, IsNamed, IsOfLife, Present, Earlier, IsOwn, AreNamed}
use Rattle.safety_laws.specs.Promises.{OfPromises, OfPromiser, of_promises}
use Rattle.safety_laws.specs.Still.{SaysTheSame, StandsStill, still}
use Rattle.safety_laws.proofs.Induction.{start_by}
use Rattle.safety_laws.proofs.Delivers.{log_delivers}
use Rattle.safety_laws.proofs.Held.{may_take}
use Rattle.safety_laws.proofs.Lists.{of_each, each_from, each_weaker}
use Rattle.safety_laws.proofs.Names as names
use Rattle.safety_laws.proofs.Stack.{Stepping, RulesOver}

-- a promise of this member was given in this life, and no later one is greater
own_below : (team : Team) (steps : List Step) (w : Written) (who : ℕ) (p : Process) → OfPromises team steps w → OfPromiser steps w who p → (z : Promised) → In z w.promises → z.promise.report.member ≡ member_of p.identity → z.promise.number ≤ p.vote.promised
own_below team steps w who p known mine z i member = go (of_each (λ (v : Promised). v.who ≡ who → IsOfLife (life who steps) p mine.own.begun (promise_name v)) w.promises z mine.own.promises i by)
  where
    by : z.who ≡ who
    by = sym (of_each (λ (v : Promised). IsNamed steps (promise_name v)) w.promises z known.names.promises i).member ∙ ap (λ (m : Member). m.who) member ∙ mine.own.is

    go : IsOfLife (life who steps) p mine.own.begun (promise_name z) → z.promise.number ≤ p.vote.promised
    go (Present l incarnation) = of_each (λ (v : Promised). v.who ≡ who → v.life ≡ life who steps → v.promise.number ≤ p.vote.promised) w.promises z mine.latest.greatest i by l
    go (Earlier l incarnation t again) = absurd (let began = mine.own.began in let same = ap (λ (m : Member). m.incarnation) member in omega arith)

-- a record that is of the promised group is below no promise of its member
promised_still : (team : Team) (steps : List Step) (w : Written) (who : ℕ) (p q : Process) → OfPromises team steps w → OfPromiser steps w who p → q.identity ≡ p.identity → p.vote.promised ≤ (or_none (view_decision q.belief)).group → StandsStill w q
promised_still team steps w who p q known mine same high =
    each_from (λ (x : Promised). x.promise.report.member ≡ member_of q.identity → (or_none (view_decision q.belief)).group < x.promise.number → SaysTheSame q x) w.promises
    (λ z i member low. absurd (let below = own_below team steps w who p known mine z i (member ∙ ap member_of same) in omega arith))

begins : (team : Team) (past : List Step) (s : Step) (w : Written) (mode : Mode) → Admissible team (s ∷ past) → s.act ≡ start_by mode → life s.who (s ∷ past) ≡ suc (life s.who past) → AreNamed past w → StandsStill w (started s.who mode s.h)
begins team past s w mode ok act more k =
    each_from (λ (x : Promised). x.promise.report.member ≡ member_of (started s.who mode s.h).identity → (or_none (view_decision (started s.who mode s.h).belief)).group < x.promise.number → SaysTheSame (started s.who mode s.h) x) w.promises
    (λ z i member low. absurd (none z i member))
  where
    own : IsOwn (s ∷ past) w s.who (started s.who mode s.h)
    own = names.begins team past s w mode ok act more k

    none : (z : Promised) → In z w.promises → z.promise.report.member ≡ member_of (started s.who mode s.h).identity → ⊥
    none z i member = go (of_each (λ (v : Promised). v.who ≡ s.who → IsOfLife (life s.who (s ∷ past)) (started s.who mode s.h) own.begun (promise_name v)) w.promises z own.promises i by)
      where
        named : IsNamed past (promise_name z)
        named = of_each (λ (v : Promised). IsNamed past (promise_name v)) w.promises z k.promises i

        by : z.who ≡ s.who
        by = sym named.member ∙ ap (λ (m : Member). m.who) member

        go : IsOfLife (life s.who (s ∷ past)) (started s.who mode s.h) own.begun (promise_name z) → ⊥
        go (Present l incarnation) = let low : z.life ≤ life s.who past = subst (λ q. z.life ≤ life q past) by named.life in omega arith
        go (Earlier l incarnation t again) = let same = ap (λ (m : Member). m.incarnation) member in omega arith

changes : (team : Team) (past : List Step) (s : Step) (here : Here) (x y : State) → Stepping team past s here → Change here x y → Holds (of_promises team) (s ∷ past) (world team past) s.who x → Holds still (s ∷ past) (world team past) s.who x → Holds still (s ∷ past) (world team past) s.who y
changes team past s here x y at change before k = go change
  where
    me : here.step.who ≡ s.who
    me = ap (λ (e : Step). e.who) at.same_step

    -- a process that reports what it did
    same_record : (w : Written) (p q : Process) → q.identity ≡ p.identity → q.belief ≡ p.belief → log_length q.log ≡ log_length p.log → StandsStill w p → StandsStill w q
    same_record w p q identity belief length all = each_weaker (λ (x : Promised). x.promise.report.member ≡ member_of p.identity → (or_none (view_decision p.belief)).group < x.promise.number → SaysTheSame p x)
        (λ (x : Promised). x.promise.report.member ≡ member_of q.identity → (or_none (view_decision q.belief)).group < x.promise.number → SaysTheSame q x) w.promises
        (λ z f member low. let same = f (member ∙ ap member_of identity) (subst (λ (b : Belief). (or_none (view_decision b)).group < z.promise.number) belief low) in record {
          kind = ap kind_of belief ∙ same.kind;
          group = ap (λ (b : Belief). (or_none (view_decision b)).group) belief ∙ same.group;
          turn = ap (λ (b : Belief). (or_none (view_decision b)).turn) belief ∙ same.turn;
          length = length ∙ same.length;
        }) all

    same_lists : y.written.promises ≡ x.written.promises → StandsStill x.written y.process → Holds still (s ∷ past) (world team past) s.who y
    same_lists eq own = record { history = tt; own = rw eq own; others = λ q p other runs. rw eq (k.others q p other runs) }

    go : Change here x y → Holds still (s ∷ past) (world team past) s.who y
    go (Change.Keep c) = same_lists c.promises (same_record x.written x.process y.process c.identity c.belief (ap log_length c.log) k.own)
    go (Change.Hold c) = same_lists (ap (λ (w : Written). w.promises) c.written) (same_record x.written x.process y.process (ap (λ (p : Process). p.identity) c.process) (ap (λ (p : Process). p.belief) c.process) (ap (λ (p : Process). log_length p.log) c.process) k.own)
    go (Change.Deliver c) = same_lists (ap (λ (w : Written). w.promises) c.written)
        (same_record x.written x.process y.process (ap (λ (p : Process). p.identity) c.process) (ap (λ (p : Process). p.belief) c.process) (log_delivers here x y c).same_length k.own)
    go (Change.Raise c) = same_lists (ap (λ (w : Written). w.promises) c.written) (same_record x.written x.process y.process (ap (λ (p : Process). p.identity) c.process) (ap (λ (p : Process). p.belief) c.process) (ap (λ (p : Process). log_length p.log) c.process) k.own)
    go (Change.Take c) =
        let group : (or_none (view_decision y.process.belief)).group ≡ c.taken_decision.group = ap (λ (p : Process). (or_none (view_decision p.belief)).group) c.process in
        same_lists (ap (λ (w : Written). w.promises) c.written) (promised_still team (s ∷ past) x.written s.who x.process y.process before.history before.own (ap (λ (p : Process). p.identity) c.process) (let promised = (may_take here x c.taken_decision c.source before.own.held).promised in omega arith))
    go (Change.Make c) =
        let group : (or_none (view_decision y.process.belief)).group ≡ c.making.decision.group = ap (λ (p : Process). (or_none (view_decision p.belief)).group) c.process in
        same_lists (ap (λ (w : Written). w.promises) c.written) (promised_still team (s ∷ past) x.written s.who x.process y.process before.history before.own (ap (λ (p : Process). p.identity) c.process) (let promised = c.group in omega arith))
    go (Change.Give c) =
        let new = promise_item here.life here.step c.given in
        let eq : y.written.promises ≡ new ∷ x.written.promises = ap (λ (w : Written). w.promises) c.written in
        let belief : y.process.belief ≡ x.process.belief = ap (λ (p : Process). p.belief) c.process in
        record {
          history = tt;
          own = rw eq (
            (λ member low. record {
              kind = ap kind_of belief ∙ sym (ap (λ (r : Report). r.kind) c.report);
              group = ap (λ (b : Belief). (or_none (view_decision b)).group) belief ∙ sym (ap (λ (r : Report). r.group) c.report);
              turn = ap (λ (b : Belief). (or_none (view_decision b)).turn) belief ∙ sym (ap (λ (r : Report). r.turn) c.report);
              length = ap (λ (p : Process). log_length p.log) c.process ∙ sym (ap (λ (r : Report). r.length) c.report);
            }),
            same_record x.written x.process y.process (ap (λ (p : Process). p.identity) c.process) belief (ap (λ (p : Process). log_length p.log) c.process) k.own,
          );
          others = λ q p other runs. rw eq ((λ member low. absurd (other (sym (ap (λ (r : Report). r.member.who) c.report ∙ before.own.own.is) ∙ ap (λ (m : Member). m.who) member ∙ (before.others q p other runs).own.is))), k.others q p other runs);
        }

pub still_rules : (team : Team) → RulesOver team (of_promises team) still
still_rules team = record {
  nothing = tt;
  waits = λ past s w sound ok before k. tt;
  remains = λ past s w who p sound ok same before h own k. k;
  begins = λ past s w mode sound ok act more before k. begins team past s w mode ok act more before.names;
  changes = λ past s here x y at mailed change before after k. changes team past s here x y at change before k;
}
