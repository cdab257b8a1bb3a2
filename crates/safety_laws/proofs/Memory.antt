-- A process remembers or outlived its supports.
use Rattle.std.proofs.Common.{◌≡◌, ◌≢◌, sym, ap, subst, ◌∙◌, ℕ, suc, ◌≤◌, true, false, List, ◌∷◌, Some, None, arith}
use Rattle.tw_machine.specs.Types.{Team, Member, Mode, Step}
use Rattle.tw_types.specs.Beliefs.{is_informed}
use Rattle.tw_types.specs.Process.{Process, started}
use Rattle.tw_types.specs.Votes.{Vote}
use Rattle.tw_machine.specs.History.{life, make_item}
use Rattle.tw_machine.specs.History as items
use Rattle.tw_machine.specs.Standing.{member_of}
use Rattle.tw_machine.specs.World.{world, Admissible}
use Rattle.safety_laws.specs.Effects.{Written, State, Here, Change}
use Rattle.safety_laws.specs.Laws.{Holds}
use Rattle.safety_laws.specs.Memory.{IsAtLeast, Remembers, memory}
use Rattle.safety_laws.specs.Names.{make_name, IsNamed, IsOfLife, Present, Earlier, AreNamed}
use Rattle.safety_laws.specs.NotAhead.{IsAtMost, make_reading}
use Rattle.safety_laws.specs.Promises.{of_promises}
use Rattle.safety_laws.proofs.Induction.{start_by}
use Rattle.safety_laws.proofs.Lists.{each_from, each_weaker, of_each}
use Rattle.safety_laws.proofs.Names as names
use Rattle.safety_laws.proofs.Stack.{Stepping, RulesOver}

begins : (team : Team) (past : List Step) (s : Step) (w : Written) (mode : Mode) → Admissible team (s ∷ past) → s.act ≡ start_by mode → life s.who (s ∷ past) ≡ suc (life s.who past) → AreNamed past w → Remembers (s ∷ past) w s.who (started s.who mode s.h)
begins team past s w mode ok act more k = record {
  support = each_weaker (λ (d : items.Make). IsNamed past (make_name d)) (λ (d : items.Make). d.who ≡ s.who → d.life ≡ life s.who (s ∷ past) → IsAtLeast (make_reading d) None) w.makes
      (λ d named mine same. absurd (not_now d.who d.life mine same named.life)) k.makes;
  blank = λ lost. each_from (λ (d : items.Make). d.who ≡ s.who → d.member ≢ member_of (started s.who mode s.h).identity) w.makes (λ d i mine same.
      let named = of_each (λ (v : items.Make). IsNamed past (make_name v)) w.makes d k.makes i in
      let own = names.begins team past s w mode ok act more k in
      older d own.begun mine named (of_each (λ (v : items.Make). v.who ≡ s.who → IsOfLife (life s.who (s ∷ past)) (started s.who mode s.h) own.begun (make_name v)) w.makes d own.makes i mine) (ap (λ (m : Member). m.incarnation) same));
}
  where
    not_now : (who l : ℕ) → who ≡ s.who → l ≡ life s.who (s ∷ past) → l ≤ life who past → ⊥
    not_now who l mine same low = let here : l ≤ life s.who past = subst (λ q. l ≤ life q past) mine low in let now : l ≡ suc (life s.who past) = same ∙ more in omega arith

    older : (d : items.Make) (begun : ℕ) → d.who ≡ s.who → IsNamed past (make_name d) → IsOfLife (life s.who (s ∷ past)) (started s.who mode s.h) begun (make_name d) → d.member.incarnation ≢ s.h
    older d begun mine named (Present l incarnation) = absurd (not_now d.who d.life mine l named.life)
    older d begun mine named (Earlier l incarnation t again) = λ same. omega arith

changes : (team : Team) (past : List Step) (s : Step) (here : Here) (x y : State) → Stepping team past s here → Change here x y → Holds (of_promises team) (s ∷ past) (world team past) s.who x
    → Holds memory (s ∷ past) (world team past) s.who x → Holds memory (s ∷ past) (world team past) s.who y
changes team past s here x y at change before k = go change
  where
    -- nothing was made
    same : y.written.makes ≡ x.written.makes → y.process.vote.support ≡ x.process.vote.support → y.process.identity ≡ x.process.identity → (is_informed y.process.belief ≡ false → is_informed x.process.belief ≡ false)
        → Holds memory (s ∷ past) (world team past) s.who y
    same makes support identity blank = record {
      history = tt;
      own = record { support = rw (makes, support) k.own.support; blank = λ lost. rw (makes, identity) (k.own.blank (blank lost)) };
      others = λ q p other runs. let o = k.others q p other runs in record { support = rw makes o.support; blank = λ lost. rw makes (o.blank lost) };
    }

    me : here.step.who ≡ s.who
    me = ap (λ (e : Step). e.who) at.same_step

    go : Change here x y → Holds memory (s ∷ past) (world team past) s.who y
    go (Change.Keep c) = same c.makes (ap (λ (v : Vote). v.support) c.vote) c.identity (λ lost. ap is_informed (sym c.belief) ∙ lost)
    go (Change.Give c) = same (ap (λ (w : Written). w.makes) c.written) (ap (λ (p : Process). p.vote.support) c.process) (ap (λ (p : Process). p.identity) c.process) (λ lost. ap (λ (p : Process). is_informed p.belief) (sym c.process) ∙ lost)
    go (Change.Hold c) = same (ap (λ (w : Written). w.makes) c.written) (ap (λ (p : Process). p.vote.support) c.process) (ap (λ (p : Process). p.identity) c.process) (λ lost. ap (λ (p : Process). is_informed p.belief) (sym c.process) ∙ lost)
    go (Change.Take c) = same (ap (λ (w : Written). w.makes) c.written) (ap (λ (p : Process). p.vote.support) c.process) (ap (λ (p : Process). p.identity) c.process)
        (λ lost. absurd (let informed : true ≡ false = ap (λ (p : Process). is_informed p.belief) (sym c.process) ∙ lost in cc))
    go (Change.Deliver c) = same (ap (λ (w : Written). w.makes) c.written) (ap (λ (p : Process). p.vote.support) c.process) (ap (λ (p : Process). p.identity) c.process) (λ lost. ap (λ (p : Process). is_informed p.belief) (sym c.process) ∙ lost)
    go (Change.Raise c) = same (ap (λ (w : Written). w.makes) c.written) (ap (λ (p : Process). p.vote.support) c.process) (ap (λ (p : Process). p.identity) c.process) (λ lost. ap (λ (p : Process). is_informed p.belief) (sym c.process) ∙ lost)
    go (Change.Make c) =
        let new = make_item (member_of x.process.identity) here.life here.step x.written.makes c.making in
        let makes : y.written.makes ≡ new ∷ x.written.makes = ap (λ (w : Written). w.makes) c.written in
        let support : y.process.vote.support ≡ Some c.t = ap (λ (p : Process). p.vote.support) c.process in
        record {
          history = tt;
          own = record {
            support = rw makes (
              (λ mine same. rw (support, c.made) (omega arith)),
              each_weaker (λ (d : items.Make). d.who ≡ s.who → d.life ≡ life s.who (s ∷ past) → IsAtMost (make_reading d) x.process.timing.clock.greatest) (λ (d : items.Make). d.who ≡ s.who → d.life ≡ life s.who (s ∷ past) → IsAtLeast (make_reading d) y.process.vote.support) x.written.makes
                  (λ d f mine same. rw support (let low : IsAtMost (make_reading d) (Some c.t) = subst (IsAtMost (make_reading d)) c.read (f mine same) in low)) before.own.behind.makes,
            );
            blank = λ lost. absurd (let informed : true ≡ false = ap (λ (p : Process). is_informed p.belief) (sym c.process) ∙ lost in cc);
          };
          others = λ q p other runs. let o = k.others q p other runs in record {
            support = rw makes ((λ mine. absurd (other (sym me ∙ mine))), o.support);
            blank = λ lost. rw makes ((λ mine. absurd (other (sym me ∙ mine))), o.blank lost);
          };
        }

pub memory_rules : (team : Team) → RulesOver team (of_promises team) memory
memory_rules team = record {
  nothing = tt;
  waits = λ past s w sound ok before k. tt;
  remains = λ past s w who p sound ok same before h own k. record { support = rw same k.support; blank = k.blank };
  begins = λ past s w mode sound ok act more before k. begins team past s w mode ok act more before.names;
  changes = λ past s here x y at mailed change before after k. changes team past s here x y at change before k;
}
