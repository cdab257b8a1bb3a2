-- Promised is the latest.
use Rattle.std.proofs.Common.{◌≡◌, ◌≢◌, refl, sym, ap, subst, ◌∙◌, inl, inr, ℕ, suc, ◌≤◌, List, ◌∷◌, arith}
use Rattle.tw_machine.specs.Types.{Team, Mode, Step}
use Rattle.tw_types.specs.Votes.{Vote}
use Rattle.tw_types.specs.Process.{Process, started}
use Rattle.tw_machine.specs.History.{Promised, life, promise_item}
use Rattle.tw_machine.specs.World.{world}
use Rattle.safety_laws.specs.Effects.{Written, State, Here, Change}
use Rattle.safety_laws.specs.Laws.{Holds}
use Rattle.safety_laws.specs.Names.{promise_name, IsNamed, AreNamed, names}
use Rattle.safety_laws.specs.Latest.{IsLatest, latest}
use Rattle.safety_laws.proofs.Lists.{each_weaker}
use Rattle.safety_laws.proofs.Stack.{Stepping, RulesOver}

begins : (past : List Step) (s : Step) (w : Written) (mode : Mode) → life s.who (s ∷ past) ≡ suc (life s.who past) → AreNamed past w → IsLatest (s ∷ past) w s.who (started s.who mode s.h)
begins past s w mode more k = record {
  greatest = each_weaker (λ (x : Promised). IsNamed past (promise_name x)) (λ (x : Promised). x.who ≡ s.who → x.life ≡ life s.who (s ∷ past) → x.promise.number ≤ 0) w.promises
      (λ x named mine same. absurd (none x.who x.life mine same named.life)) k.promises;
  promised = λ some. absurd (omega arith);
}
  where
    none : (who l : ℕ) → who ≡ s.who → l ≡ life s.who (s ∷ past) → l ≤ life who past → ⊥
    none who l mine same low = let here : l ≤ life s.who past = subst (λ q. l ≤ life q past) mine low in let now : l ≡ suc (life s.who past) = same ∙ more in omega arith

-- where neither the promises nor what is promised changes
same_promises : (steps : List Step) (w v : Written) (who : ℕ) (p q : Process) → v.promises ≡ w.promises → q.vote.promised ≡ p.vote.promised → IsLatest steps w who p → IsLatest steps v who q
same_promises steps w v who p q promises promised k = record { greatest = rw (promises, promised) k.greatest; promised = rw (promises, promised) k.promised }

-- another process's promise
other_promises : (steps : List Step) (w v : Written) (new : Promised) (q : ℕ) (p : Process) → v.promises ≡ new ∷ w.promises → new.who ≢ q → IsLatest steps w q p → IsLatest steps v q p
other_promises steps w v new q p promises other k = record {
  greatest = rw promises ((λ mine. absurd (other mine)), k.greatest);
  promised = λ some. let old = k.promised some in (old.0, rw promises (inr old.1), old.2, old.3, old.4);
}

changes : (team : Team) (past : List Step) (s : Step) (here : Here) (x y : State) → Stepping team past s here → Change here x y → Holds latest (s ∷ past) (world team past) s.who x → Holds latest (s ∷ past) (world team past) s.who y
changes team past s here x y at change k = go change
  where
    same : y.written.promises ≡ x.written.promises → y.process.vote.promised ≡ x.process.vote.promised → Holds latest (s ∷ past) (world team past) s.who y
    same promises promised = record {
      history = tt;
      own = same_promises (s ∷ past) x.written y.written s.who x.process y.process promises promised k.own;
      others = λ q p other runs. same_promises (s ∷ past) x.written y.written q p p promises refl (k.others q p other runs);
    }

    me : here.step.who ≡ s.who
    me = ap (λ (e : Step). e.who) at.same_step

    go : Change here x y → Holds latest (s ∷ past) (world team past) s.who y
    go (Change.Keep c) = same c.promises (ap (λ (v : Vote). v.promised) c.vote)
    go (Change.Give c) =
        let new = promise_item here.life here.step c.given in
        let promises : y.written.promises ≡ new ∷ x.written.promises = ap (λ (w : Written). w.promises) c.written in
        let now : y.process.vote.promised ≡ c.given.number = ap (λ (p : Process). p.vote.promised) c.process in
        record {
          history = tt;
          own = record {
            greatest = rw promises (
              (λ mine same. omega (arith, now)),
              each_weaker (λ (z : Promised). z.who ≡ s.who → z.life ≡ life s.who (s ∷ past) → z.promise.number ≤ x.process.vote.promised)
                  (λ (z : Promised). z.who ≡ s.who → z.life ≡ life s.who (s ∷ past) → z.promise.number ≤ y.process.vote.promised) x.written.promises (λ z f mine same. let low = f mine same in let above = c.above in omega (arith, now)) k.own.greatest,
            );
            promised = λ some. (new, rw promises (inl refl), me, at.same_life, sym now);
          };
          others = λ q p other runs. other_promises (s ∷ past) x.written y.written new q p promises (λ mine. other (sym me ∙ mine)) (k.others q p other runs);
        }
    go (Change.Hold c) = same (ap (λ (w : Written). w.promises) c.written) (ap (λ (p : Process). p.vote.promised) c.process)
    go (Change.Take c) = same (ap (λ (w : Written). w.promises) c.written) (ap (λ (p : Process). p.vote.promised) c.process)
    go (Change.Make c) = same (ap (λ (w : Written). w.promises) c.written) (ap (λ (p : Process). p.vote.promised) c.process)
    go (Change.Deliver c) = same (ap (λ (w : Written). w.promises) c.written) (ap (λ (p : Process). p.vote.promised) c.process)
    go (Change.Raise c) = same (ap (λ (w : Written). w.promises) c.written) (ap (λ (p : Process). p.vote.promised) c.process)

pub latest_rules : (team : Team) → RulesOver team names latest
latest_rules team = record {
  nothing = tt;
  waits = λ past s w sound ok before k. tt;
  remains = λ past s w who p sound ok same before h own k. record { greatest = rw same k.greatest; promised = rw same k.promised };
  begins = λ past s w mode sound ok act more named k. begins past s w mode more named;
  changes = λ past s here x y at mailed change before after k. changes team past s here x y at change k;
}
