-- The law on what was promised and made, of every schedule.
use Rattle.std.proofs.Common.{◌≡◌, ◌≢◌, refl, sym, ap, subst, ◌∙◌, ℕ, zero, suc, ◌≤◌, true, false, not, ◌||◌, List, ◌∷◌, Option, Some, None, arith}
use Rattle.tw_machine.specs.Types.{Team, Decision, Mode, Step}
use Rattle.tw_types.specs.declared.outputs.Mode.TheVariants as modes
use Rattle.tw_types.specs.Process.{Process, started}
use Rattle.tw_machine.specs.Admissible.{may_start}
use Rattle.tw_machine.specs.History.{Promised, Make, life}
use Rattle.tw_machine.specs.Standing.{last_decision}
use Rattle.tw_machine.specs.World.{Admissible}
use Rattle.safety_laws.specs.Effects.{Written}
use Rattle.safety_laws.specs.Made.{HasSeat, OfMaker, made}
use Rattle.safety_laws.specs.Names.{promise_name, make_name, IsNamed, AreNamed}
use Rattle.safety_laws.specs.Promises.{of_promises}
use Rattle.safety_laws.proofs.Induction.{start_by, follows, meets}
use Rattle.safety_laws.proofs.Lists.{each_weaker}
use Rattle.safety_laws.proofs.Made.{changed}
use Rattle.safety_laws.proofs.Names.{starts_by, is_again_later}
use Rattle.safety_laws.proofs.Stack.{RulesOver}

remains : (team : Team) (past : List Step) (s : Step) (w : Written) (who : ℕ) (p : Process) → life who (s ∷ past) ≡ life who past → OfMaker team past w who p → OfMaker team (s ∷ past) w who p
remains team past s w who p same k = record {
  keeps = k.keeps;
  seat = λ informed. seat_kept (last_decision p) (k.seat informed);
  ballot = λ b is. let h = k.ballot b is in record { owned = h.owned; informed = h.informed; distinct = h.distinct; below = h.below; promised = h.promised; own = rw same h.own; best = h.best };
}
  where
    seat_kept : (o : Option Decision) → HasSeat past w who p o → HasSeat (s ∷ past) w who p o
    seat_kept (Some d) h = h
    seat_kept None h = (same ∙ h.0, h.1, h.2)

-- a first start is of a process that never ran
pub first_life : (team : Team) (past : List Step) (s : Step) → Admissible team (s ∷ past) → s.act ≡ start_by modes.First → life s.who past ≡ 0
first_life team past s ok act = go (life s.who past) refl
  where
    may : may_start past s ≡ true
    may = ap (λ b. not b || may_start past s) (sym (starts_by s modes.First act)) ∙ (meets team past s (follows team past s ok)).start

    go : (l : ℕ) → life s.who past ≡ l → l ≡ 0
    go zero e = refl
    go (suc l) e = absurd (let again : false ≡ true = is_again_later past s modes.First act may (omega (arith, e)) in cc)

begins : (team : Team) (past : List Step) (s : Step) (w : Written) (mode : Mode) → Admissible team (s ∷ past) → s.act ≡ start_by mode → life s.who (s ∷ past) ≡ suc (life s.who past) → AreNamed past w → OfMaker team (s ∷ past) w s.who (started s.who mode s.h)
begins team past s w modes.First ok act more k = record {
  keeps = record { view = tt; best = tt; held = tt };
  seat = λ informed. (
    more ∙ ap suc (first_life team past s ok act),
    each_weaker (λ (m : Make). IsNamed past (make_name m)) (λ (m : Make). m.who ≢ s.who) w.makes (λ m named mine. none m.who m.life mine named.started named.life) k.makes,
    each_weaker (λ (x : Promised). IsNamed past (promise_name x)) (λ (x : Promised). x.who ≡ s.who → x.promise.report.group ≡ 0) w.promises (λ x named mine. absurd (none x.who x.life mine named.started named.life)) k.promises,
  );
  ballot = λ b is. absurd (cc);
}
  where
    none : (who l : ℕ) → who ≡ s.who → 1 ≤ l → l ≤ life who past → ⊥
    none who l mine some low = let own : l ≤ life s.who past = subst (λ q. l ≤ life q past) mine low in let zero_life = first_life team past s ok act in omega arith
begins team past s w modes.Again ok act more k = record {
  keeps = record { view = tt; best = tt; held = tt };
  seat = λ informed. absurd (cc);
  ballot = λ b is. absurd (cc);
}

pub made_rules : (team : Team) → RulesOver team (of_promises team) (made team)
made_rules team = record {
  nothing = record { tells = tt; arise = tt; under = tt; carried_made = tt };
  waits = λ past s w sound ok before k. record { tells = k.tells; arise = k.arise; under = k.under; carried_made = k.carried_made };
  remains = λ past s w who p sound ok same before h own k. remains team past s w who p same k;
  begins = λ past s w mode sound ok act more before k. begins team past s w mode ok act more before.names;
  changes = λ past s here x y at mailed change before after k. changed team past s here x y at mailed change before after k change;
}
