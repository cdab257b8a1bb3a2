-- Readings don't run ahead.
use Rattle.std.proofs.Common.{◌≡◌, sym, ap, subst, ◌∙◌, ℕ, suc, ◌≤◌, List, ◌∷◌, Option, Some, None, IfSome, arith}
use Rattle.std.specs.List.{AllByRecursion}
use Rattle.tw_machine.specs.Types.{Team, Report, Mode, Step}
use Rattle.tw_types.specs.Process.{started}
use Rattle.tw_machine.specs.ClockLaw.{IsNear}
use Rattle.tw_machine.specs.History.{Promised, Up, life, promise_item, make_item, up_at}
use Rattle.tw_machine.specs.History as items
use Rattle.tw_machine.specs.World.{world}
use Rattle.safety_laws.specs.Effects.{Written, State, Here, NotBelow, Change}
use Rattle.safety_laws.specs.Laws.{Holds}
use Rattle.safety_laws.specs.Names.{promise_name, make_name, IsNamed, IsNamedUp, AreNamed, names}
use Rattle.safety_laws.specs.NotAhead.{IsAtMost, promise_reading, make_reading, AreBehind, not_ahead}
use Rattle.safety_laws.proofs.Given.{same_greatest}
use Rattle.safety_laws.proofs.Grown.{Grown, Quiet, NewPromise, NewMake, NewUp, grown}
use Rattle.safety_laws.proofs.Lists.{each_weaker}
use Rattle.safety_laws.proofs.Stack.{Stepping, RulesOver}

-- the greatest reading doesn't fall in an effect
greatest_stays : (here : Here) (x y : State) → Change here x y → NotBelow x.process.timing.clock.greatest y.process.timing.clock.greatest
greatest_stays here x y (Change.Keep c) = c.greatest
greatest_stays here x y (Change.Give c) = rw c.process (same_greatest x.process.timing.clock.greatest)
greatest_stays here x y (Change.Hold c) = rw c.process (same_greatest x.process.timing.clock.greatest)
greatest_stays here x y (Change.Take c) = rw c.process (same_greatest x.process.timing.clock.greatest)
greatest_stays here x y (Change.Make c) = rw c.process (same_greatest x.process.timing.clock.greatest)
greatest_stays here x y (Change.Deliver c) = rw c.process (same_greatest x.process.timing.clock.greatest)
greatest_stays here x y (Change.Raise c) = rw c.process (same_greatest x.process.timing.clock.greatest)

at_most_later : (t : ℕ) (a b : Option ℕ) → NotBelow a b → IsAtMost t a → IsAtMost t b
at_most_later t None b low k = absurd k
at_most_later t (Some g) None low k = absurd low
at_most_later t (Some g) (Some g') low k = omega arith

-- the greatest reading is the step's own where an item is new
own_reading : (here : Here) (x y : State) (t : ℕ) → Change here x y → x.process.timing.clock.greatest ≡ Some t → IsAtMost t y.process.timing.clock.greatest
own_reading here x y t change read = at_most_later t x.process.timing.clock.greatest y.process.timing.clock.greatest (greatest_stays here x y change) (rw read (omega arith))

-- nothing that was written down before a start is of the life that begins
begins : (past : List Step) (s : Step) (w : Written) (mode : Mode) → life s.who (s ∷ past) ≡ suc (life s.who past) → AreNamed past w → AreBehind (s ∷ past) w s.who (started s.who mode s.h)
begins past s w mode more k = record {
  promises = each_weaker (λ (x : Promised). IsNamed past (promise_name x)) (λ (x : Promised). x.who ≡ s.who → x.life ≡ life s.who (s ∷ past) → IsAtMost (promise_reading x) None) w.promises (λ x named mine same. none x.who x.life mine same named.life) k.promises;
  makes = each_weaker (λ (x : items.Make). IsNamed past (make_name x)) (λ (x : items.Make). x.who ≡ s.who → x.life ≡ life s.who (s ∷ past) → IsAtMost (make_reading x) None) w.makes (λ x named mine same. none x.who x.life mine same named.life) k.makes;
  ups = each_weaker (IsNamedUp past) (λ (x : Up). x.who ≡ s.who → x.life ≡ life s.who (s ∷ past) → IsAtMost x.reading None) w.ups (λ x named mine same. none x.who x.life mine same named.life) k.ups;
}
  where
    none : (who l : ℕ) → who ≡ s.who → l ≡ life s.who (s ∷ past) → l ≤ life who past → ⊥
    none who l mine same low = let here : l ≤ life s.who past = subst (λ q. l ≤ life q past) mine low in let now : l ≡ suc (life s.who past) = same ∙ more in omega arith

pub near_now : (team : Team) (past : List Step) (s : Step) (here : Here) (t : ℕ) → Stepping team past s here → here.now.reading ≡ Some t → IsNear team.eps here.step.t t
near_now team past s here t at reading =
    let near : IsNear team.eps s.t t = subst (λ o. IfSome o (λ r. IsNear team.eps s.t r)) reading at.near in
    subst (λ (e : Step). IsNear team.eps e.t t) (sym at.same_step) near

changes : (team : Team) (past : List Step) (s : Step) (here : Here) (x y : State) → Stepping team past s here → Change here x y
    → Holds (not_ahead team) (s ∷ past) (world team past) s.who x → Holds (not_ahead team) (s ∷ past) (world team past) s.who y
changes team past s here x y at change k = go (grown here x y change)
  where
    later : (t : ℕ) → IsAtMost t x.process.timing.clock.greatest → IsAtMost t y.process.timing.clock.greatest
    later t = at_most_later t x.process.timing.clock.greatest y.process.timing.clock.greatest (greatest_stays here x y change)

    own_promises : AllByRecursion (λ (z : Promised). z.who ≡ s.who → z.life ≡ life s.who (s ∷ past) → IsAtMost (promise_reading z) y.process.timing.clock.greatest) x.written.promises
    own_promises = each_weaker (λ (z : Promised). z.who ≡ s.who → z.life ≡ life s.who (s ∷ past) → IsAtMost (promise_reading z) x.process.timing.clock.greatest)
        (λ (z : Promised). z.who ≡ s.who → z.life ≡ life s.who (s ∷ past) → IsAtMost (promise_reading z) y.process.timing.clock.greatest) x.written.promises (λ z f mine same. later (promise_reading z) (f mine same)) k.own.promises

    own_makes : AllByRecursion (λ (z : items.Make). z.who ≡ s.who → z.life ≡ life s.who (s ∷ past) → IsAtMost (make_reading z) y.process.timing.clock.greatest) x.written.makes
    own_makes = each_weaker (λ (z : items.Make). z.who ≡ s.who → z.life ≡ life s.who (s ∷ past) → IsAtMost (make_reading z) x.process.timing.clock.greatest)
        (λ (z : items.Make). z.who ≡ s.who → z.life ≡ life s.who (s ∷ past) → IsAtMost (make_reading z) y.process.timing.clock.greatest) x.written.makes (λ z f mine same. later (make_reading z) (f mine same)) k.own.makes

    own_ups : AllByRecursion (λ (z : Up). z.who ≡ s.who → z.life ≡ life s.who (s ∷ past) → IsAtMost z.reading y.process.timing.clock.greatest) x.written.ups
    own_ups = each_weaker (λ (z : Up). z.who ≡ s.who → z.life ≡ life s.who (s ∷ past) → IsAtMost z.reading x.process.timing.clock.greatest)
        (λ (z : Up). z.who ≡ s.who → z.life ≡ life s.who (s ∷ past) → IsAtMost z.reading y.process.timing.clock.greatest) x.written.ups (λ z f mine same. later z.reading (f mine same)) k.own.ups

    me : here.step.who ≡ s.who
    me = ap (λ (e : Step). e.who) at.same_step

    go : Grown here x y → Holds (not_ahead team) (s ∷ past) (world team past) s.who y
    go (Quiet promises makes ups) = record {
      history = record { promises = rw promises k.history.promises; makes = rw makes k.history.makes; ups = rw ups k.history.ups };
      own = record { promises = rw promises own_promises; makes = rw makes own_makes; ups = rw ups own_ups };
      others = λ q p other runs. let o = k.others q p other runs in record { promises = rw promises o.promises; makes = rw makes o.makes; ups = rw ups o.ups };
    }
    go (NewPromise c promises makes ups) =
        let reads : c.given.report.reading ≡ c.t = ap (λ (r : Report). r.reading) c.report in
        record {
          history = record { promises = rw promises (rw reads (near_now team past s here c.t at c.reading), k.history.promises); makes = rw makes k.history.makes; ups = rw ups k.history.ups };
          own = record { promises = rw promises ((λ mine same. rw reads (own_reading here x y c.t change c.read)), own_promises); makes = rw makes own_makes; ups = rw ups own_ups };
          others = λ q p other runs. let o = k.others q p other runs in record { promises = rw promises ((λ mine. absurd (other (sym me ∙ mine))), o.promises); makes = rw makes o.makes; ups = rw ups o.ups };
        }
    go (NewMake c promises makes ups) = record {
      history = record { promises = rw promises k.history.promises; makes = rw makes (rw c.made (near_now team past s here c.t at c.reading), k.history.makes); ups = rw ups k.history.ups };
      own = record { promises = rw promises own_promises; makes = rw makes ((λ mine same. rw c.made (own_reading here x y c.t change c.read)), own_makes); ups = rw ups own_ups };
      others = λ q p other runs. let o = k.others q p other runs in record { promises = rw promises o.promises; makes = rw makes ((λ mine. absurd (other (sym me ∙ mine))), o.makes); ups = rw ups o.ups };
    }
    go (NewUp c promises makes ups) = record {
      history = record { promises = rw promises k.history.promises; makes = rw makes k.history.makes; ups = rw ups (near_now team past s here c.t at c.reading, k.history.ups) };
      own = record { promises = rw promises own_promises; makes = rw makes own_makes; ups = rw ups ((λ mine same. own_reading here x y c.t change c.read), own_ups) };
      others = λ q p other runs. let o = k.others q p other runs in record { promises = rw promises o.promises; makes = rw makes o.makes; ups = rw ups ((λ mine. absurd (other (sym me ∙ mine))), o.ups) };
    }

pub not_ahead_rules : (team : Team) → RulesOver team names (not_ahead team)
not_ahead_rules team = record {
  nothing = record { promises = tt; makes = tt; ups = tt };
  waits = λ past s w sound ok earlier k. k;
  remains = λ past s w who p sound ok same earlier h named k. record { promises = rw same k.promises; makes = rw same k.makes; ups = rw same k.ups };
  begins = λ past s w mode sound ok act more named k. begins past s w mode more named;
  changes = λ past s here x y at mailed change named named_after k. changes team past s here x y at change k;
}
