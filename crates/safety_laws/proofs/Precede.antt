-- Supports precede the promise that ends them.
use Rattle.std.proofs.Common.{◌≡◌, refl, sym, ap, subst, ◌∙◌, inl, inr, ◌⊎◌, ◌+◌, ◌≤◌, ◌<◌, true, false, List, ◌∷◌, Some, None, arith}
use Rattle.std.specs.List.{AllByRecursion}
use Rattle.tw_machine.specs.Types.{Team, Report, Step}
use Rattle.tw_types.specs.Beliefs.{Belief, Informed, Blank, is_informed, last_of, view_decision}
use Rattle.tw_types.specs.Decisions.{or_none}
use Rattle.tw_types.specs.Reports.{is_by_informed, kind_of}
use Rattle.tw_machine.specs.History.{Promised, life, promise_item, make_item}
use Rattle.tw_machine.specs.History as items
use Rattle.tw_machine.specs.Standing.{member_of, last_decision, report_by}
use Rattle.tw_machine.specs.World.{world}
use Rattle.safety_laws.specs.Effects.{Written, State, Here, Promises, Makes, Change}
use Rattle.safety_laws.specs.Laws.{Law, Holds, Both}
use Rattle.tw_types.specs.Items.{In}
use Rattle.safety_laws.specs.Made.{IsNotOlder}
use Rattle.safety_laws.specs.Memory.{IsAtLeast}
use Rattle.safety_laws.specs.Names.{make_name, IsOfLife, Present, Earlier}
use Rattle.safety_laws.specs.NotAhead.{make_reading}
use Rattle.safety_laws.specs.Once.{StandsAbove, once}
use Rattle.safety_laws.specs.Outlived.{OutlivesAll}
use Rattle.safety_laws.specs.Precede.{Precedes, PrecedeIt, precede}
use Rattle.safety_laws.specs.Promises.{OfPromises, OfPromiser}
use Rattle.safety_laws.proofs.Grown.{Grown, Quiet, NewPromise, NewMake, NewUp, grown}
use Rattle.safety_laws.proofs.Lists.{of_each, each_from}
use Rattle.safety_laws.proofs.Once.{before_once, no_greater}
use Rattle.safety_laws.proofs.Stack.{Stepping, RulesOver, history_rules}
use Rattle.safety_laws.proofs.Turns.{all_positive}

-- what the law rests on
abbrev pub before_precede : Team → Law
before_precede team = Both (before_once team) once

module _ (team : Team) (past : List Step) (s : Step) (here : Here) (x y : State) (at : Stepping team past s here) (change : Change here x y) (before : Holds (before_precede team) (s ∷ past) (world team past) s.who x) (after : Holds (before_precede team) (s ∷ past) (world team past) s.who y) where
  me : here.step.who ≡ s.who
  me = ap (λ (e : Step). e.who) at.same_step

  known : OfPromises team (s ∷ past) x.written
  known = before.history.0.0.0

  mine : OfPromiser (s ∷ past) x.written s.who x.process
  mine = before.own.0.0.0

  -- a new promise against a make of its process
  given_precedes : (c : Promises here x y) → PrecedeIt team x.written.makes (promise_item here.life here.step c.given)
  given_precedes c = each_from (λ (m : items.Make). m.who ≡ here.step.who → m.making.decision.group < c.given.number → Precedes team (promise_item here.life here.step c.given) m) x.written.makes (λ m i by low. record { support = supported m i (by ∙ me); pair = pair m i (by ∙ me) })
    where
      support : c.given.report.support ≡ x.process.vote.support
      support = ap (λ (r : Report). r.support) c.report

      supported : (m : items.Make) → In m x.written.makes → m.who ≡ s.who → IsAtLeast (make_reading m) c.given.report.support ⊎ (make_reading m + team.lease < c.given.report.reading)
      supported m i by = go (of_each (λ (v : items.Make). v.who ≡ s.who → IsOfLife (life s.who (s ∷ past)) x.process mine.own.begun (make_name v)) x.written.makes m mine.own.makes i by)
        where
          go : IsOfLife (life s.who (s ∷ past)) x.process mine.own.begun (make_name m) → IsAtLeast (make_reading m) c.given.report.support ⊎ (make_reading m + team.lease < c.given.report.reading)
          go (Present l incarnation) = inl (rw support (of_each (λ (v : items.Make). v.who ≡ s.who → v.life ≡ life s.who (s ∷ past) → IsAtLeast (make_reading v) x.process.vote.support) x.written.makes m before.own.0.0.1.support i by l))
          go (Earlier l incarnation t again) =
              let outlives : OutlivesAll team y.written.makes (promise_item here.life here.step c.given) = (subst (λ ps. AllByRecursion (OutlivesAll team y.written.makes) ps) (ap (λ (w : Written). w.promises) c.written) after.history.0.0.0.outlived).0 in
              let there : In m y.written.makes = rw (ap (λ (w : Written). w.makes) c.written) i in
              inr (of_each (λ (v : items.Make). v.who ≡ here.step.who → v.life < here.life → make_reading v + team.lease < c.given.report.reading) y.written.makes m outlives there (by ∙ sym me) (let now = at.same_life in omega arith))

      pair : (m : items.Make) → In m x.written.makes → m.who ≡ s.who → is_by_informed c.given.report ≡ true → IsNotOlder c.given.report.group c.given.report.turn m.making.decision.group m.making.decision.turn
      pair m i by kind = go x.process.belief refl
        where
          by_kind : (b : Belief) → x.process.belief ≡ b → is_by_informed c.given.report ≡ is_by_informed (record (report_by x.process c.t) { kind = kind_of b })
          by_kind b is = ap is_by_informed c.report ∙ ap (λ (b : Belief). is_by_informed (record (report_by x.process c.t) { kind = kind_of b })) is

          above : is_informed x.process.belief ≡ true → StandsAbove (last_decision x.process) m
          above informed = of_each (λ (v : items.Make). v.who ≡ s.who → StandsAbove (last_decision x.process) v) x.written.makes m (before.own.1.0 informed) i by

          go : (b : Belief) → x.process.belief ≡ b → IsNotOlder c.given.report.group c.given.report.turn m.making.decision.group m.making.decision.turn
          go (Informed None) is = absurd (subst (λ o. StandsAbove o m) (ap last_of is) (above (ap is_informed is)))
          go (Informed (Some d)) is =
              let group : c.given.report.group ≡ d.group = ap (λ (r : Report). r.group) c.report ∙ ap (λ (b : Belief). (or_none (view_decision b)).group) is in
              let turn : c.given.report.turn ≡ d.turn = ap (λ (r : Report). r.turn) c.report ∙ ap (λ (b : Belief). (or_none (view_decision b)).turn) is in
              rw (group, turn) (subst (λ o. StandsAbove o m) (ap last_of is) (above (ap is_informed is)))
          go (Blank followed) is = absurd (let no : true ≡ false = sym kind ∙ by_kind (Blank followed) is in cc)

  -- each promise against a new make, above whose group its process promised nothing
  made_preceded : (c : Makes here x y) → AllByRecursion (PrecedeIt team x.written.makes) x.written.promises → AllByRecursion (PrecedeIt team (make_item (member_of x.process.identity) here.life here.step x.written.makes c.making ∷ x.written.makes)) x.written.promises
  made_preceded c all = each_from (PrecedeIt team (make_item (member_of x.process.identity) here.life here.step x.written.makes c.making ∷ x.written.makes)) x.written.promises
      (λ z i. ((λ by low. absurd (none z i (sym by ∙ me) low)), of_each (PrecedeIt team x.written.makes) x.written.promises z all i))
    where
      none : (z : Promised) → In z x.written.promises → z.who ≡ s.who → c.making.decision.group < z.promise.number → ⊥
      none z i by low = let group = c.group in let some = positive in let high = no_greater team (s ∷ past) x.written s.who x.process known mine (omega arith) z i by in omega arith
        where
          positive : 1 ≤ c.making.decision.group
          positive = (subst (λ ms. AllByRecursion (λ (m : items.Make). 1 ≤ m.making.decision.group) ms) (ap (λ (w : Written). w.makes) c.written) (all_positive team y.written.promises y.written.makes after.history.0.1.arise)).0

  precede_changes : AllByRecursion (PrecedeIt team x.written.makes) x.written.promises → AllByRecursion (PrecedeIt team y.written.makes) y.written.promises
  precede_changes all = go (grown here x y change)
    where
      go : Grown here x y → AllByRecursion (PrecedeIt team y.written.makes) y.written.promises
      go (Quiet promises makes ups) = rw promises (subst (λ ms. AllByRecursion (PrecedeIt team ms) x.written.promises) (sym makes) all)
      go (NewPromise c promises makes ups) = rw promises (subst (λ ms. AllByRecursion (PrecedeIt team ms) (promise_item here.life here.step c.given ∷ x.written.promises)) (sym makes) (given_precedes c, all))
      go (NewMake c promises makes ups) = rw promises (subst (λ ms. AllByRecursion (PrecedeIt team ms) x.written.promises) (sym makes) (made_preceded c all))
      go (NewUp c promises makes ups) = rw promises (subst (λ ms. AllByRecursion (PrecedeIt team ms) x.written.promises) (sym makes) all)

pub precede_rules : (team : Team) → RulesOver team (before_precede team) (precede team)
precede_rules team = history_rules team (before_precede team) (λ w. AllByRecursion (PrecedeIt team w.makes) w.promises) tt (λ past s here x y at change before after k. precede_changes team past s here x y at change before after k)
