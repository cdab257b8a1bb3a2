-- A restarted process promises behind its leases.
use Rattle.std.proofs.Common.{◌≡◌, refl, sym, ap, subst, ◌∙◌, ◌+◌, ◌≤◌, ◌<◌, List, ◌∷◌, arith}
use Rattle.std.specs.List.{AllByRecursion}
use Rattle.tw_machine.specs.Types.{Team, Report, Step}
use Rattle.tw_machine.specs.ClockLaw.{IsNear}
use Rattle.tw_machine.specs.History.{Promised, life, promise_item, make_item}
use Rattle.tw_machine.specs.History as items
use Rattle.tw_machine.specs.Standing.{member_of}
use Rattle.tw_machine.specs.World.{world}
use Rattle.safety_laws.specs.Effects.{State, Here, Promises, Makes}
use Rattle.safety_laws.specs.Laws.{Holds, Both}
use Rattle.tw_types.specs.Items.{In}
use Rattle.safety_laws.specs.Names.{promise_name, make_name, IsNamed, IsOfLife, Present, Earlier, IsOwn, names}
use Rattle.safety_laws.specs.NotAhead.{make_reading, not_ahead}
use Rattle.safety_laws.specs.Outlived.{OutlivesAll, outlived}
use Rattle.safety_laws.proofs.Ascend.{far_below}
use Rattle.safety_laws.proofs.Grown.{Grown, Quiet, NewPromise, NewMake, NewUp, grown}
use Rattle.safety_laws.proofs.Lists.{of_each, each_from}
use Rattle.safety_laws.proofs.Stack.{Stepping, RulesOver, history_rules}

-- a new promise against each make
promise_outlives : (team : Team) (past : List Step) (s : Step) (here : Here) (x y : State) → Stepping team past s here → (c : Promises here x y) → Holds (Both names (not_ahead team)) (s ∷ past) (world team past) s.who x → OutlivesAll team x.written.makes (promise_item here.life here.step c.given)
promise_outlives team past s here x y at c k =
    each_from (λ (d : items.Make). d.who ≡ here.step.who → d.life < here.life → make_reading d + team.lease < c.given.report.reading) x.written.makes
    (λ d i mine earlier. let same : d.who ≡ s.who = mine ∙ ap (λ (e : Step). e.who) at.same_step in
    go d i earlier (of_each (λ (v : items.Make). v.who ≡ s.who → IsOfLife (life s.who (s ∷ past)) x.process own.begun (make_name v)) x.written.makes d own.makes i same))
  where
    own : IsOwn (s ∷ past) x.written s.who x.process
    own = k.own.0

    go : (d : items.Make) → In d x.written.makes → d.life < here.life → IsOfLife (life s.who (s ∷ past)) x.process own.begun (make_name d) → make_reading d + team.lease < c.given.report.reading
    go d i earlier (Present l incarnation) = absurd (let now = at.same_life in omega arith)
    go d i earlier (Earlier l incarnation t again) =
        let near = of_each (λ (v : items.Make). IsNear team.eps v.t (make_reading v)) x.written.makes d k.history.1.makes i in
        let far = far_below team past s here x y own.begun (make_reading d) d.t at c own refl again near.not_ahead t in
        let reads : c.given.report.reading ≡ c.t = ap (λ (r : Report). r.reading) c.report in
        omega (arith, reads)

-- each promise against a new make, which is of no earlier life
make_outlived : (team : Team) (past : List Step) (s : Step) (here : Here) (x y : State) → Stepping team past s here → (c : Makes here x y) → AllByRecursion (λ (v : Promised). IsNamed (s ∷ past) (promise_name v)) x.written.promises
    → AllByRecursion (OutlivesAll team x.written.makes) x.written.promises → AllByRecursion (OutlivesAll team (make_item (member_of x.process.identity) here.life here.step x.written.makes c.making ∷ x.written.makes)) x.written.promises
make_outlived team past s here x y at c named all =
    each_from (OutlivesAll team (make_item (member_of x.process.identity) here.life here.step x.written.makes c.making ∷ x.written.makes)) x.written.promises
    (λ z i. ((λ mine earlier. absurd (none z i mine earlier)), of_each (OutlivesAll team x.written.makes) x.written.promises z all i))
  where
    none : (z : Promised) → In z x.written.promises → here.step.who ≡ z.who → here.life < z.life → ⊥
    none z i mine earlier =
        let low : z.life ≤ life z.who (s ∷ past) = (of_each (λ (v : Promised). IsNamed (s ∷ past) (promise_name v)) x.written.promises z named i).life in
        let me : z.who ≡ s.who = sym mine ∙ ap (λ (e : Step). e.who) at.same_step in
        let own : z.life ≤ life s.who (s ∷ past) = subst (λ q. z.life ≤ life q (s ∷ past)) me low in
        let now = at.same_life in
        omega arith

pub outlived_rules : (team : Team) → RulesOver team (Both names (not_ahead team)) (outlived team)
outlived_rules team = history_rules team (Both names (not_ahead team)) (λ w. AllByRecursion (OutlivesAll team w.makes) w.promises) tt (λ past s here x y at change before after k. go past s here x y at before (grown here x y change) k)
  where
    go : (past : List Step) (s : Step) (here : Here) (x y : State) → Stepping team past s here → Holds (Both names (not_ahead team)) (s ∷ past) (world team past) s.who x → Grown here x y
        → AllByRecursion (OutlivesAll team x.written.makes) x.written.promises → AllByRecursion (OutlivesAll team y.written.makes) y.written.promises
    go past s here x y at before (Quiet promises makes ups) k = rw promises (subst (λ ms. AllByRecursion (OutlivesAll team ms) x.written.promises) (sym makes) k)
    go past s here x y at before (NewPromise c promises makes ups) k =
        rw promises (subst (λ ms. AllByRecursion (OutlivesAll team ms) (promise_item here.life here.step c.given ∷ x.written.promises)) (sym makes) (promise_outlives team past s here x y at c before, k))
    go past s here x y at before (NewMake c promises makes ups) k = rw promises (subst (λ ms. AllByRecursion (OutlivesAll team ms) x.written.promises) (sym makes) (make_outlived team past s here x y at c before.history.0.promises k))
    go past s here x y at before (NewUp c promises makes ups) k = rw promises (subst (λ ms. AllByRecursion (OutlivesAll team ms) x.written.promises) (sym makes) k)
