-- Promises ascend, over all lives of their process.
use Rattle.std.proofs.Common.{◌≡◌, refl, ap, subst, ◌∙◌, ℕ, ◌+◌, ◌*◌, ◌-◌, ◌≤◌, true, false, List, ◌∷◌, arith}
use Rattle.tw_machine.specs.Types.{Team, Report, Step}
use Rattle.tw_types.specs.Promises.{is_again, is_quarantined, is_in_window}
use Rattle.tw_machine.specs.ClockLaw.{IsNear}
use Rattle.tw_machine.specs.History.{Promised, life, promise_item}
use Rattle.tw_machine.specs.World.{world}
use Rattle.safety_laws.specs.Ascend.{IsBelow, Ascends, ascend}
use Rattle.safety_laws.specs.Effects.{State, Here, Promises}
use Rattle.safety_laws.specs.Latest.{latest}
use Rattle.safety_laws.specs.Laws.{Law, Holds, Both}
use Rattle.tw_types.specs.Items.{In}
use Rattle.safety_laws.specs.Names.{promise_name, IsOfLife, Present, Earlier, IsOwn, names}
use Rattle.safety_laws.specs.NotAhead.{IsAtMost, promise_reading, not_ahead}
use Rattle.safety_laws.specs.Windows.{IsInWindow, windows}
use Rattle.safety_laws.proofs.ClockLaw.{may_read_now}
use Rattle.safety_laws.proofs.Grown.{Grown, Quiet, NewPromise, NewMake, NewUp, grown}
use Rattle.safety_laws.proofs.Lists.{of_each, each_from}
use Rattle.safety_laws.proofs.NotAhead.{near_now}
use Rattle.safety_laws.proofs.Readings.{since}
use Rattle.safety_laws.proofs.Stack.{Stepping, RulesOver, history_rules}
use Rattle.safety_laws.proofs.Waits.{waited, apart, numbers_apart}

-- what the ascent of promises rests on
abbrev pub before_ascent : Team → Law
before_ascent team = Both (Both (Both names (not_ahead team)) (windows team)) latest

-- An item of an earlier life, at its reading, is far below the reading of a promise that is given now.
pub far_below : (team : Team) (past : List Step) (s : Step) (here : Here) (x y : State) (begun r t0 : ℕ) → Stepping team past s here → (c : Promises here x y) → (own : IsOwn (s ∷ past) x.written s.who x.process) → own.begun ≡ begun
    → is_again x.process.identity.mode ≡ true → r ≤ t0 + team.eps → t0 ≤ begun → r + team.lease + (team.n + 4) * team.slot + 2 ≤ c.t
far_below team past s here x y begun r t0 at c own is again near old =
    let from = since team.ppm s.who (s ∷ past) s.t s.h own.begun x.process.identity.began (may_read_now team past s at.ok) own.start in
    let over : is_quarantined team x.process.identity s.h ≡ false = subst (λ h. is_quarantined team x.process.identity h ≡ false) at.hardware (subst (λ (t : Team). is_quarantined t x.process.identity here.now.h ≡ false) at.same_team c.not_quarantined) in
    let long = waited team x.process.identity s.h (s.t - own.begun) at.sound again over from.ticks in
    let now : IsNear team.eps s.t c.t = subst (λ (e : Step). IsNear team.eps e.t c.t) at.same_step (near_now team past s here c.t at c.reading) in
    apart team r t0 own.begun s.t c.t near (omega (arith, is)) from.not_before long now.not_behind

-- a new promise is above each older one of its process
above : (team : Team) (past : List Step) (s : Step) (here : Here) (x y : State) → Stepping team past s here → (c : Promises here x y) → Holds (before_ascent team) (s ∷ past) (world team past) s.who x
    → (z : Promised) → In z x.written.promises → z.who ≡ here.step.who → IsBelow (promise_item here.life here.step c.given) z
above team past s here x y at c k z i mine = go (of_each (λ (v : Promised). v.who ≡ s.who → IsOfLife (life s.who (s ∷ past)) x.process own.begun (promise_name v)) x.written.promises z own.promises i same_who)
  where
    own : IsOwn (s ∷ past) x.written s.who x.process
    own = k.own.0.0.0

    same_who : z.who ≡ s.who
    same_who = mine ∙ ap (λ (e : Step). e.who) at.same_step

    member : c.given.report.member.incarnation ≡ x.process.identity.incarnation
    member = ap (λ (r : Report). r.member.incarnation) c.report

    reads : c.given.report.reading ≡ c.t
    reads = ap (λ (r : Report). r.reading) c.report

    in_window : is_in_window team c.given.number c.t ≡ true
    in_window = subst (λ (t : Team). is_in_window t c.given.number c.t ≡ true) at.same_team c.in_window

    go : IsOfLife (life s.who (s ∷ past)) x.process own.begun (promise_name z) → IsBelow (promise_item here.life here.step c.given) z
    go (Present l incarnation) =
        let low = of_each (λ (v : Promised). v.who ≡ s.who → v.life ≡ life s.who (s ∷ past) → v.promise.number ≤ x.process.vote.promised) x.written.promises z k.own.1.greatest i same_who l in
        let reading = of_each (λ (v : Promised). v.who ≡ s.who → v.life ≡ life s.who (s ∷ past) → IsAtMost (promise_reading v) x.process.timing.clock.greatest) x.written.promises z k.own.0.0.1.promises i same_who l in
        let at_most : promise_reading z ≤ c.t = rw c.read at reading in
        let higher = c.above in
        let now = at.same_life in
        record { number = omega arith; life = omega arith; incarnation = omega (arith, member); reading = λ same. omega (arith, reads) }
    go (Earlier l incarnation t again) =
        let near = of_each (λ (v : Promised). IsNear team.eps v.t (promise_reading v)) x.written.promises z k.history.0.0.1.promises i in
        let window = of_each (IsInWindow team) x.written.promises z k.history.0.1 i in
        let far = far_below team past s here x y own.begun (promise_reading z) z.t at c own refl again near.not_ahead t in
        let higher = numbers_apart team z.promise.number (promise_reading z) c.given.number c.t at.sound window.late in_window far in
        let now = at.same_life in
        let began = own.began in
        record { number = higher; life = omega arith; incarnation = omega (arith, member); reading = λ same. absurd (omega arith) }

pub ascend_rules : (team : Team) → RulesOver team (before_ascent team) ascend
ascend_rules team = history_rules team (before_ascent team) (λ w. Ascends w.promises) tt (λ past s here x y at change before after k. go past s here x y at before (grown here x y change) k)
  where
    go : (past : List Step) (s : Step) (here : Here) (x y : State) → Stepping team past s here → Holds (before_ascent team) (s ∷ past) (world team past) s.who x → Grown here x y → Ascends x.written.promises → Ascends y.written.promises
    go past s here x y at before (Quiet promises makes ups) k = rw promises k
    go past s here x y at before (NewPromise c promises makes ups) k =
        rw promises (each_from (λ (z : Promised). z.who ≡ here.step.who → IsBelow (promise_item here.life here.step c.given) z) x.written.promises (above team past s here x y at c before), k)
    go past s here x y at before (NewMake c promises makes ups) k = rw promises k
    go past s here x y at before (NewUp c promises makes ups) k = rw promises k
