-- Promises keep the window.
use Rattle.std.proofs.Common.{◌≡◌, ap, subst, ℕ, ◌+◌, ◌≤◌, true, List, arith}
use Rattle.std.specs.List.{AllByRecursion}
use Rattle.std.proofs.lemmas.Bool.Decides.{nat_tests}
use Rattle.tw_machine.specs.Types.{Team, Report, Step}
use Rattle.tw_types.specs.Promises.{is_in_window}
use Rattle.tw_types.specs.Slots.{slot_of}
use Rattle.tw_machine.specs.History.{promise_item}
use Rattle.safety_laws.specs.Effects.{State, Here, Promises}
use Rattle.safety_laws.specs.Laws.{Law}
use Rattle.safety_laws.specs.Windows.{IsInWindow, windows}
use Rattle.safety_laws.proofs.Grown.{Grown, Quiet, NewPromise, NewMake, NewUp, grown}
use Rattle.safety_laws.proofs.Stack.{Stepping, RulesOver, history_rules}

in_window : (team : Team) (number t : ℕ) → is_in_window team number t ≡ true → (slot_of team t ≤ number + 1) × (number ≤ slot_of team t + team.n + 1)
in_window team number t e = (grind (arith, nat_tests), grind (arith, nat_tests))

kept : (team : Team) (past : List Step) (s : Step) (here : Here) (x y : State) → Stepping team past s here → (c : Promises here x y) → IsInWindow team (promise_item here.life here.step c.given)
kept team past s here x y at c =
    let reads : c.given.report.reading ≡ c.t = ap (λ (r : Report). r.reading) c.report in
    let inside = in_window team c.given.number c.t (subst (λ (t : Team). is_in_window t c.given.number c.t ≡ true) at.same_team c.in_window) in
    let above = c.above in
    record { positive = omega arith; early = rw reads inside.0; late = rw reads inside.1 }

pub windows_rules : (team : Team) (earlier : Law) → RulesOver team earlier (windows team)
windows_rules team earlier = history_rules team earlier (λ w. AllByRecursion (IsInWindow team) w.promises) tt (λ past s here x y at change before after k. go past s here x y at (grown here x y change) k)
  where
    go : (past : List Step) (s : Step) (here : Here) (x y : State) → Stepping team past s here → Grown here x y → AllByRecursion (IsInWindow team) x.written.promises → AllByRecursion (IsInWindow team) y.written.promises
    go past s here x y at (Quiet promises makes ups) k = rw promises k
    go past s here x y at (NewPromise c promises makes ups) k = rw promises (kept team past s here x y at c, k)
    go past s here x y at (NewMake c promises makes ups) k = rw promises k
    go past s here x y at (NewUp c promises makes ups) k = rw promises k
