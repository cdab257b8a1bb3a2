-- Readings of what was written down: near the team time of their steps, and not above the present greatest reading of their life.
use Rattle.std.specs.Prelude.{ℕ, ◌≡◌, ◌≤◌, List, Option, Some, None}
use Rattle.std.specs.List.{AllByRecursion}
use Rattle.tw_machine.specs.Types.{Team, Step}
use Rattle.tw_types.specs.Process.{Process}
use Rattle.tw_machine.specs.ClockLaw.{IsNear}
use Rattle.tw_machine.specs.History.{Promised, Make, Up, life}
use Rattle.safety_laws.specs.Effects.{Written}
use Rattle.safety_laws.specs.Laws.{Law}

-- there is a greatest reading, and this one isn't above it
abbrev pub IsAtMost : ℕ → Option ℕ → Type 0
IsAtMost t None = ⊥
IsAtMost t (Some greatest) = t ≤ greatest

abbrev pub promise_reading : Promised → ℕ
promise_reading x = x.promise.report.reading

abbrev pub make_reading : Make → ℕ
make_reading x = x.making.decision.made

-- a promise's reading is near the team time of its step
abbrev pub IsNearPromise : ℕ → Promised → Type 0
IsNearPromise eps x = IsNear eps x.t (promise_reading x)

pub record AreNear (eps : ℕ) (w : Written) : Type 0 where
  pub promises : AllByRecursion (IsNearPromise eps) w.promises
  pub makes : AllByRecursion (λ (x : Make). IsNear eps x.t (make_reading x)) w.makes
  pub ups : AllByRecursion (λ (x : Up). IsNear eps x.t x.reading) w.ups

pub record AreBehind (steps : List Step) (w : Written) (who : ℕ) (p : Process) : Type 0 where
  pub promises : AllByRecursion (λ (x : Promised). x.who ≡ who → x.life ≡ life who steps → IsAtMost (promise_reading x) p.timing.clock.greatest) w.promises
  pub makes : AllByRecursion (λ (x : Make). x.who ≡ who → x.life ≡ life who steps → IsAtMost (make_reading x) p.timing.clock.greatest) w.makes
  pub ups : AllByRecursion (λ (x : Up). x.who ≡ who → x.life ≡ life who steps → IsAtMost x.reading p.timing.clock.greatest) w.ups

-- readings don't run ahead
abbrev pub not_ahead : Team → Law
not_ahead team = record { History = λ steps w. AreNear team.eps w; Running = AreBehind }
