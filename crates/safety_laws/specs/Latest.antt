-- What a running process promised last.
use Rattle.std.specs.Prelude.{ℕ, ◌≡◌, ◌≤◌, ◌<◌, List}
use Rattle.std.specs.List.{AllByRecursion}
use Rattle.tw_types.specs.declared.step.Step.{Step}
use Rattle.tw_types.specs.Process.{Process}
use Rattle.tw_machine.specs.History.{Promised, life}
use Rattle.safety_laws.specs.Effects.{Written}
use Rattle.safety_laws.specs.Laws.{Law}
use Rattle.tw_types.specs.Items.{In}

-- No number that it promised in this life is greater, and it promised this one in this life, if any.
pub record IsLatest (steps : List Step) (w : Written) (who : ℕ) (p : Process) : Type 0 where
  pub greatest : AllByRecursion (λ (x : Promised). x.who ≡ who → x.life ≡ life who steps → x.promise.number ≤ p.vote.promised) w.promises
  pub promised : 0 < p.vote.promised → (x : Promised) × In x w.promises × (x.who ≡ who) × (x.life ≡ life who steps) × (x.promise.number ≡ p.vote.promised)

-- promised is the latest
abbrev pub latest : Law
latest = record { History = λ steps w. Unit {0}; Running = IsLatest }
