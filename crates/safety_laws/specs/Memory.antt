-- What a running process remembers of the decisions that it made.
use Rattle.std.specs.Prelude.{ℕ, ◌≡◌, ◌≢◌, ◌≤◌, false, List, Option, Some, None}
use Rattle.std.specs.List.{AllByRecursion}
use Rattle.tw_types.specs.declared.step.Step.{Step}
use Rattle.tw_types.specs.Beliefs.{is_informed}
use Rattle.tw_types.specs.Process.{Process}
use Rattle.tw_machine.specs.History.{Make, life}
use Rattle.tw_machine.specs.Standing.{member_of}
use Rattle.safety_laws.specs.Effects.{Written}
use Rattle.safety_laws.specs.Laws.{Law}
use Rattle.safety_laws.specs.NotAhead.{make_reading}

-- there is a last support, and it isn't below this reading
abbrev pub IsAtLeast : ℕ → Option ℕ → Type 0
IsAtLeast t None = ⊥
IsAtLeast t (Some support) = t ≤ support

-- Its last support is none of before a decision that it made in this life, and in a life in which it lost its memory, and hasn't
-- found it again, it made none.
pub record Remembers (steps : List Step) (w : Written) (who : ℕ) (p : Process) : Type 0 where
  pub support : AllByRecursion (λ (d : Make). d.who ≡ who → d.life ≡ life who steps → IsAtLeast (make_reading d) p.vote.support) w.makes
  pub blank : is_informed p.belief ≡ false → AllByRecursion (λ (d : Make). d.who ≡ who → d.member ≢ member_of p.identity) w.makes

-- a process remembers or outlived its supports
abbrev pub memory : Law
memory = record { History = λ steps w. Unit {0}; Running = Remembers }
