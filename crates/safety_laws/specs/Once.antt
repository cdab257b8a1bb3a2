-- Each pair of a group and a turn is made once, and an informed process stands above what it made.
use Rattle.std.specs.Prelude.{ℕ, ◌≡◌, ◌≢◌, true, List, [], ◌∷◌, Option, Some, None}
use Rattle.std.specs.List.{AllByRecursion}
use Rattle.tw_machine.specs.Types.{Ballot, Decision}
use Rattle.tw_types.specs.Beliefs.{is_informed}
use Rattle.tw_types.specs.Process.{Process}
use Rattle.tw_machine.specs.History.{Make}
use Rattle.tw_machine.specs.Standing.{last_decision}
use Rattle.safety_laws.specs.Effects.{Written}
use Rattle.safety_laws.specs.Laws.{Law}
use Rattle.safety_laws.specs.Made.{IsNotOlder}

-- two makes of one pair
abbrev pub SamePair : Make → Make → Type 0
SamePair a b = (a.making.decision.group ≡ b.making.decision.group) × (a.making.decision.turn ≡ b.making.decision.turn)

-- no make has the pair of an older one
abbrev pub AllOnce : List Make → Type 0
AllOnce [] = Unit {0}
AllOnce (m ∷ older) = AllByRecursion (λ (d : Make). SamePair m d → ⊥) older × AllOnce older

-- a last decision stands above this make
abbrev pub StandsAbove : Option Decision → Make → Type 0
StandsAbove None m = ⊥
StandsAbove (Some d) m = IsNotOlder d.group d.turn m.making.decision.group m.making.decision.turn

-- its last decision isn't below any that it made, in this life or an earlier one
abbrev pub IsAboveAll : Written → ℕ → Process → Type 0
IsAboveAll w who p = is_informed p.belief ≡ true → AllByRecursion (λ (m : Make). m.who ≡ who → StandsAbove (last_decision p) m) w.makes

-- nothing was made yet of the number of its ballot
abbrev pub IsUnmade : Written → Process → Type 0
IsUnmade w p = (b : Ballot) → p.ballot ≡ Some b → AllByRecursion (λ (m : Make). m.making.decision.group ≢ b.number) w.makes

-- a pair is made once, and an informed process stands above its supports
abbrev pub once : Law
once = record { History = λ steps w. AllOnce w.makes; Running = λ steps w who p. IsAboveAll w who p × IsUnmade w p }
