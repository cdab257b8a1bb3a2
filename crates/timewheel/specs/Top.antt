-- The words of the program's commands.
use Rattle.std.specs.Prelude.{◌≡◌, ℕ, List, [], ◌∷◌, codes}
use Rattle.schedule_text.specs.declared.status.Status.{Status}
use Rattle.schedule_text.specs.declared.status.Status.TheVariants as status

-- the words of the command
abbrev pub NamesReplay : List (List ℕ) → Type 0
NamesReplay words = words ≡ codes "replay" ∷ []

-- what can be answered while `replay` is the one command: no status of a link, a record or a clock
abbrev pub IsAnswerOfReplay : Status → Type 0
IsAnswerOfReplay status.LinkFault = ⊥
IsAnswerOfReplay (status.Differs line recorded computed) = ⊥
IsAnswerOfReplay status.ClockSpent = ⊥
IsAnswerOfReplay _ = Unit {0}
