-- Which words are those of the command, and which aren't.
use Rattle.std.proofs.Common.{refl, [], ◌∷◌}
use Rattle.std.specs.Prelude.{codes}
use Rattle.timewheel.specs.Top.{NamesReplay}

named : NamesReplay (codes "replay" ∷ [])
named = refl

two_words : NamesReplay (codes "replay" ∷ codes "replay" ∷ []) → ⊥
two_words names = cc

no_word : NamesReplay [] → ⊥
no_word names = cc
