-- Texts that are written at once.
use Rattle.std.proofs.Common.{◌≡◌, refl, sym, ap, ◌∙◌, ℕ, List, [], Option, Some, Result, Ok, Err}
use Rattle.schedule_text.specs.Puts.{Puts}

-- what stands in a room into which a text was put while it was empty
pub put_whole : {A E : Type 0} (x : A) (before now : List ℕ) (f g : ℕ) (text : List ℕ) → (r : Result A E) → r ≡ Ok x → before ≡ [] → Puts (Some before) (Some now) f g r text → now ≡ text
put_whole x before now f g text (Ok y) is none p = some_of (p.written.taken before refl) ∙ rw none refl
  where
    some_of : {a b : List ℕ} → Some a ≡ Some b → a ≡ b
    some_of e = cc (e)
put_whole x before now f g text (Err y) is none p = absurd (cc (is))
