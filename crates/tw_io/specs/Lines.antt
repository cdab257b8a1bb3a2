-- Lines of a text.
use Rattle.std.specs.Prelude.{ℕ, ◌<◌, ◌≡◌, ◌≢◌, ◌==◌, if◌then◌else◌, List, [], ◌∷◌, ◌++◌, length, take, count_by}
use Rattle.std.specs.List.{onto_first, AllByRecursion}

-- the lines of a text: each ends by a line feed, which the last may lack
abbrev pub lines_of : List ℕ → List (List ℕ)
lines_of [] = []
lines_of (b ∷ bs) = if b == 10 then [] ∷ lines_of bs else onto_first b (lines_of bs)

-- the lines of a text up to its last line feed: as many, from the front, as there are line feeds
abbrev pub ended_lines : List ℕ → List (List ℕ)
ended_lines bytes = take (count_by (λ b. b == 10) bytes) (lines_of bytes)

-- no byte of it is a line feed
abbrev pub IsOneLine : List ℕ → Type 0
IsOneLine line = AllByRecursion (λ b. b ≢ 10) line

-- the first line of a text, which its end or a line feed ends, and what follows
pub data IsFirstLine (bytes line rest : List ℕ) : Type 0 where
  Ended : IsOneLine line → bytes ≡ line ++ 10 ∷ rest → IsFirstLine bytes line rest
  Last : IsOneLine line → bytes ≡ line → rest ≡ [] → 0 < length line → IsFirstLine bytes line rest
