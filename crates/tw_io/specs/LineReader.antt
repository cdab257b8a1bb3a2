-- What a reader of lines holds, and what it answers of a text.
use Rattle.std.specs.Prelude.{ℕ, ◌-◌, ◌<◌, ◌≡◌, List, [], ◌∷◌, ◌++◌, length, take, drop, Option, Some, None}
use Rattle.tw_io.specs.declared.line_reader.Line.{Line}
use Rattle.tw_io.specs.declared.line_reader.Line.TheVariants as line
use Rattle.tw_io.specs.declared.line_reader.LineReader.{LineReader}
use Rattle.tw_io.specs.Lines.{lines_of, IsOneLine}

-- the bytes that were read and belong to no line that was given
abbrev pub held : LineReader → List ℕ
held r = take (r.end - r.start) (drop r.start r.room.items)

-- the line that was given last
abbrev pub line_given : LineReader → List ℕ
line_given r = take (r.line_end - r.line_start) (drop r.line_start r.room.items)

-- What is answered of a text: its first line, and what follows that; that the first line is longer than a line may be, and
-- then nothing is taken; or that there is no line.
abbrev pub IsNextLine : ℕ → List ℕ → Option Line → List ℕ → List ℕ → Type 0
IsNextLine limit text (Some line.Ended) given rest = (text ≡ given ++ 10 ∷ rest) × IsOneLine given × (lines_of text ≡ given ∷ lines_of rest)
IsNextLine limit text (Some line.Last) given rest = (text ≡ given) × (rest ≡ []) × (lines_of text ≡ given ∷ [])
IsNextLine limit text (Some line.Longer) given rest = (text ≡ rest) × (first : List ℕ) × (others : List (List ℕ)) × (lines_of text ≡ first ∷ others) × (limit < length first)
IsNextLine limit text None given rest = (text ≡ []) × (rest ≡ [])
